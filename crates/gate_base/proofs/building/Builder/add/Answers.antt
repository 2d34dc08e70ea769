use Rattle.std.proofs.Common.{subst, sym}
use Rattle.std.proofs.lemmas.Result.{IfOk-weaker}
use Rattle.gate_base.specs.Circuit.{Gives, gate_value}
use Rattle.gate_base.specs.declared.bits.Bit.{Bit}
use Rattle.gate_base.proofs.Following.{gives_placed}
use Rattle.gate_base.proofs.building.Builder.add.Goals as goal

pub returns-in-Some-clause-bit : goal.returns-in-Some-clause-bit
returns-in-Some-clause-bit c = IfOk-weaker c.bit_at.result _ _
    (λ b own. subst (λ (x : Bit). Gives c.args.self.now x (λ w. gate_value w c.args.gate)) (sym own)
    (gives_placed c.args.self.now c.in-Some.place c.in_order-ordered.result c.args.gate c.in-Some.ensures c.in_order-ordered.ensures.value)) c.bit_at.ensures

pub put-requires : goal.put-requires
put-requires c = c.in_order-ordered.ensures.below _ c.requires
