use Rattle.std.proofs.Common.{◌≡◌, ◌+◌, length, arith, ap, subst, sym}
use Rattle.gate_base.specs.Circuit.{Circuit, size, Gives, Grows, gate_value}
use Rattle.gate_base.specs.Clauses.{AreOrdered, IsGateBelow}
use Rattle.gate_base.specs.declared.bits.Bit.{Bit}
use Rattle.gate_base.proofs.Following.{ordered_push, grows_by_gate, gives_gate}
use Rattle.gate_base.proofs.building.Builder.put.Goals as goal

pub invariant_of-self-2 : goal.invariant_of-self-2
invariant_of-self-2 c =
    let below : IsGateBelow (c.self.inside.inputs + length c.self.inside.gates.items) c.args.gate =
    subst (λ (g : Circuit). IsGateBelow (size g) c.args.gate) (sym c.self.view_is) c.requires in
    subst (AreOrdered c.self.inside.inputs) (sym c.in_ok-push.ensures.items)
    (ordered_push c.self.inside.inputs c.self.inside.gates.items c.args.gate c.self.invariant below)

pub returns-clause-bit : goal.returns-clause-bit
returns-clause-bit c =
    let var : c.args.self.now.inputs + c.len-place.result ≡ c.self.inside.inputs + length c.self.inside.gates.items =
    omega (arith, ap (λ (g : Circuit). g.inputs) c.self.view_is, c.len-place.ensures) in
    subst (λ (b : Bit). Gives (record { inputs = c.self.inside.inputs; gates = c.push.new.self.items }) b (λ w. gate_value w c.args.gate)) (sym c.in_ok-bit.ensures)
    (gives_gate c.self.inside.inputs _ c.self.inside.gates.items c.push.new.self.items c.args.gate c.in_ok-push.ensures.items var)

pub returns-clause-grows : goal.returns-clause-grows
returns-clause-grows c =
    subst (λ (old : Circuit). Grows old (record { inputs = c.self.inside.inputs; gates = c.push.new.self.items })) c.self.view_is
    (grows_by_gate c.self.inside.inputs c.self.inside.gates.items c.push.new.self.items c.args.gate c.in_ok-push.ensures.items)
