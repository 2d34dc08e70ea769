use Rattle.std.proofs.Common.{refl, arith}
use Rattle.gate_base.proofs.Copying.{copy_put}
use Rattle.gate_base.proofs.assuming.put_copy.Goals as goal

pub returns-then-var-len : goal.returns-then-var-len
returns-then-var-len c =
    copy_put c.args.circuit.now c.args.wanted c.args.copier.now _ c.args.var c.args.bit (omega (arith, c.if-var-len.true, c.len.ensures)) refl c.requires.like c.requires.copying
