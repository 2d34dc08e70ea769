use Rattle.sat_base.specs.Formula.{value}
use Rattle.gate_base.proofs.Copying.{copying_grown, like_ite}
use Rattle.gate_base.proofs.assuming.copy_ite.Goals as goal

pub ite-requires-clause-condition : goal.ite-requires-clause-condition
ite-requires-clause-condition c = (c.in-Some.ensures c.args.circuit.now c.args.wanted c.requires.copying).known

pub ite-requires-clause-x : goal.ite-requires-clause-x
ite-requires-clause-x c = (c.in-Some-copy_of.ensures c.args.circuit.now c.args.wanted c.requires.copying).known

pub ite-requires-clause-y : goal.ite-requires-clause-y
ite-requires-clause-y c = (c.in-Some-copy_of-2.ensures c.args.circuit.now c.args.wanted c.requires.copying).known

pub returns-clause-copying : goal.returns-clause-copying
returns-clause-copying c = copying_grown c.args.circuit.now c.args.wanted c.args.copier.now c.ite.new.self c.in_ok-bit.ensures.grows c.requires.copying

pub returns-clause-like : goal.returns-clause-like
returns-clause-like c =
    like_ite c.args.circuit.now c.args.copier.now.fresh c.ite.new.self c.args.copier.now.all c.in-Some.chosen c.in-Some-copy_of.first c.in-Some-copy_of-2.second c.in_ok-bit.bit
    (λ w. value w c.args.condition) (λ w. value w c.args.x) (λ w. value w c.args.y)
    c.in_ok-bit.ensures.grows (c.in-Some.ensures c.args.circuit.now c.args.wanted c.requires.copying) (c.in-Some-copy_of.ensures c.args.circuit.now c.args.wanted c.requires.copying)
    (c.in-Some-copy_of-2.ensures c.args.circuit.now c.args.wanted c.requires.copying) c.in_ok-bit.ensures.bit
