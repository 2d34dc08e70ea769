use Rattle.sat_base.specs.Formula.{value}
use Rattle.gate_base.proofs.Copying.{copying_grown, like_and}
use Rattle.gate_base.proofs.assuming.copy_and.Goals as goal

pub and-requires-clause-x : goal.and-requires-clause-x
and-requires-clause-x c = (c.in-Some.ensures c.args.circuit.now c.args.wanted c.requires.copying).known

pub and-requires-clause-y : goal.and-requires-clause-y
and-requires-clause-y c = (c.in-Some-copy_of.ensures c.args.circuit.now c.args.wanted c.requires.copying).known

pub returns-clause-copying : goal.returns-clause-copying
returns-clause-copying c = copying_grown c.args.circuit.now c.args.wanted c.args.copier.now c.and.new.self c.in_ok-bit.ensures.grows c.requires.copying

pub returns-clause-like : goal.returns-clause-like
returns-clause-like c =
    like_and c.args.circuit.now c.args.copier.now.fresh c.and.new.self c.args.copier.now.all c.in-Some.first c.in-Some-copy_of.second c.in_ok-bit.bit (λ w. value w c.args.x) (λ w. value w c.args.y)
    c.in_ok-bit.ensures.grows (c.in-Some.ensures c.args.circuit.now c.args.wanted c.requires.copying) (c.in-Some-copy_of.ensures c.args.circuit.now c.args.wanted c.requires.copying) c.in_ok-bit.ensures.bit
