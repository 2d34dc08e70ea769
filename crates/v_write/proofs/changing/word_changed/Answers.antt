use Rattle.v_value.specs.Scope.{object_of}
use Rattle.v_operators.proofs.Growing.{Grows-refl}
use Rattle.v_write.proofs.Replaced.{whole_changed}
use Rattle.v_write.proofs.changing.word_changed.Goals as goal

pub returns-in-All-clause-grows : goal.returns-in-All-clause-grows
returns-in-All-clause-grows c = Grows-refl c.args.terms.now

pub returns-in-All-clause-changed : goal.returns-in-All-clause-changed
returns-in-All-clause-changed c =
    whole_changed (object_of c.args.object) c.args.terms.now c.args.part.now.bits c.args.old.0 c.args.number.0 c.args.part.now.count c.args.width c.in-All.is c.requires.width c.requires.bits c.requires.number
