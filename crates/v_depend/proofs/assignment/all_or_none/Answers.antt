use Rattle.std.proofs.Common.{◌∙◌, sym}
use Rattle.v_depend.proofs.Shifts.{all-set}
use Rattle.v_depend.proofs.assignment.all_or_none.Goals as goal

pub returns-then-all : goal.returns-then-all
returns-then-all c = λ j l. all-set 128 j l ∙ sym c.if-all.true
