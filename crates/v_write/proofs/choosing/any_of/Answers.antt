use Rattle.std.proofs.Common.{refl, subst}
use Rattle.wb_values.specs.Value.{truth}
use Rattle.v_operators.proofs.Growing.{Grows-refl}
use Rattle.v_operators.proofs.Forms.{formed}
use Rattle.v_write.specs.Guard.{IsGuard}
use Rattle.v_write.proofs.Matches.{no_test, some_test}
use Rattle.v_write.proofs.choosing.any_of.Goals as goal

pub put-requires-clause-over : goal.put-requires-clause-over
put-requires-clause-over c = record { operands = tt; names = tt }

pub put-requires-clause-sorted : goal.put-requires-clause-sorted
put-requires-clause-sorted c = refl

pub returns-in_ok-id-in-None-clause-of_sort : goal.returns-in_ok-id-in-None-clause-of_sort
returns-in_ok-id-in-None-clause-of_sort c = formed c.put.new.terms c.in_ok-id-in-None.id.0 _ truth c.in_ok-id-in-None.ensures.below c.in_ok-id-in-None.ensures.tree refl

pub returns-in_ok-id-in-None-clause-value : goal.returns-in_ok-id-in-None-clause-value
returns-in_ok-id-in-None-clause-value c = no_test c.args.terms.now c.put.new.terms c.args.tests c.in_ok-id-in-None.id.0 c.in-None.is c.in_ok-id-in-None.ensures.tree

pub returns-in-Some-clause-grows : goal.returns-in-Some-clause-grows
returns-in-Some-clause-grows c = Grows-refl c.args.terms.now

pub returns-in-Some-clause-of_sort : goal.returns-in-Some-clause-of_sort
returns-in-Some-clause-of_sort c = subst (IsGuard c.args.terms.now) c.in-Some.is c.requires

pub returns-in-Some-clause-value : goal.returns-in-Some-clause-value
returns-in-Some-clause-value c = some_test c.args.terms.now c.args.tests c.in-Some.id c.in-Some.is
