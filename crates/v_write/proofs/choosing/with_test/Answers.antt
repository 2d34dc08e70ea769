use Rattle.std.proofs.Common.{subst}
use Rattle.v_operators.proofs.Growing.{Grows-refl}
use Rattle.v_write.specs.Guard.{IsGuard}
use Rattle.v_write.proofs.Matches.{first_test, further_test}
use Rattle.v_write.proofs.choosing.with_test.Goals as goal

pub returns-in-None-clause-grows : goal.returns-in-None-clause-grows
returns-in-None-clause-grows c = Grows-refl c.args.terms.now

pub returns-in-None-clause-value : goal.returns-in-None-clause-value
returns-in-None-clause-value c = first_test c.args.terms.now c.args.tests c.args.said.0 c.in-None.is

pub either-requires-clause-left : goal.either-requires-clause-left
either-requires-clause-left c = subst (IsGuard c.args.terms.now) c.in-Some.is c.requires.tests

pub returns-in_ok-id-in-Some-clause-of_sort : goal.returns-in_ok-id-in-Some-clause-of_sort
returns-in_ok-id-in-Some-clause-of_sort c = c.in_ok-id-in-Some.ensures.made.of_sort

pub returns-in_ok-id-in-Some-clause-value : goal.returns-in_ok-id-in-Some-clause-value
returns-in_ok-id-in-Some-clause-value c = further_test c.args.terms.now c.either.new.terms c.args.tests c.in-Some.before c.args.said.0 c.in_ok-id-in-Some.id.0 c.in-Some.is c.in_ok-id-in-Some.ensures.made
