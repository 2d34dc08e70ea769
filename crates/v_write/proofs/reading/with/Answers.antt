use Rattle.std.proofs.Common.{subst}
use Rattle.v_operators.proofs.Growing.{Grows-refl}
use Rattle.v_write.specs.Guard.{IsGuard}
use Rattle.v_write.proofs.Lowered.{with_none, with_some}
use Rattle.v_write.proofs.reading.with.Goals as goal

pub returns-in-None-clause-grows : goal.returns-in-None-clause-grows
returns-in-None-clause-grows c = Grows-refl c.args.terms.now

pub returns-in-None-clause-value : goal.returns-in-None-clause-value
returns-in-None-clause-value c = with_none c.args.terms.now c.args.guard c.args.said.0 c.in-None.is

pub both-requires-clause-left : goal.both-requires-clause-left
both-requires-clause-left c = subst (IsGuard c.args.terms.now) c.in-Some.is c.requires.guard

pub returns-in_ok-id-in-Some-clause-of_sort : goal.returns-in_ok-id-in-Some-clause-of_sort
returns-in_ok-id-in-Some-clause-of_sort c = c.in_ok-id-in-Some.ensures.made.of_sort

pub returns-in_ok-id-in-Some-clause-value : goal.returns-in_ok-id-in-Some-clause-value
returns-in_ok-id-in-Some-clause-value c = with_some c.args.terms.now c.both.new.terms c.args.guard c.in-Some.outer c.args.said.0 c.in_ok-id-in-Some.id.0 c.in-Some.is c.in_ok-id-in-Some.ensures.made
