use Rattle.std.proofs.Common.{subst}
use Rattle.v_operators.proofs.Growing.{Grows-refl}
use Rattle.v_operators.proofs.Forms.{some}
use Rattle.v_write.specs.Guard.{IsGuard}
use Rattle.v_write.proofs.Replaced.{choice_sort, choice_made, choice_none}
use Rattle.v_write.proofs.changing.guarded.Goals as goal

pub returns-in-None-clause-grows : goal.returns-in-None-clause-grows
returns-in-None-clause-grows c = Grows-refl c.args.terms.now

pub returns-in-None-clause-choice : goal.returns-in-None-clause-choice
returns-in-None-clause-choice c = choice_none c.args.terms.now c.args.guard c.args.new.0 c.args.old.0 c.in-None.is

pub put-requires-clause-over : goal.put-requires-clause-over
put-requires-clause-over c =
    record { operands = ((subst (IsGuard c.args.terms.now) c.in-Some.is c.requires.guard).below, (c.requires.same.1.below, (c.requires.same.2.below, tt))); names = tt }

pub put-requires-clause-sorted : goal.put-requires-clause-sorted
put-requires-clause-sorted c =
    some _ _
    (choice_sort c.args.terms.now c.in-Some.condition.0 c.args.new.0 c.args.old.0 c.requires.same.0 (subst (IsGuard c.args.terms.now) c.in-Some.is c.requires.guard) c.requires.same.1 c.requires.same.2)

pub returns-in_ok-id-in-Some-clause-choice : goal.returns-in_ok-id-in-Some-clause-choice
returns-in_ok-id-in-Some-clause-choice c =
    choice_made c.args.terms.now c.put.new.terms c.args.guard c.in-Some.condition c.args.new.0 c.args.old.0 c.in_ok-id-in-Some.id.0 c.in-Some.is c.requires.guard c.in_ok-id-in-Some.ensures.below c.in_ok-id-in-Some.ensures.tree
