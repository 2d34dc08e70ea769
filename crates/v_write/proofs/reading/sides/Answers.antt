use Rattle.std.proofs.Common.{not}
use Rattle.wb_values.specs.Value.{truth}
use Rattle.v_operators.proofs.Growing.{Grows-trans, IsOfSort-kept, truth_kept}
use Rattle.v_write.proofs.Kept.{guard_there, guard_kept}
use Rattle.v_write.proofs.reading.sides.Goals as goal

pub opposite-requires : goal.opposite-requires
opposite-requires c = IsOfSort-kept c.args.said.0 truth c.in_ok-taken.ensures.grows c.requires.said

pub with-requires-2-clause-guard : goal.with-requires-2-clause-guard
with-requires-2-clause-guard c = guard_there c.args.terms.now c.opposite.new.terms (Grows-trans c.in_ok-taken.ensures.grows c.in_ok-no.ensures.grows) c.args.guard c.requires.guard

pub returns-clause-taken_sort : goal.returns-clause-taken_sort
returns-clause-taken_sort c = IsOfSort-kept c.in_ok-taken.taken.0 truth (Grows-trans c.in_ok-no.ensures.grows c.in_ok-other.ensures.grows) c.in_ok-taken.ensures.of_sort

pub returns-clause-taken : goal.returns-clause-taken
returns-clause-taken c p k b is_k is_b = truth_kept c.in_ok-taken.taken.0 p _ (Grows-trans c.in_ok-no.ensures.grows c.in_ok-other.ensures.grows) c.in_ok-taken.ensures.of_sort.below (c.in_ok-taken.ensures.value p k b is_k is_b)

pub returns-clause-other : goal.returns-clause-other
returns-clause-other c p k b is_k is_b =
    c.in_ok-other.ensures.value p k (not b) (guard_kept c.args.terms.now c.opposite.new.terms (Grows-trans c.in_ok-taken.ensures.grows c.in_ok-no.ensures.grows) p c.args.guard k c.requires.guard is_k)
    (c.in_ok-no.ensures.value p b (truth_kept c.args.said.0 p b c.in_ok-taken.ensures.grows c.requires.said.below is_b))
