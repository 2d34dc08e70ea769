use Rattle.std.proofs.Common.{◌+◌, ap, subst, drop, arith}
use Rattle.wb_values.specs.Value.{word}
use Rattle.v_syntax.specs.Tree.{tree_of, expressions_of, case_kind_of}
use Rattle.v_value.specs.Scope.{scope_at}
use Rattle.v_operators.proofs.Growing.{Grows-trans, IsOfSort-kept}
use Rattle.v_lower.specs.Table.{images_at}
use Rattle.v_lower.proofs.Lowering.{images_kept}
use Rattle.v_write.specs.Matching.{AreComparable, IsTesting}
use Rattle.v_write.proofs.Kept.{guard_there}
use Rattle.v_write.proofs.Trees.{rest_is, none_left}
use Rattle.v_write.proofs.Matches.{testing_begun, testing_more, testing_ended}
use Rattle.v_write.proofs.choosing.item_matches.Goals as goal

pub loop-value-init : goal.loop-value-init
loop-value-init c =
    record {
      so_far = testing_begun (scope_at c.args.scope.now) (images_at c.args.table.now) c.args.terms.now c.args.selector.id.0 c.args.selector.width (case_kind_of c.args.selector.kind) c.args.selector.signed (expressions_of c.args.values.now) c.requires.known c.requires.selector;
      values = c.requires.values;
    }

pub value_matches-requires-clause-known : goal.value_matches-requires-clause-known
value_matches-requires-clause-known c = images_kept (scope_at c.args.scope.now) (images_at c.args.table.now) c.args.terms.now c.loop-value.terms c.loop-value.invariant.so_far.grows c.requires.known

pub value_matches-requires-clause-selector : goal.value_matches-requires-clause-selector
value_matches-requires-clause-selector c = IsOfSort-kept c.args.selector.id.0 (word c.args.selector.width) c.loop-value.invariant.so_far.grows c.requires.selector

pub value_matches-requires-clause-sound : goal.value_matches-requires-clause-sound
value_matches-requires-clause-sound c =
    (subst (AreComparable (scope_at c.args.scope.now) (case_kind_of c.args.selector.kind) c.args.selector.width) (rest_is c.args.values.now c.loop-value.value-index c.value-item.result (omega arith) c.value-item.is) c.loop-value.invariant.values).0

pub value_matches-requires-clause-within : goal.value_matches-requires-clause-within
value_matches-requires-clause-within c =
    (subst (AreComparable (scope_at c.args.scope.now) (case_kind_of c.args.selector.kind) c.args.selector.width) (rest_is c.args.values.now c.loop-value.value-index c.value-item.result (omega arith) c.value-item.is) c.loop-value.invariant.values).1

pub with_test-requires-clause-tests : goal.with_test-requires-clause-tests
with_test-requires-clause-tests c = guard_there c.loop-value.terms c.value_matches.new.terms c.in_ok-said.ensures.grows c.loop-value.tests c.loop-value.invariant.so_far.there

pub with_test-requires-clause-said : goal.with_test-requires-clause-said
with_test-requires-clause-said c = c.in_ok-said.ensures.test.of_sort

pub loop-value-preserved : goal.loop-value-preserved
loop-value-preserved c =
    let s = scope_at c.args.scope.now in
    let im = images_at c.args.table.now in
    let k = case_kind_of c.args.selector.kind in
    let xs = c.args.values.now in
    let i = c.loop-value.value-index in
    let r = c.value-item.result in
    let left = rest_is xs i r (omega arith) c.value-item.is in
    record {
      so_far = testing_more s im c.args.terms.now c.args.selector.id.0 c.args.selector.width k c.args.selector.signed (expressions_of xs) c.requires.known c.requires.selector
          c.loop-value.terms c.value_matches.new.terms c.with_test.new.terms c.loop-value.tests c.in_ok-said.said.0 c.in_ok-all.all (tree_of r) (expressions_of (drop (i + 1) xs))
          (subst (λ ys. IsTesting s im c.args.terms.now c.loop-value.terms c.args.selector.id.0 c.args.selector.width k c.args.selector.signed (expressions_of xs) c.loop-value.tests (expressions_of ys)) left c.loop-value.invariant.so_far)
          c.in_ok-said.ensures.grows c.in_ok-said.ensures.test c.in_ok-all.ensures.grows c.in_ok-all.ensures.of_sort c.in_ok-all.ensures.value;
      values = (subst (AreComparable s k c.args.selector.width) left c.loop-value.invariant.values).2;
    }

pub returns-in_err-said-clause-grows : goal.returns-in_err-said-clause-grows
returns-in_err-said-clause-grows c = Grows-trans c.loop-value.invariant.so_far.grows c.value_matches.ensures.grows

pub returns-in_err-all-clause-grows : goal.returns-in_err-all-clause-grows
returns-in_err-all-clause-grows c = Grows-trans c.loop-value.invariant.so_far.grows (Grows-trans c.in_ok-said.ensures.grows c.with_test.ensures.grows)

pub any_of-requires : goal.any_of-requires
any_of-requires c = c.loop-value.invariant.so_far.there

pub returns-clause-grows : goal.returns-clause-grows
returns-clause-grows c = Grows-trans c.loop-value.invariant.so_far.grows c.in_ok-id.ensures.grows

pub returns-clause-test : goal.returns-clause-test
returns-clause-test c =
    testing_ended (scope_at c.args.scope.now) (images_at c.args.table.now) c.args.terms.now c.args.selector.id.0 c.args.selector.width (case_kind_of c.args.selector.kind) c.args.selector.signed (expressions_of c.args.values.now) c.requires.known c.requires.selector
    c.loop-value.terms c.any_of.new.terms c.loop-value.tests c.in_ok-id.id.0 (expressions_of (drop c.loop-value.value-index c.args.values.now)) (ap expressions_of (none_left c.args.values.now c.loop-value.value-index (omega arith)))
    c.loop-value.invariant.so_far c.in_ok-id.ensures.grows c.in_ok-id.ensures.of_sort c.in_ok-id.ensures.value
