use Rattle.std.proofs.Common.{◌≤◌, ◌<◌, ◌^◌, ◌∙◌, ◌+◌, drop, ap, sym, subst, rules, arith}
use Rattle.v_value.specs.Scope.{object_of, scope_at, valuation_at}
use Rattle.v_syntax.specs.Tree.{tree_of, select_of, expressions_of}
use Rattle.v_value.specs.Evaluation.{width_at, value_at, context_width, parts_width, parts_value}
use Rattle.v_syntax.specs.declared.tree.Expression.{the_lemmas}
use Rattle.v_value.proofs.Arms as arms
use Rattle.v_value.proofs.Steps as steps
use Rattle.v_value.proofs.Selected as selected
use Rattle.v_value.proofs.Taking as taking
use Rattle.v_value.specs.Index.{integer_at, span_of}
use Rattle.v_value.proofs.Values.{self_is, count-value}
use Rattle.verilog_meaning.specs.Expression.{widths_of}
use Rattle.v_value.specs.Narrow.{IsNarrow, AreNarrow}
use Rattle.v_value.specs.Links.{AreLinksNarrow, AreChoicesNarrow}
use Rattle.v_value.proofs.Widths as widths
use Rattle.v_value.proofs.Narrows as narrow
use Rattle.v_value.proofs.+value.Goals as goal

pub value::value_in-widened-requires-clause-wider : goal.value::value_in-widened-requires-clause-wider
value::value_in-widened-requires-clause-wider t c =
    arms.number-within (scope_at c.args.scope.now) (valuation_at c.args.values.now) c.args.expression.now c.args.width c.args.signed 0 c.requires.narrow c.requires.within c.in-Number.number c.in-Number.is

pub value::value_in-in_context-requires-clause-wider : goal.value::value_in-in_context-requires-clause-wider
value::value_in-in_context-requires-clause-wider t c =
    subst (λ u. u ≤ c.args.width) (sym c.named.ensures.width) (arms.name-within (scope_at c.args.scope.now) (valuation_at c.args.values.now) c.args.expression.now c.args.width c.args.signed 0 c.requires.narrow c.requires.within c.in-Name.name c.in-Name.selects c.in-Name.is)

pub value::value_in-joined-requires : goal.value::value_in-joined-requires
value::value_in-joined-requires t c =
    (search (rules, the_lemmas), (c.requires.ready, (arms.parts-narrow (scope_at c.args.scope.now) (valuation_at c.args.values.now) c.args.expression.now c.args.width c.args.signed 0 c.requires.narrow c.requires.within c.in-Concatenation.parts c.in-Concatenation.is c.deref.result.now c.deref.ensures.value, (arms.parts-some (scope_at c.args.scope.now) (valuation_at c.args.values.now) c.args.expression.now c.args.width c.args.signed 0 c.requires.narrow c.requires.within c.in-Concatenation.parts c.in-Concatenation.is c.deref.result.now c.deref.ensures.value, arms.parts-most (scope_at c.args.scope.now) (valuation_at c.args.values.now) c.args.expression.now c.args.width c.args.signed 0 c.requires.narrow c.requires.within c.in-Concatenation.parts c.in-Concatenation.is c.deref.result.now c.deref.ensures.value))))

pub value::value_in-in_context-requires-in-Concatenation-clause-wider : goal.value::value_in-in_context-requires-in-Concatenation-clause-wider
value::value_in-in_context-requires-in-Concatenation-clause-wider t c =
    subst (λ u. u ≤ c.args.width) (sym c.joined.ensures.width) (arms.parts-within (scope_at c.args.scope.now) (valuation_at c.args.values.now) c.args.expression.now c.args.width c.args.signed 0 c.requires.narrow c.requires.within c.in-Concatenation.parts c.in-Concatenation.is c.deref.result.now c.deref.ensures.value)

pub value::value_in-in_context-requires-in-AsSigned-clause-wider : goal.value::value_in-in_context-requires-in-AsSigned-clause-wider
value::value_in-in_context-requires-in-AsSigned-clause-wider t c =
    subst (λ u. u ≤ c.args.width) (sym c.self_value.ensures.width) (arms.signed-within (scope_at c.args.scope.now) (valuation_at c.args.values.now) c.args.expression.now c.args.width c.args.signed 0 c.requires.narrow c.requires.within c.in-AsSigned.operand c.in-AsSigned.is c.deref-in-AsSigned.result.now c.deref-in-AsSigned.ensures)

pub value::value_in-in_context-requires-in-AsUnsigned-clause-wider : goal.value::value_in-in_context-requires-in-AsUnsigned-clause-wider
value::value_in-in_context-requires-in-AsUnsigned-clause-wider t c =
    subst (λ u. u ≤ c.args.width) (sym c.self_value-in-AsUnsigned.ensures.width) (arms.unsigned-within (scope_at c.args.scope.now) (valuation_at c.args.values.now) c.args.expression.now c.args.width c.args.signed 0 c.requires.narrow c.requires.within c.in-AsUnsigned.operand c.in-AsUnsigned.is c.deref-in-AsUnsigned.result.now c.deref-in-AsUnsigned.ensures)

pub value::value_in-prefixed_value-requires : goal.value::value_in-prefixed_value-requires
value::value_in-prefixed_value-requires t c =
    (search (rules, the_lemmas), (c.requires.ready, (arms.prefix-narrow (scope_at c.args.scope.now) (valuation_at c.args.values.now) c.args.expression.now c.args.width c.args.signed 0 c.requires.narrow c.requires.within c.in-Prefix.operators c.in-Prefix.operand c.in-Prefix.is c.deref-in-Prefix.result.now c.deref-in-Prefix.ensures, (arms.prefix-within (scope_at c.args.scope.now) (valuation_at c.args.values.now) c.args.expression.now c.args.width c.args.signed 0 c.requires.narrow c.requires.within c.in-Prefix.operators c.in-Prefix.operand c.in-Prefix.is c.deref-in-Prefix.result.now c.deref-in-Prefix.ensures c.deref-in-Prefix-2.result.now c.deref-in-Prefix-2.ensures.value, (arms.some_bits (scope_at c.args.scope.now) c.args.expression.now c.args.width c.requires.narrow c.requires.within, c.requires.at_most_128)))))

pub value::value_in-value_in-left-requires : goal.value::value_in-value_in-left-requires
value::value_in-value_in-left-requires t c =
    (search (rules, the_lemmas), (c.requires.ready, (arms.first-narrow (scope_at c.args.scope.now) (valuation_at c.args.values.now) c.args.expression.now c.args.width c.args.signed 0 c.requires.narrow c.requires.within c.in-Binary.first c.in-Binary.links c.in-Binary.is c.deref-in-Binary.result.now c.deref-in-Binary.ensures, (arms.first-within (scope_at c.args.scope.now) (valuation_at c.args.values.now) c.args.expression.now c.args.width c.args.signed 0 c.requires.narrow c.requires.within c.in-Binary.first c.in-Binary.links c.in-Binary.is c.deref-in-Binary.result.now c.deref-in-Binary.ensures, c.requires.at_most_128))))

pub value::value_in-linked_value-requires : goal.value::value_in-linked_value-requires
value::value_in-linked_value-requires t c =
    (search (rules, the_lemmas), (c.requires.ready, (arms.links-narrow (scope_at c.args.scope.now) (valuation_at c.args.values.now) c.args.expression.now c.args.width c.args.signed 0 c.requires.narrow c.requires.within c.in-Binary.first c.in-Binary.links c.in-Binary.is c.deref-in-Binary-2.result.now c.deref-in-Binary-2.ensures.value, (arms.links-within (scope_at c.args.scope.now) (valuation_at c.args.values.now) c.args.expression.now c.args.width c.args.signed 0 c.requires.narrow c.requires.within c.in-Binary.first c.in-Binary.links c.in-Binary.is c.deref-in-Binary-2.result.now c.deref-in-Binary-2.ensures.value, (arms.some_bits (scope_at c.args.scope.now) c.args.expression.now c.args.width c.requires.narrow c.requires.within, (c.requires.at_most_128, c.value_in-left.ensures.fits))))))

pub value::value_in-operand_width-own_width-requires : goal.value::value_in-operand_width-own_width-requires
value::value_in-operand_width-own_width-requires t c =
    (search (rules, the_lemmas), arms.test-narrow (scope_at c.args.scope.now) (valuation_at c.args.values.now) c.args.expression.now c.args.width c.args.signed 0 c.requires.narrow c.requires.within c.in-Test.first c.in-Test.links c.in-Test.is c.deref-in-Test.result.now c.deref-in-Test.ensures)

pub value::value_in-context_width-first_width-requires : goal.value::value_in-context_width-first_width-requires
value::value_in-context_width-first_width-requires t c =
    (search (rules, the_lemmas), arms.tests-narrow (scope_at c.args.scope.now) (valuation_at c.args.values.now) c.args.expression.now c.args.width c.args.signed 0 c.requires.narrow c.requires.within c.in-Test.first c.in-Test.links c.in-Test.is c.deref-in-Test-3.result.now c.deref-in-Test-3.ensures.value)

pub value::value_in-value_in-value-requires : goal.value::value_in-value_in-value-requires
value::value_in-value_in-value-requires t c =
    (search (rules, the_lemmas), (c.requires.ready, (arms.test-narrow (scope_at c.args.scope.now) (valuation_at c.args.values.now) c.args.expression.now c.args.width c.args.signed 0 c.requires.narrow c.requires.within c.in-Test.first c.in-Test.links c.in-Test.is c.deref-in-Test-5.result.now c.deref-in-Test-5.ensures, (arms.context-within (scope_at c.args.scope.now) (valuation_at c.args.values.now) c.args.expression.now c.args.width c.args.signed c.requires.narrow c.requires.within c.in-Test.first c.in-Test.links c.in-Test.is c.deref-in-Test.result.now c.operand_width-own_width.result c.deref-in-Test.ensures c.operand_width-own_width.ensures.width c.deref-in-Test-3.result.now c.deref-in-Test-3.ensures.value c.context_width-first_width.result c.context_width-first_width.ensures c.deref-in-Test-5.result.now c.deref-in-Test-5.ensures, arms.context-most (scope_at c.args.scope.now) (valuation_at c.args.values.now) c.args.expression.now c.args.width c.args.signed c.requires.narrow c.requires.within c.in-Test.first c.in-Test.links c.in-Test.is c.deref-in-Test.result.now c.operand_width-own_width.result c.deref-in-Test.ensures c.operand_width-own_width.ensures.width c.deref-in-Test-3.result.now c.deref-in-Test-3.ensures.value c.context_width-first_width.result c.context_width-first_width.ensures c.operand_width-own_width.ensures.at_most_128 c.requires.at_most_128))))

pub value::value_in-tests_value-requires : goal.value::value_in-tests_value-requires
value::value_in-tests_value-requires t c =
    (search (rules, the_lemmas), (c.requires.ready, (arms.tests-narrow (scope_at c.args.scope.now) (valuation_at c.args.values.now) c.args.expression.now c.args.width c.args.signed 0 c.requires.narrow c.requires.within c.in-Test.first c.in-Test.links c.in-Test.is c.deref-in-Test-6.result.now c.deref-in-Test-6.ensures.value, (c.operand_width-own_width.ensures.some_bits, (c.operand_width-own_width.ensures.at_most_128, (arms.some_bits (scope_at c.args.scope.now) c.args.expression.now c.args.width c.requires.narrow c.requires.within, arms.context-fits (scope_at c.args.scope.now) (valuation_at c.args.values.now) c.args.expression.now c.args.width c.args.signed c.requires.narrow c.requires.within c.in-Test.first c.in-Test.links c.in-Test.is c.deref-in-Test.result.now c.operand_width-own_width.result c.deref-in-Test.ensures c.operand_width-own_width.ensures.width c.deref-in-Test-3.result.now c.deref-in-Test-3.ensures.value c.context_width-first_width.result c.context_width-first_width.ensures c.deref-in-Test-6.result.now c.deref-in-Test-6.ensures.value c.value_in-value.result c.value_in-value.ensures.fits))))))

pub value::value_in-chosen_value-requires : goal.value::value_in-chosen_value-requires
value::value_in-chosen_value-requires t c =
    (search (rules, the_lemmas), (c.requires.ready, (arms.choices-narrow (scope_at c.args.scope.now) (valuation_at c.args.values.now) c.args.expression.now c.args.width c.args.signed 0 c.requires.narrow c.requires.within c.in-Conditional.choices c.in-Conditional.last c.in-Conditional.is c.deref-in-Conditional.result.now c.deref-in-Conditional.ensures.value, (arms.choices-within (scope_at c.args.scope.now) (valuation_at c.args.values.now) c.args.expression.now c.args.width c.args.signed 0 c.requires.narrow c.requires.within c.in-Conditional.choices c.in-Conditional.last c.in-Conditional.is c.deref-in-Conditional.result.now c.deref-in-Conditional.ensures.value, c.requires.at_most_128))))

pub value::value_in-value_in-requires : goal.value::value_in-value_in-requires
value::value_in-value_in-requires t c =
    (search (rules, the_lemmas), (c.requires.ready, (arms.last-narrow (scope_at c.args.scope.now) (valuation_at c.args.values.now) c.args.expression.now c.args.width c.args.signed 0 c.requires.narrow c.requires.within c.in-Conditional.choices c.in-Conditional.last c.in-Conditional.is c.deref-in-None.result.now c.deref-in-None.ensures, (arms.last-within (scope_at c.args.scope.now) (valuation_at c.args.values.now) c.args.expression.now c.args.width c.args.signed 0 c.requires.narrow c.requires.within c.in-Conditional.choices c.in-Conditional.last c.in-Conditional.is c.deref-in-None.result.now c.deref-in-None.ensures, c.requires.at_most_128))))

pub value::value_in-returns-in-Number-clause-value : goal.value::value_in-returns-in-Number-clause-value
value::value_in-returns-in-Number-clause-value t c =
    arms.number-value (scope_at c.args.scope.now) (valuation_at c.args.values.now) c.args.expression.now c.args.width c.args.signed c.widened.result c.requires.narrow c.requires.within c.in-Number.number c.in-Number.is c.widened.ensures.value

pub value::value_in-returns-in-Name-clause-value : goal.value::value_in-returns-in-Name-clause-value
value::value_in-returns-in-Name-clause-value t c =
    arms.name-value (scope_at c.args.scope.now) (valuation_at c.args.values.now) c.args.expression.now c.args.width c.args.signed c.in_context.result c.requires.narrow c.requires.within c.in-Name.name c.in-Name.selects c.in-Name.is c.named.result.width c.named.result.value c.named.ensures.width c.named.ensures.value c.in_context.ensures.value

pub value::value_in-returns-in-Concatenation-clause-value : goal.value::value_in-returns-in-Concatenation-clause-value
value::value_in-returns-in-Concatenation-clause-value t c =
    arms.parts-value (scope_at c.args.scope.now) (valuation_at c.args.values.now) c.args.expression.now c.args.width c.args.signed c.in_context-in-Concatenation.result c.requires.narrow c.requires.within c.in-Concatenation.parts c.in-Concatenation.is c.deref.result.now c.deref.ensures.value c.joined.result.width c.joined.result.value c.joined.ensures.width c.joined.ensures.value c.in_context-in-Concatenation.ensures.value

pub value::value_in-returns-in-AsSigned-clause-value : goal.value::value_in-returns-in-AsSigned-clause-value
value::value_in-returns-in-AsSigned-clause-value t c =
    arms.signed-value (scope_at c.args.scope.now) (valuation_at c.args.values.now) c.args.expression.now c.args.width c.args.signed c.in_context-in-AsSigned.result c.requires.narrow c.requires.within c.in-AsSigned.operand c.in-AsSigned.is c.deref-in-AsSigned.result.now c.deref-in-AsSigned.ensures c.self_value.result.width c.self_value.result.value c.self_value.ensures.width c.self_value.ensures.value c.in_context-in-AsSigned.ensures.value

pub value::value_in-returns-in-AsUnsigned-clause-value : goal.value::value_in-returns-in-AsUnsigned-clause-value
value::value_in-returns-in-AsUnsigned-clause-value t c =
    arms.unsigned-value (scope_at c.args.scope.now) (valuation_at c.args.values.now) c.args.expression.now c.args.width c.args.signed c.in_context-in-AsUnsigned.result c.requires.narrow c.requires.within c.in-AsUnsigned.operand c.in-AsUnsigned.is c.deref-in-AsUnsigned.result.now c.deref-in-AsUnsigned.ensures c.self_value-in-AsUnsigned.result.width c.self_value-in-AsUnsigned.result.value c.self_value-in-AsUnsigned.ensures.width c.self_value-in-AsUnsigned.ensures.value c.in_context-in-AsUnsigned.ensures.value

pub value::value_in-returns-in-Prefix-clause-value : goal.value::value_in-returns-in-Prefix-clause-value
value::value_in-returns-in-Prefix-clause-value t c =
    arms.prefix-value (scope_at c.args.scope.now) (valuation_at c.args.values.now) c.args.expression.now c.args.width c.args.signed c.prefixed_value.result c.requires.narrow c.requires.within c.in-Prefix.operators c.in-Prefix.operand c.in-Prefix.is c.deref-in-Prefix.result.now c.deref-in-Prefix.ensures c.deref-in-Prefix-2.result.now c.deref-in-Prefix-2.ensures.value c.prefixed_value.ensures.value

pub value::value_in-returns-in-Binary-clause-value : goal.value::value_in-returns-in-Binary-clause-value
value::value_in-returns-in-Binary-clause-value t c =
    arms.links-value (scope_at c.args.scope.now) (valuation_at c.args.values.now) c.args.expression.now c.args.width c.args.signed c.linked_value.result c.requires.narrow c.requires.within c.in-Binary.first c.in-Binary.links c.in-Binary.is c.deref-in-Binary.result.now c.deref-in-Binary.ensures c.deref-in-Binary-2.result.now c.deref-in-Binary-2.ensures.value c.value_in-left.result c.value_in-left.ensures.value c.linked_value.ensures.value

pub value::value_in-returns-in-Test-clause-value : goal.value::value_in-returns-in-Test-clause-value
value::value_in-returns-in-Test-clause-value t c =
    arms.chain-value (scope_at c.args.scope.now) (valuation_at c.args.values.now) c.args.expression.now c.args.width c.args.signed c.requires.narrow c.requires.within c.in-Test.first c.in-Test.links c.in-Test.is c.deref-in-Test.result.now c.operand_width-own_width.result c.deref-in-Test.ensures c.operand_width-own_width.ensures.width c.deref-in-Test-3.result.now c.deref-in-Test-3.ensures.value c.context_width-first_width.result c.context_width-first_width.ensures c.deref-in-Test-2.result.now c.deref-in-Test-2.ensures c.operand_sign-own_sign.result c.operand_sign-own_sign.ensures c.deref-in-Test-4.result.now c.deref-in-Test-4.ensures.value c.context_sign-first_sign.result c.context_sign-first_sign.ensures c.deref-in-Test-5.result.now c.deref-in-Test-5.ensures c.value_in-value.result c.value_in-value.ensures.value c.deref-in-Test-6.result.now c.deref-in-Test-6.ensures.value c.tests_value.result c.tests_value.ensures.value

pub value::value_in-returns-in-Some-clause-value : goal.value::value_in-returns-in-Some-clause-value
value::value_in-returns-in-Some-clause-value t c =
    arms.some-value (scope_at c.args.scope.now) (valuation_at c.args.values.now) c.args.expression.now c.args.width c.args.signed c.in-Some.value c.requires.narrow c.requires.within c.in-Conditional.choices c.in-Conditional.last c.in-Conditional.is c.deref-in-Conditional.result.now c.deref-in-Conditional.ensures.value c.in-Some.ensures.value

pub value::value_in-returns-in-None-clause-value : goal.value::value_in-returns-in-None-clause-value
value::value_in-returns-in-None-clause-value t c =
    arms.none-value (scope_at c.args.scope.now) (valuation_at c.args.values.now) c.args.expression.now c.args.width c.args.signed c.value_in.result c.requires.narrow c.requires.within c.in-Conditional.choices c.in-Conditional.last c.in-Conditional.is c.deref-in-Conditional.result.now c.deref-in-Conditional.ensures.value c.in-None.ensures.value c.deref-in-None.result.now c.deref-in-None.ensures c.value_in.ensures.value

pub value::self_value-returns-clause-value : goal.value::self_value-returns-clause-value
value::self_value-returns-clause-value t c =
    c.new.ensures.value ∙ c.value_in.ensures.value ∙ ap (λ w. value_at (scope_at c.args.scope.now) (valuation_at c.args.values.now) (tree_of c.args.expression.now) w c.operand_sign-signed.result) c.operand_width-width.ensures.width ∙ ap (value_at (scope_at c.args.scope.now) (valuation_at c.args.values.now) (tree_of c.args.expression.now) (width_at (scope_at c.args.scope.now) (tree_of c.args.expression.now))) c.operand_sign-signed.ensures ∙ sym (self_is (scope_at c.args.scope.now) (valuation_at c.args.values.now) (tree_of c.args.expression.now))

pub value::prefixed_value-returns-then-reduces-clause-value : goal.value::prefixed_value-returns-then-reduces-clause-value
value::prefixed_value-returns-then-reduces-clause-value t c =
    arms.reduced-value (scope_at c.args.scope.now) (valuation_at c.args.values.now) (tree_of c.args.operand.now) c.args.width c.args.signed c.args.operators.now c.reduces.result c.if-reduces.true c.reduces.ensures c.self_value.result.width c.self_value.result.value c.self_value.ensures.width c.self_value.ensures.value c.prefixed.result c.prefixed.ensures.value

pub value::prefixed_value-returns-else-reduces-clause-value : goal.value::prefixed_value-returns-else-reduces-clause-value
value::prefixed_value-returns-else-reduces-clause-value t c =
    arms.unreduced-value (scope_at c.args.scope.now) (valuation_at c.args.values.now) (tree_of c.args.operand.now) c.args.width c.args.signed c.args.operators.now c.reduces.result c.if-reduces.false c.reduces.ensures c.value_in-value.result c.value_in-value.ensures.value c.new.result.width c.new.result.value c.prefixed-else-reduces.result c.prefixed-else-reduces.ensures.value

pub value::joined-loop-part-preserved : goal.value::joined-loop-part-preserved
value::joined-loop-part-preserved t c =
    record {
      width = steps.width-step (scope_at c.args.scope.now) c.args.parts.now c.loop-part.part-index c.part-item.result c.loop-part-test.true c.part-item.is (parts_width (scope_at c.args.scope.now) c.args.parts.now) c.loop-part.width c.self_value-word.result.width c.loop-part.invariant.width c.self_value-word.ensures.width;
      value = steps.value-step (scope_at c.args.scope.now) (valuation_at c.args.values.now) c.args.parts.now c.loop-part.part-index c.part-item.result c.loop-part-test.true c.part-item.is (parts_value (scope_at c.args.scope.now) (valuation_at c.args.values.now) c.args.parts.now) c.loop-part.value c.self_value-word.result.width c.self_value-word.result.value c.extended-value.result c.loop-part.invariant.value c.self_value-word.ensures.width c.self_value-word.ensures.value c.extended-value.ensures.value;
      fits = c.extended-value.ensures.fits;
      narrow = steps.parts-rest (scope_at c.args.scope.now) c.args.parts.now c.loop-part.part-index c.part-item.result c.loop-part-test.true c.part-item.is c.loop-part.invariant.narrow;
    }

pub value::tests_value-loop-link-preserved : goal.value::tests_value-loop-link-preserved
value::tests_value-loop-link-preserved t c =
    record {
      same = c.loop-link.invariant.same ∙ steps.tests-step (scope_at c.args.scope.now) (valuation_at c.args.values.now) c.loop-link.left.width c.loop-link.left.signed c.loop-link.left.value c.args.links.now c.loop-link.link-index c.link-item.result c.loop-link-test.true c.link-item.is c.tested-truth.result c.tested-truth.ensures c.bit.result c.bit.ensures.value;
      narrow = steps.tests-rest (scope_at c.args.scope.now) c.args.links.now c.loop-link.link-index c.link-item.result c.loop-link-test.true c.link-item.is c.loop-link.invariant.narrow;
      some_bits = omega arith;
      at_most_128 = omega arith;
      fits = subst (λ x. x < 2 ^ context_width (scope_at c.args.scope.now) 1 (drop (c.loop-link.link-index + 1) c.args.links.now) c.args.width) (sym c.bit.ensures.value) (arms.bit-context (scope_at c.args.scope.now) (drop (c.loop-link.link-index + 1) c.args.links.now) c.args.width c.tested-truth.result c.requires.context);
    }

pub value::value_in-named-requires : goal.value::value_in-named-requires
value::value_in-named-requires t c =
    (search (rules, the_lemmas), (c.requires.ready, (arms.name-narrow (scope_at c.args.scope.now) (valuation_at c.args.values.now) c.args.expression.now c.args.width c.args.signed 0 c.requires.narrow c.requires.within c.in-Name.name c.in-Name.selects c.in-Name.is, arms.name-width (scope_at c.args.scope.now) (valuation_at c.args.values.now) c.args.expression.now c.args.width c.args.signed 0 c.requires.narrow c.requires.within c.in-Name.name c.in-Name.selects c.in-Name.is)))

pub value::named-returns-in-Whole-clause-width : goal.value::named-returns-in-Whole-clause-width
value::named-returns-in-Whole-clause-width t c =
    selected.whole-width (scope_at c.args.scope.now) (valuation_at c.args.values.now) c.args.name.now c.args.selects.now c.requires.1.1.1.0 c.requires.1.1.1.1 c.in-Whole.is c.named_value.result.width c.named_value.ensures.width

pub value::named-returns-in-Whole-clause-value : goal.value::named-returns-in-Whole-clause-value
value::named-returns-in-Whole-clause-value t c =
    selected.whole-value (scope_at c.args.scope.now) (valuation_at c.args.values.now) c.args.name.now c.args.selects.now c.requires.1.1.1.0 c.requires.1.1.1.1 c.in-Whole.is c.named_value.result.value c.named_value.ensures.value

pub width::width_of-parts_width-requires : goal.width::width_of-parts_width-requires
width::width_of-parts_width-requires t c =
    let s = scope_at c.args.scope.now in
    let h = narrow.of-Concatenation s c.args.expression.now c.requires.narrow c.in-Concatenation.parts c.in-Concatenation.is in
    let k = sym c.deref.ensures.value in
    (search (rules, the_lemmas), (subst (λ es. AreNarrow s (expressions_of es)) k h.1, subst (λ es. widths_of s (expressions_of es) ≤ 128) k h.0.1))

pub width::width_of-width_of-requires-in-Prefix : goal.width::width_of-width_of-requires-in-Prefix
width::width_of-width_of-requires-in-Prefix t c =
    let s = scope_at c.args.scope.now in
    let h = narrow.of-Prefix s c.args.expression.now c.requires.narrow c.in-Prefix.operators c.in-Prefix.operand c.in-Prefix.is in
    (search (rules, the_lemmas), subst (λ x. IsNarrow s (tree_of x)) (sym c.deref-in-Prefix-2.ensures) h)

pub width::width_of-width_of-requires-in-Binary : goal.width::width_of-width_of-requires-in-Binary
width::width_of-width_of-requires-in-Binary t c =
    let s = scope_at c.args.scope.now in
    let h = narrow.of-Binary s c.args.expression.now c.requires.narrow c.in-Binary.first c.in-Binary.links c.in-Binary.is in
    (search (rules, the_lemmas), subst (λ x. IsNarrow s (tree_of x)) (sym c.deref-in-Binary-2.ensures) h.0)

pub width::width_of-linked_width-requires : goal.width::width_of-linked_width-requires
width::width_of-linked_width-requires t c =
    let s = scope_at c.args.scope.now in
    let h = narrow.of-Binary s c.args.expression.now c.requires.narrow c.in-Binary.first c.in-Binary.links c.in-Binary.is in
    (search (rules, the_lemmas), subst (AreLinksNarrow s) (sym c.deref-in-Binary.ensures.value) h.1)

pub width::width_of-width_of-requires-in-Test : goal.width::width_of-width_of-requires-in-Test
width::width_of-width_of-requires-in-Test t c =
    let s = scope_at c.args.scope.now in
    let h = narrow.of-Test s c.args.expression.now c.requires.narrow c.in-Test.first c.in-Test.links c.in-Test.is in
    (search (rules, the_lemmas), subst (λ x. IsNarrow s (tree_of x)) (sym c.deref-in-Test.ensures) h.0)

pub width::width_of-width_of-requires-in-Conditional : goal.width::width_of-width_of-requires-in-Conditional
width::width_of-width_of-requires-in-Conditional t c =
    let s = scope_at c.args.scope.now in
    let h = narrow.of-Conditional s c.args.expression.now c.requires.narrow c.in-Conditional.choices c.in-Conditional.last c.in-Conditional.is in
    (search (rules, the_lemmas), subst (λ x. IsNarrow s (tree_of x)) (sym c.deref-in-Conditional-2.ensures) h.1)

pub width::width_of-chosen_width-requires : goal.width::width_of-chosen_width-requires
width::width_of-chosen_width-requires t c =
    let s = scope_at c.args.scope.now in
    let h = narrow.of-Conditional s c.args.expression.now c.requires.narrow c.in-Conditional.choices c.in-Conditional.last c.in-Conditional.is in
    (search (rules, the_lemmas), subst (AreChoicesNarrow s) (sym c.deref-in-Conditional.ensures.value) h.0)

pub width::width_of-returns-in-Concatenation : goal.width::width_of-returns-in-Concatenation
width::width_of-returns-in-Concatenation t c =
    widths.at-Concatenation (scope_at c.args.scope.now) c.args.expression.now c.parts_width.result c.in-Concatenation.parts c.in-Concatenation.is
    c.deref.result.now c.deref.ensures.value c.parts_width.ensures

pub width::width_of-returns-in-Prefix : goal.width::width_of-returns-in-Prefix
width::width_of-returns-in-Prefix t c =
    widths.at-Prefix (scope_at c.args.scope.now) c.args.expression.now c.deref-in-Prefix-2.result.now c.width_of-in-Prefix.result c.prefixed_width.result c.width_of-in-Prefix.ensures
    c.in-Prefix.operators c.in-Prefix.operand c.in-Prefix.is c.deref-in-Prefix-2.ensures c.deref-in-Prefix.result.now c.deref-in-Prefix.ensures.value c.prefixed_width.ensures

pub width::width_of-returns-in-Binary : goal.width::width_of-returns-in-Binary
width::width_of-returns-in-Binary t c =
    widths.at-Binary (scope_at c.args.scope.now) c.args.expression.now c.deref-in-Binary-2.result.now c.width_of-in-Binary.result c.linked_width.result c.width_of-in-Binary.ensures
    c.in-Binary.first c.in-Binary.links c.in-Binary.is c.deref-in-Binary-2.ensures c.deref-in-Binary.result.now c.deref-in-Binary.ensures.value c.linked_width.ensures

pub width::width_of-returns-in-Test : goal.width::width_of-returns-in-Test
width::width_of-returns-in-Test t c =
    widths.at-Test (scope_at c.args.scope.now) c.args.expression.now c.deref-in-Test.result.now c.width_of-in-Test.result c.tested_width.result c.width_of-in-Test.ensures
    c.in-Test.first c.in-Test.links c.in-Test.is c.deref-in-Test.ensures c.deref-in-Test-2.result.now c.deref-in-Test-2.ensures.value c.tested_width.ensures

pub width::width_of-returns-in-Conditional : goal.width::width_of-returns-in-Conditional
width::width_of-returns-in-Conditional t c =
    widths.at-Conditional (scope_at c.args.scope.now) c.args.expression.now c.deref-in-Conditional-2.result.now c.width_of-in-Conditional.result c.chosen_width.result c.width_of-in-Conditional.ensures
    c.in-Conditional.choices c.in-Conditional.last c.in-Conditional.is c.deref-in-Conditional-2.ensures c.deref-in-Conditional.result.now c.deref-in-Conditional.ensures.value c.chosen_width.ensures

pub value::operand_width-returns-clause-width : goal.value::operand_width-returns-clause-width
unfolding width_at
value::operand_width-returns-clause-width t c = c.width_of.ensures

pub value::operand_width-returns-clause-some_bits : goal.value::operand_width-returns-clause-some_bits
value::operand_width-returns-clause-some_bits t c =
    subst (λ w. 1 ≤ w) (sym c.width_of.ensures) (narrow.narrow_width (scope_at c.args.scope.now) (tree_of c.args.operand.now) c.requires.narrow).0

pub value::operand_width-returns-clause-at_most_128 : goal.value::operand_width-returns-clause-at_most_128
value::operand_width-returns-clause-at_most_128 t c =
    subst (λ w. w ≤ 128) (sym c.width_of.ensures) (narrow.narrow_width (scope_at c.args.scope.now) (tree_of c.args.operand.now) c.requires.narrow).1

pub value::constant_of-returns : goal.value::constant_of-returns
value::constant_of-returns t c =
    count-value (scope_at c.args.scope.now) (tree_of c.args.expression.now) c.operand_sign.result c.self_value.result.width c.self_value.result.value c.operand_sign.ensures c.self_value.ensures.width c.self_value.ensures.value c.natural.result c.natural.ensures

pub value::value_in-joined-requires-in-Replication : goal.value::value_in-joined-requires-in-Replication
value::value_in-joined-requires-in-Replication t c =
    (search (rules, the_lemmas), (c.requires.ready, (arms.repeated-narrow (scope_at c.args.scope.now) (valuation_at c.args.values.now) c.args.expression.now c.args.width c.args.signed 0 c.requires.narrow c.requires.within c.in-Replication.count c.in-Replication.parts c.in-Replication.is c.deref-in-Replication-2.result.now c.deref-in-Replication-2.ensures.value, (arms.repeated-some (scope_at c.args.scope.now) (valuation_at c.args.values.now) c.args.expression.now c.args.width c.args.signed 0 c.requires.narrow c.requires.within c.in-Replication.count c.in-Replication.parts c.in-Replication.is c.deref-in-Replication-2.result.now c.deref-in-Replication-2.ensures.value, arms.repeated-most (scope_at c.args.scope.now) (valuation_at c.args.values.now) c.args.expression.now c.args.width c.args.signed 0 c.requires.narrow c.requires.within c.in-Replication.count c.in-Replication.parts c.in-Replication.is c.deref-in-Replication-2.result.now c.deref-in-Replication-2.ensures.value))))

pub value::value_in-copies-requires-clause-some : goal.value::value_in-copies-requires-clause-some
value::value_in-copies-requires-clause-some t c = arms.count-some (scope_at c.args.scope.now) (valuation_at c.args.values.now) c.args.expression.now c.args.width c.args.signed 0 c.requires.narrow c.requires.within c.in-Replication.count c.in-Replication.parts c.in-Replication.is c.deref-in-Replication.result.now c.deref-in-Replication.ensures c.constant_of.result c.constant_of.ensures

pub value::value_in-copies-requires-clause-at_most_128 : goal.value::value_in-copies-requires-clause-at_most_128
value::value_in-copies-requires-clause-at_most_128 t c = arms.copies-most (scope_at c.args.scope.now) (valuation_at c.args.values.now) c.args.expression.now c.args.width c.args.signed 0 c.requires.narrow c.requires.within c.in-Replication.count c.in-Replication.parts c.in-Replication.is c.deref-in-Replication.result.now c.deref-in-Replication.ensures c.constant_of.result c.constant_of.ensures c.deref-in-Replication-2.result.now c.deref-in-Replication-2.ensures.value c.joined-in-Replication.result.width c.joined-in-Replication.ensures.width

pub value::value_in-in_context-requires-in-Replication-clause-wider : goal.value::value_in-in_context-requires-in-Replication-clause-wider
value::value_in-in_context-requires-in-Replication-clause-wider t c =
    subst (λ u. u ≤ c.args.width) (sym c.copies.ensures.width) (arms.copies-within (scope_at c.args.scope.now) (valuation_at c.args.values.now) c.args.expression.now c.args.width c.args.signed 0 c.requires.narrow c.requires.within c.in-Replication.count c.in-Replication.parts c.in-Replication.is c.deref-in-Replication.result.now c.deref-in-Replication.ensures c.constant_of.result c.constant_of.ensures c.deref-in-Replication-2.result.now c.deref-in-Replication-2.ensures.value c.joined-in-Replication.result.width c.joined-in-Replication.ensures.width)

pub value::value_in-returns-in-Replication-clause-value : goal.value::value_in-returns-in-Replication-clause-value
value::value_in-returns-in-Replication-clause-value t c =
    arms.copies-value (scope_at c.args.scope.now) (valuation_at c.args.values.now) c.args.expression.now c.args.width c.args.signed c.in_context-in-Replication.result c.requires.narrow c.requires.within c.in-Replication.count c.in-Replication.parts c.in-Replication.is c.deref-in-Replication.result.now c.deref-in-Replication.ensures c.constant_of.result c.constant_of.ensures c.deref-in-Replication-2.result.now c.deref-in-Replication-2.ensures.value c.joined-in-Replication.result.width c.joined-in-Replication.result.value c.joined-in-Replication.ensures.width c.joined-in-Replication.ensures.value c.copies.result.width c.copies.result.value c.copies.ensures.width c.copies.ensures.value c.in_context-in-Replication.ensures.value

pub width::width_of-parts_width-requires-in-Replication : goal.width::width_of-parts_width-requires-in-Replication
width::width_of-parts_width-requires-in-Replication t c =
    let s = scope_at c.args.scope.now in
    let h = narrow.of-Replication s c.args.expression.now c.requires.narrow c.in-Replication.count c.in-Replication.parts c.in-Replication.is in
    (search (rules, the_lemmas), (subst (λ es. AreNarrow s (expressions_of es)) (sym c.deref-in-Replication-2.ensures.value) h.3, widths.repeated-most s c.args.expression.now c.requires.narrow c.in-Replication.count c.in-Replication.parts c.in-Replication.is c.deref-in-Replication-2.result.now c.deref-in-Replication-2.ensures.value))

pub width::width_of-repeated_width-requires : goal.width::width_of-repeated_width-requires
width::width_of-repeated_width-requires t c =
    widths.copies-most (scope_at c.args.scope.now) c.args.expression.now c.requires.narrow c.in-Replication.count c.in-Replication.parts c.in-Replication.is c.deref-in-Replication.result.now c.deref-in-Replication.ensures c.constant_of.result c.constant_of.ensures c.deref-in-Replication-2.result.now c.deref-in-Replication-2.ensures.value c.parts_width-in-Replication.result c.parts_width-in-Replication.ensures

pub width::width_of-returns-in-Replication : goal.width::width_of-returns-in-Replication
width::width_of-returns-in-Replication t c =
    widths.at-Replication (scope_at c.args.scope.now) c.args.expression.now c.in-Replication.count c.in-Replication.parts c.in-Replication.is c.deref-in-Replication.result.now c.deref-in-Replication.ensures c.constant_of.result c.constant_of.ensures c.deref-in-Replication-2.result.now c.deref-in-Replication-2.ensures.value c.parts_width-in-Replication.result c.parts_width-in-Replication.ensures c.repeated_width.result c.repeated_width.ensures

pub taken::integer_by_itself-returns-clause-value : goal.taken::integer_by_itself-returns-clause-value
taken::integer_by_itself-returns-clause-value t c =
    taking.integer-value (scope_at c.args.scope.now) (valuation_at c.args.values.now) (tree_of c.args.expression.now) c.operand_sign.result c.self_value-word.result.width c.self_value-word.result.value c.operand_sign.ensures c.self_value-word.ensures.width c.self_value-word.ensures.value (integer_at c.integer_of.result) c.integer_of.ensures.value

pub taken::bound_of-returns-clause-value : goal.taken::bound_of-returns-clause-value
taken::bound_of-returns-clause-value t c =
    taking.bound-value (scope_at c.args.scope.now) (tree_of c.args.expression.now) (integer_at c.integer_by_itself.result) c.integer_by_itself.ensures.value

pub taken::index_of-returns-in-Index : goal.taken::index_of-returns-in-Index
taken::index_of-returns-in-Index t c =
    taking.index-value (scope_at c.args.scope.now) c.args.select.now c.in-Index.index c.in-Index.is (valuation_at c.args.values.now) c.deref.result.now c.deref.ensures (integer_at c.integer_by_itself.result) c.integer_by_itself.ensures.value

pub taken::index_of-returns-in-Part : goal.taken::index_of-returns-in-Part
taken::index_of-returns-in-Part t c =
    taking.no_index-Part (scope_at c.args.scope.now) c.args.select.now c.in-Part.field-0 c.in-Part.field-1 c.in-Part.is (valuation_at c.args.values.now) (integer_at c.no_index.result) c.no_index.ensures

pub taken::index_of-returns-in-PartUp : goal.taken::index_of-returns-in-PartUp
taken::index_of-returns-in-PartUp t c =
    taking.no_index-PartUp (scope_at c.args.scope.now) c.args.select.now c.in-PartUp.field-0 c.in-PartUp.field-1 c.in-PartUp.is (valuation_at c.args.values.now) (integer_at c.no_index-in-PartUp.result) c.no_index-in-PartUp.ensures

pub taken::index_of-returns-in-PartDown : goal.taken::index_of-returns-in-PartDown
taken::index_of-returns-in-PartDown t c =
    taking.no_index-PartDown (scope_at c.args.scope.now) c.args.select.now c.in-PartDown.field-0 c.in-PartDown.field-1 c.in-PartDown.is (valuation_at c.args.values.now) (integer_at c.no_index-in-PartDown.result) c.no_index-in-PartDown.ensures

pub taken::count_of-count_between-requires : goal.taken::count_of-count_between-requires
taken::count_of-count_between-requires t c =
    taking.part-most (scope_at c.args.scope.now) c.args.select.now c.in-Part.left c.in-Part.right c.in-Part.is c.deref.result.now c.deref-in-Part.result.now c.deref.ensures c.deref-in-Part.ensures (integer_at c.bound_of.result) (integer_at c.bound_of-in-Part.result) c.bound_of.ensures.value c.bound_of-in-Part.ensures.value c.requires.at_most_128

pub taken::count_of-overflow_cast-result : goal.taken::count_of-overflow_cast-result
taken::count_of-overflow_cast-result t c =
    omega (arith, taking.up-count (scope_at c.args.scope.now) c.args.select.now c.in-PartUp.field-0 c.in-PartUp.count c.in-PartUp.is c.deref-in-PartUp.result.now c.deref-in-PartUp.ensures c.constant_of.result c.constant_of.ensures, c.requires.at_most_128)

pub taken::count_of-overflow_cast-result-in-PartDown : goal.taken::count_of-overflow_cast-result-in-PartDown
taken::count_of-overflow_cast-result-in-PartDown t c =
    omega (arith, taking.down-count (scope_at c.args.scope.now) c.args.select.now c.in-PartDown.field-0 c.in-PartDown.count c.in-PartDown.is c.deref-in-PartDown.result.now c.deref-in-PartDown.ensures c.constant_of-in-PartDown.result c.constant_of-in-PartDown.ensures, c.requires.at_most_128)

pub taken::count_of-returns-in-Index : goal.taken::count_of-returns-in-Index
taken::count_of-returns-in-Index t c =
    taking.index-count (scope_at c.args.scope.now) c.args.select.now c.in-Index.field-0 c.in-Index.is

pub taken::count_of-returns-in-Part : goal.taken::count_of-returns-in-Part
taken::count_of-returns-in-Part t c =
    taking.part-count (scope_at c.args.scope.now) c.args.select.now c.in-Part.left c.in-Part.right c.in-Part.is c.deref.result.now c.deref-in-Part.result.now c.deref.ensures c.deref-in-Part.ensures (integer_at c.bound_of.result) (integer_at c.bound_of-in-Part.result) c.bound_of.ensures.value c.bound_of-in-Part.ensures.value c.count_between.result c.count_between.ensures

pub taken::count_of-returns-in-PartUp : goal.taken::count_of-returns-in-PartUp
taken::count_of-returns-in-PartUp t c =
    taking.up-count (scope_at c.args.scope.now) c.args.select.now c.in-PartUp.field-0 c.in-PartUp.count c.in-PartUp.is c.deref-in-PartUp.result.now c.deref-in-PartUp.ensures c.constant_of.result c.constant_of.ensures

pub taken::count_of-returns-in-PartDown : goal.taken::count_of-returns-in-PartDown
taken::count_of-returns-in-PartDown t c =
    taking.down-count (scope_at c.args.scope.now) c.args.select.now c.in-PartDown.field-0 c.in-PartDown.count c.in-PartDown.is c.deref-in-PartDown.result.now c.deref-in-PartDown.ensures c.constant_of-in-PartDown.result c.constant_of-in-PartDown.ensures

pub taken::taken_by-returns-in-Index : goal.taken::taken_by-returns-in-Index
taken::taken_by-returns-in-Index t c =
    taking.index-bits (scope_at c.args.scope.now) c.args.select.now c.in-Index.index c.in-Index.is (valuation_at c.args.values.now) (object_of c.args.object) c.deref.result.now c.deref.ensures (integer_at c.integer_by_itself.result) c.integer_by_itself.ensures.value c.count_of-count.result c.count_of-count.ensures (span_of c.bits_from_index.result) c.bits_from_index.ensures

pub taken::taken_by-returns-in-Part : goal.taken::taken_by-returns-in-Part
taken::taken_by-returns-in-Part t c =
    taking.part-bits (scope_at c.args.scope.now) c.args.select.now c.in-Part.field-0 c.in-Part.right c.in-Part.is (valuation_at c.args.values.now) (object_of c.args.object) c.deref-in-Part.result.now c.deref-in-Part.ensures (integer_at c.bound_of.result) c.bound_of.ensures.value c.count_of-count.result c.count_of-count.ensures (span_of c.bits_from_index-in-Part.result) c.bits_from_index-in-Part.ensures

pub taken::taken_by-returns-in-PartUp : goal.taken::taken_by-returns-in-PartUp
taken::taken_by-returns-in-PartUp t c =
    taking.up-bits (scope_at c.args.scope.now) c.args.select.now c.in-PartUp.base c.in-PartUp.field-1 c.in-PartUp.is (valuation_at c.args.values.now) (object_of c.args.object) c.deref-in-PartUp.result.now c.deref-in-PartUp.ensures (integer_at c.integer_by_itself-in-PartUp.result) c.integer_by_itself-in-PartUp.ensures.value c.count_of-count.result c.count_of-count.ensures (span_of c.bits_upward.result) c.bits_upward.ensures

pub taken::taken_by-returns-in-PartDown : goal.taken::taken_by-returns-in-PartDown
taken::taken_by-returns-in-PartDown t c =
    taking.down-bits (scope_at c.args.scope.now) c.args.select.now c.in-PartDown.base c.in-PartDown.field-1 c.in-PartDown.is (valuation_at c.args.values.now) (object_of c.args.object) c.deref-in-PartDown.result.now c.deref-in-PartDown.ensures (integer_at c.integer_by_itself-in-PartDown.result) c.integer_by_itself-in-PartDown.ensures.value c.count_of-count.result c.count_of-count.ensures (span_of c.bits_downward.result) c.bits_downward.ensures

pub value::named-taken_by-requires : goal.value::named-taken_by-requires
value::named-taken_by-requires t c =
    (search (rules, the_lemmas), (c.requires.1.1.0, (selected.one-narrow (scope_at c.args.scope.now) (valuation_at c.args.values.now) c.args.name.now c.args.selects.now c.requires.1.1.1.0 c.requires.1.1.1.1 c.in-One.select c.in-One.is (object_of c.object-object.result) c.object-object.ensures, selected.one-width (scope_at c.args.scope.now) (valuation_at c.args.values.now) c.args.name.now c.args.selects.now c.requires.1.1.1.0 c.requires.1.1.1.1 c.in-One.select c.in-One.is (object_of c.object-object.result) c.object-object.ensures (sym c.is_some.ensures ∙ c.if-is_some.false))))

pub value::named-bits_of-requires-clause-some_bits : goal.value::named-bits_of-requires-clause-some_bits
value::named-bits_of-requires-clause-some_bits t c =
    (selected.taken-width (scope_at c.args.scope.now) (valuation_at c.args.values.now) (object_of c.object-object.result) (select_of c.in-One.select) (span_of c.taken_by.result) c.taken_by.ensures (selected.one-width (scope_at c.args.scope.now) (valuation_at c.args.values.now) c.args.name.now c.args.selects.now c.requires.1.1.1.0 c.requires.1.1.1.1 c.in-One.select c.in-One.is (object_of c.object-object.result) c.object-object.ensures (sym c.is_some.ensures ∙ c.if-is_some.false))).0

pub value::named-bits_of-requires-clause-at_most_128 : goal.value::named-bits_of-requires-clause-at_most_128
value::named-bits_of-requires-clause-at_most_128 t c =
    (selected.taken-width (scope_at c.args.scope.now) (valuation_at c.args.values.now) (object_of c.object-object.result) (select_of c.in-One.select) (span_of c.taken_by.result) c.taken_by.ensures (selected.one-width (scope_at c.args.scope.now) (valuation_at c.args.values.now) c.args.name.now c.args.selects.now c.requires.1.1.1.0 c.requires.1.1.1.1 c.in-One.select c.in-One.is (object_of c.object-object.result) c.object-object.ensures (sym c.is_some.ensures ∙ c.if-is_some.false))).1

pub value::named-taken_by-requires-in-Two : goal.value::named-taken_by-requires-in-Two
value::named-taken_by-requires-in-Two t c =
    (search (rules, the_lemmas), (c.requires.1.1.0, (selected.two-narrow (scope_at c.args.scope.now) (valuation_at c.args.values.now) c.args.name.now c.args.selects.now c.requires.1.1.1.0 c.requires.1.1.1.1 c.in-Two.address c.in-Two.select c.in-Two.is, selected.two-width (scope_at c.args.scope.now) (valuation_at c.args.values.now) c.args.name.now c.args.selects.now c.requires.1.1.1.0 c.requires.1.1.1.1 c.in-Two.address c.in-Two.select c.in-Two.is)))

pub value::named-bits_of-requires-in-Two-clause-some_bits : goal.value::named-bits_of-requires-in-Two-clause-some_bits
value::named-bits_of-requires-in-Two-clause-some_bits t c =
    (selected.taken-width (scope_at c.args.scope.now) (valuation_at c.args.values.now) (object_of c.object-object.result) (select_of c.in-Two.select) (span_of c.taken_by-in-Two.result) c.taken_by-in-Two.ensures (selected.two-width (scope_at c.args.scope.now) (valuation_at c.args.values.now) c.args.name.now c.args.selects.now c.requires.1.1.1.0 c.requires.1.1.1.1 c.in-Two.address c.in-Two.select c.in-Two.is)).0

pub value::named-bits_of-requires-in-Two-clause-at_most_128 : goal.value::named-bits_of-requires-in-Two-clause-at_most_128
value::named-bits_of-requires-in-Two-clause-at_most_128 t c =
    (selected.taken-width (scope_at c.args.scope.now) (valuation_at c.args.values.now) (object_of c.object-object.result) (select_of c.in-Two.select) (span_of c.taken_by-in-Two.result) c.taken_by-in-Two.ensures (selected.two-width (scope_at c.args.scope.now) (valuation_at c.args.values.now) c.args.name.now c.args.selects.now c.requires.1.1.1.0 c.requires.1.1.1.1 c.in-Two.address c.in-Two.select c.in-Two.is)).1

pub value::named-returns-then-is_some-clause-width : goal.value::named-returns-then-is_some-clause-width
value::named-returns-then-is_some-clause-width t c =
    selected.word-width (scope_at c.args.scope.now) (valuation_at c.args.values.now) c.args.name.now c.args.selects.now c.requires.1.1.1.0 c.requires.1.1.1.1 c.in-One.select c.in-One.is (object_of c.object-object.result) c.object-object.ensures (sym c.is_some.ensures ∙ c.if-is_some.true) c.memory_word.result.width c.memory_word.ensures.width

pub value::named-returns-then-is_some-clause-value : goal.value::named-returns-then-is_some-clause-value
value::named-returns-then-is_some-clause-value t c =
    selected.word-value (scope_at c.args.scope.now) (valuation_at c.args.values.now) c.args.name.now c.args.selects.now c.requires.1.1.1.0 c.requires.1.1.1.1 c.in-One.select c.in-One.is (object_of c.object-object.result) c.object-object.ensures (sym c.is_some.ensures ∙ c.if-is_some.true) (integer_at c.index_of.result) c.index_of.ensures c.memory_word.result.value c.memory_word.ensures.value

pub value::named-returns-else-is_some-clause-width : goal.value::named-returns-else-is_some-clause-width
value::named-returns-else-is_some-clause-width t c =
    selected.part-width (scope_at c.args.scope.now) (valuation_at c.args.values.now) c.args.name.now c.args.selects.now c.requires.1.1.1.0 c.requires.1.1.1.1 c.in-One.select c.in-One.is (object_of c.object-object.result) c.object-object.ensures (sym c.is_some.ensures ∙ c.if-is_some.false) (span_of c.taken_by.result) c.taken_by.ensures c.bits_of.result.width c.bits_of.ensures.width

pub value::named-returns-else-is_some-clause-value : goal.value::named-returns-else-is_some-clause-value
value::named-returns-else-is_some-clause-value t c =
    selected.part-value (scope_at c.args.scope.now) (valuation_at c.args.values.now) c.args.name.now c.args.selects.now c.requires.1.1.1.0 c.requires.1.1.1.1 c.in-One.select c.in-One.is (object_of c.object-object.result) c.object-object.ensures (sym c.is_some.ensures ∙ c.if-is_some.false) (span_of c.taken_by.result) c.taken_by.ensures c.named_value-whole.result.value c.named_value-whole.ensures.value c.bits_of.result.value c.bits_of.ensures.value

pub value::named-returns-in-Two-clause-width : goal.value::named-returns-in-Two-clause-width
value::named-returns-in-Two-clause-width t c =
    selected.both-width (scope_at c.args.scope.now) (valuation_at c.args.values.now) c.args.name.now c.args.selects.now c.requires.1.1.1.0 c.requires.1.1.1.1 c.in-Two.address c.in-Two.select c.in-Two.is (object_of c.object-object.result) c.object-object.ensures (span_of c.taken_by-in-Two.result) c.taken_by-in-Two.ensures c.bits_of-in-Two.result.width c.bits_of-in-Two.ensures.width

pub value::named-returns-in-Two-clause-value : goal.value::named-returns-in-Two-clause-value
value::named-returns-in-Two-clause-value t c =
    selected.both-value (scope_at c.args.scope.now) (valuation_at c.args.values.now) c.args.name.now c.args.selects.now c.requires.1.1.1.0 c.requires.1.1.1.1 c.in-Two.address c.in-Two.select c.in-Two.is (object_of c.object-object.result) c.object-object.ensures (span_of c.taken_by-in-Two.result) c.taken_by-in-Two.ensures (integer_at c.index_of-in-Two.result) c.index_of-in-Two.ensures c.memory_word-word.result.value c.memory_word-word.ensures.value c.bits_of-in-Two.result.value c.bits_of-in-Two.ensures.value

pub width::selected_width-count_of-requires : goal.width::selected_width-count_of-requires
width::selected_width-count_of-requires t c =
    (search (rules, the_lemmas), (selected.at_one-narrow (scope_at c.args.scope.now) (object_of c.args.object) c.args.selects.now c.requires.narrow c.requires.at_most_128 c.in-One.select c.in-One.is, selected.at_one-most (scope_at c.args.scope.now) (object_of c.args.object) c.args.selects.now c.requires.narrow c.requires.at_most_128 c.in-One.select c.in-One.is (sym c.is_some.ensures ∙ c.if-is_some.false)))

pub width::selected_width-count_of-requires-in-Two : goal.width::selected_width-count_of-requires-in-Two
width::selected_width-count_of-requires-in-Two t c =
    (search (rules, the_lemmas), (selected.at_two-narrow (scope_at c.args.scope.now) (object_of c.args.object) c.args.selects.now c.requires.narrow c.requires.at_most_128 c.in-Two.field-0 c.in-Two.select c.in-Two.is, selected.at_two-most (scope_at c.args.scope.now) (object_of c.args.object) c.args.selects.now c.requires.narrow c.requires.at_most_128 c.in-Two.field-0 c.in-Two.select c.in-Two.is))

pub width::selected_width-returns-else-is_some : goal.width::selected_width-returns-else-is_some
width::selected_width-returns-else-is_some t c =
    selected.at_one-width (scope_at c.args.scope.now) (object_of c.args.object) c.args.selects.now c.requires.narrow c.requires.at_most_128 c.in-One.select c.in-One.is (sym c.is_some.ensures ∙ c.if-is_some.false) c.count_of.result c.count_of.ensures

pub width::selected_width-returns-in-Two : goal.width::selected_width-returns-in-Two
width::selected_width-returns-in-Two t c =
    selected.at_two-width (scope_at c.args.scope.now) (object_of c.args.object) c.args.selects.now c.requires.narrow c.requires.at_most_128 c.in-Two.field-0 c.in-Two.select c.in-Two.is c.count_of-in-Two.result c.count_of-in-Two.ensures
