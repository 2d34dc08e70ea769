use Rattle.std.proofs.Common.{◌+◌, ◌≤◌, ap, sym, subst, rules, arith, drop}
use Rattle.std.proofs.lemmas.List.{at_drop_all}
use Rattle.v_value.specs.Scope.{scope_at}
use Rattle.v_value.specs.Narrow.{AreNarrow}
use Rattle.v_syntax.specs.Tree.{tree_of, expressions_of}
use Rattle.v_syntax.specs.declared.tree.Expression.{the_lemmas}
use Rattle.v_statement.proofs.Runs.{rest_is}
use Rattle.v_flow.proofs.Parts as part
use Rattle.v_masks.specs.Masks.{masked}
use Rattle.v_masks.proofs.Bits.{set-none}
use Rattle.v_depend.proofs.Copied.{parts-begun, parts-turn, parts-ended}
use Rattle.v_depend.proofs.Forms as form
use Rattle.v_depend.proofs.copy.+copying.Goals as goal

pub copied-parts_copied-requires : goal.copied-parts_copied-requires
copied-parts_copied-requires t c = (search (rules, the_lemmas), (c.requires.objects, (part.of-Concatenation (scope_at c.args.scope.now) c.args.expression.now c.requires.narrow c.in-Concatenation.parts c.in-Concatenation.is c.deref.result.now c.deref.ensures.value, c.requires.variables)))

pub copied-parts_copied-requires-in-Replication : goal.copied-parts_copied-requires-in-Replication
copied-parts_copied-requires-in-Replication t c = (search (rules, the_lemmas), (c.requires.objects, (part.of-Replication (scope_at c.args.scope.now) c.args.expression.now c.requires.narrow c.in-Replication.field-0 c.in-Replication.parts c.in-Replication.is c.deref-in-Replication.result.now c.deref-in-Replication.ensures.value, c.requires.variables)))

pub copied-copied-requires : goal.copied-copied-requires
copied-copied-requires t c = (search (rules, the_lemmas), (c.requires.objects, (part.of-Prefix (scope_at c.args.scope.now) c.args.expression.now c.requires.narrow c.in-Prefix.operators c.in-Prefix.operand c.in-Prefix.is c.deref-in-Prefix-2.result.now c.deref-in-Prefix-2.ensures, c.requires.variables)))

pub copied-copied-requires-in-Binary : goal.copied-copied-requires-in-Binary
copied-copied-requires-in-Binary t c = (search (rules, the_lemmas), (c.requires.objects, (part.of-Binary (scope_at c.args.scope.now) c.args.expression.now c.requires.narrow c.in-Binary.first c.in-Binary.links c.in-Binary.is c.deref-in-Binary-2.result.now c.deref-in-Binary-2.ensures, c.requires.variables)))

pub copied-copied-requires-in-Test : goal.copied-copied-requires-in-Test
copied-copied-requires-in-Test t c = (search (rules, the_lemmas), (c.requires.objects, (part.of-Test (scope_at c.args.scope.now) c.args.expression.now c.requires.narrow c.in-Test.first c.in-Test.links c.in-Test.is c.deref-in-Test-2.result.now c.deref-in-Test-2.ensures, c.requires.variables)))

pub copied-copied-requires-in-Conditional : goal.copied-copied-requires-in-Conditional
copied-copied-requires-in-Conditional t c = (search (rules, the_lemmas), (c.requires.objects, (part.of-Conditional (scope_at c.args.scope.now) c.args.expression.now c.requires.narrow c.in-Conditional.choices c.in-Conditional.last c.in-Conditional.is c.deref-in-Conditional-2.result.now c.deref-in-Conditional-2.ensures, c.requires.variables)))

pub copied-parts_width-requires-clause-narrow : goal.copied-parts_width-requires-clause-narrow
copied-parts_width-requires-clause-narrow t c = part.of-Replication (scope_at c.args.scope.now) c.args.expression.now c.requires.narrow c.in-Replication.field-0 c.in-Replication.parts c.in-Replication.is c.deref-in-Replication-2.result.now c.deref-in-Replication-2.ensures.value

pub copied-parts_width-requires-clause-at_most_128 : goal.copied-parts_width-requires-clause-at_most_128
copied-parts_width-requires-clause-at_most_128 t c = (form.parts-width (scope_at c.args.scope.now) c.args.expression.now c.requires.narrow c.in-Replication.field-0 c.in-Replication.parts c.in-Replication.is c.deref-in-Replication-2.result.now c.deref-in-Replication-2.ensures.value).1

pub copied-repeated-requires-clause-some_bits : goal.copied-repeated-requires-clause-some_bits
copied-repeated-requires-clause-some_bits t c = subst (λ w. 1 ≤ w) (sym c.parts_width.ensures) (form.parts-width (scope_at c.args.scope.now) c.args.expression.now c.requires.narrow c.in-Replication.field-0 c.in-Replication.parts c.in-Replication.is c.deref-in-Replication-2.result.now c.deref-in-Replication-2.ensures.value).0

pub copied-repeated-requires-clause-at_most_128 : goal.copied-repeated-requires-clause-at_most_128
copied-repeated-requires-clause-at_most_128 t c = subst (λ w. w ≤ 128) (sym c.width_of.ensures) (form.whole-width (scope_at c.args.scope.now) c.args.expression.now c.requires.narrow c.in-Replication.field-0 c.in-Replication.parts c.in-Replication.is)

pub copied-returns-in-Number : goal.copied-returns-in-Number
copied-returns-in-Number t c = λ j l. form.copy-Number (masked c.args.unsettled.now) (scope_at c.args.scope.now) j c.args.expression.now c.in-Number.field-0 c.in-Number.is (set-none j)

pub copied-returns-in-AsSigned : goal.copied-returns-in-AsSigned
copied-returns-in-AsSigned t c = λ j l. form.copy-AsSigned (masked c.args.unsettled.now) (scope_at c.args.scope.now) j c.args.expression.now c.in-AsSigned.field-0 c.in-AsSigned.is (set-none j)

pub copied-returns-in-AsUnsigned : goal.copied-returns-in-AsUnsigned
copied-returns-in-AsUnsigned t c = λ j l. form.copy-AsUnsigned (masked c.args.unsettled.now) (scope_at c.args.scope.now) j c.args.expression.now c.in-AsUnsigned.field-0 c.in-AsUnsigned.is (set-none j)

pub copied-returns-in-Name : goal.copied-returns-in-Name
copied-returns-in-Name t c = λ j l. form.copy-Name (masked c.args.unsettled.now) (scope_at c.args.scope.now) j c.args.expression.now c.in-Name.name c.in-Name.selects c.in-Name.is _ (c.name_copied.ensures j l)

pub copied-returns-in-Concatenation : goal.copied-returns-in-Concatenation
copied-returns-in-Concatenation t c = λ j l. form.copy-Concatenation (masked c.args.unsettled.now) (scope_at c.args.scope.now) j c.args.expression.now c.in-Concatenation.parts c.in-Concatenation.is c.deref.result.now c.deref.ensures.value _ (c.parts_copied.ensures j l)

pub copied-returns-in-Replication : goal.copied-returns-in-Replication
copied-returns-in-Replication t c = λ j l. form.copy-Replication (masked c.args.unsettled.now) (scope_at c.args.scope.now) j c.args.expression.now c.in-Replication.field-0 c.in-Replication.parts c.in-Replication.is c.deref-in-Replication.result.now c.deref-in-Replication-2.result.now c.deref-in-Replication.ensures.value c.deref-in-Replication-2.ensures.value c.parts_copied-in-Replication.result c.repeated.result c.parts_width.result c.width_of.result (λ i k. c.parts_copied-in-Replication.ensures i (form.below i j 128 k l)) c.parts_width.ensures c.width_of.ensures (form.rest-most j c.parts_width.result) (c.repeated.ensures j)

pub copied-returns-in-Prefix : goal.copied-returns-in-Prefix
copied-returns-in-Prefix t c = λ j l. form.copy-Prefix (masked c.args.unsettled.now) (scope_at c.args.scope.now) j c.args.expression.now c.in-Prefix.operators c.in-Prefix.operand c.in-Prefix.is c.deref-in-Prefix-2.result.now c.deref-in-Prefix-2.ensures c.deref-in-Prefix.result.now c.deref-in-Prefix.ensures.value c.copied.result c.prefixed.result c.prefixed.ensures (c.copied.ensures j l) (set-none j)

pub copied-returns-in-Binary : goal.copied-returns-in-Binary
copied-returns-in-Binary t c = λ j l. form.copy-Binary (masked c.args.unsettled.now) (scope_at c.args.scope.now) j c.args.expression.now c.in-Binary.first c.in-Binary.links c.in-Binary.is c.deref-in-Binary-2.result.now c.deref-in-Binary-2.ensures c.deref-in-Binary.result.now c.deref-in-Binary.ensures.value c.copied-in-Binary.result c.linked.result c.linked.ensures (c.copied-in-Binary.ensures j l) (set-none j)

pub copied-returns-in-Test : goal.copied-returns-in-Test
copied-returns-in-Test t c = λ j l. form.copy-Test (masked c.args.unsettled.now) (scope_at c.args.scope.now) j c.args.expression.now c.in-Test.first c.in-Test.links c.in-Test.is c.deref-in-Test-2.result.now c.deref-in-Test-2.ensures c.deref-in-Test.result.now c.deref-in-Test.ensures.value c.copied-in-Test.result c.tested.result c.tested.ensures (c.copied-in-Test.ensures j l) (set-none j)

pub copied-returns-in-Conditional : goal.copied-returns-in-Conditional
copied-returns-in-Conditional t c = λ j l. form.copy-Conditional (masked c.args.unsettled.now) (scope_at c.args.scope.now) j c.args.expression.now c.in-Conditional.choices c.in-Conditional.last c.in-Conditional.is c.deref-in-Conditional-2.result.now c.deref-in-Conditional-2.ensures c.deref-in-Conditional.result.now c.deref-in-Conditional.ensures.value c.copied-in-Conditional.result c.chosen.result c.chosen.ensures (c.copied-in-Conditional.ensures j l) (set-none j)

pub parts_copied-loop-part-init : goal.parts_copied-loop-part-init
parts_copied-loop-part-init t c =
    record {
      bits = λ j l. parts-begun (masked c.args.unsettled.now) (scope_at c.args.scope.now) (expressions_of c.args.parts.now) j set-none;
      narrow = c.requires.narrow;
    }

pub parts_copied-width_of-width-requires : goal.parts_copied-width_of-width-requires
parts_copied-width_of-width-requires t c =
    let s = (scope_at c.args.scope.now) in
    let rest = rest_is c.args.parts.now c.loop-part.part-index c.part-item.result (omega arith) c.part-item.is in
    record { narrow = (subst (λ ys. AreNarrow s (expressions_of ys)) rest c.loop-part.invariant.narrow).0 }

pub parts_copied-copied-requires : goal.parts_copied-copied-requires
parts_copied-copied-requires t c =
    let s = (scope_at c.args.scope.now) in
    let rest = rest_is c.args.parts.now c.loop-part.part-index c.part-item.result (omega arith) c.part-item.is in
    (search (rules, the_lemmas), (c.requires.objects, ((subst (λ ys. AreNarrow s (expressions_of ys)) rest c.loop-part.invariant.narrow).0, c.requires.variables)))

pub parts_copied-loop-part-preserved : goal.parts_copied-loop-part-preserved
parts_copied-loop-part-preserved t c =
    let s = (scope_at c.args.scope.now) in
    let xs = c.args.parts.now in
    let i = c.loop-part.part-index in
    let r = c.part-item.result in
    let rest = rest_is xs i r (omega arith) c.part-item.is in
    record {
      bits = λ j l. parts-turn (masked c.args.unsettled.now) s (tree_of r) (expressions_of (drop (i + 1) xs)) c.width_of-width.result c.loop-part.mask c.beside-mask.result c.copied.result j _
          c.width_of-width.ensures c.copied.ensures c.beside-mask.ensures l
          (form.parts-at (masked c.args.unsettled.now) s xs i (tree_of r) (expressions_of (drop (i + 1) xs)) c.loop-part.mask j _ (ap expressions_of rest) (c.loop-part.invariant.bits j l));
      narrow = (subst (λ ys. AreNarrow s (expressions_of ys)) rest c.loop-part.invariant.narrow).1;
    }

pub parts_copied-returns : goal.parts_copied-returns
parts_copied-returns t c = λ j l. parts-ended (masked c.args.unsettled.now) (scope_at c.args.scope.now) (expressions_of (drop c.loop-part.part-index c.args.parts.now)) c.loop-part.mask j _
    (at_drop_all expressions_of c.args.parts.now c.loop-part.part-index c.loop-part-test.false) (c.loop-part.invariant.bits j l)
