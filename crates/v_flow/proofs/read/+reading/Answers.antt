use Rattle.std.proofs.Common.{◌∙◌, ap, subst, rules, arith}
use Rattle.std.proofs.lemmas.Result.{on_ok_weaker}
use Rattle.std.proofs.lemmas.List.{at_drop_all}
use Rattle.verilog_designs.specs.Reads.{or_in}
use Rattle.v_value.specs.Scope.{scope_at}
use Rattle.v_value.specs.Narrow.{AreNarrow}
use Rattle.v_value.specs.Links.{AreLinksNarrow, AreTestsNarrow, AreChoicesNarrow}
use Rattle.v_syntax.specs.Tree.{selects_of, expressions_of}
use Rattle.v_syntax.specs.declared.tree.Expression.{the_lemmas}
use Rattle.v_statement.proofs.Runs.{rest_is}
use Rattle.v_flow.specs.Spans.{bits_in}
use Rattle.v_flow.specs.Flow.{parts_read, links_read, tests_read, choices_read}
use Rattle.v_flow.proofs.Sets.{joins, turn, turn-two, end, nothing}
use Rattle.v_flow.proofs.Parts as part
use Rattle.v_flow.proofs.Reading as reading
use Rattle.v_flow.proofs.read.+reading.Goals as goal

pub add_read-add_parts-requires : goal.add_read-add_parts-requires
add_read-add_parts-requires t c = (search (rules, the_lemmas), (c.requires.objects, part.of-Concatenation (scope_at c.args.scope.now) c.args.expression.now c.requires.narrow c.in-Concatenation.parts c.in-Concatenation.is c.deref.result.now c.deref.ensures.value))

pub add_read-add_parts-requires-in-Replication : goal.add_read-add_parts-requires-in-Replication
add_read-add_parts-requires-in-Replication t c = (search (rules, the_lemmas), (c.requires.objects, part.of-Replication (scope_at c.args.scope.now) c.args.expression.now c.requires.narrow c.in-Replication.field-0 c.in-Replication.parts c.in-Replication.is c.deref-in-Replication.result.now c.deref-in-Replication.ensures.value))

pub add_read-add_read-requires : goal.add_read-add_read-requires
add_read-add_read-requires t c = (search (rules, the_lemmas), (c.requires.objects, part.of-AsSigned (scope_at c.args.scope.now) c.args.expression.now c.requires.narrow c.in-AsSigned.operand c.in-AsSigned.is c.deref-in-AsSigned.result.now c.deref-in-AsSigned.ensures))

pub add_read-add_read-requires-in-AsUnsigned : goal.add_read-add_read-requires-in-AsUnsigned
add_read-add_read-requires-in-AsUnsigned t c = (search (rules, the_lemmas), (c.requires.objects, part.of-AsUnsigned (scope_at c.args.scope.now) c.args.expression.now c.requires.narrow c.in-AsUnsigned.operand c.in-AsUnsigned.is c.deref-in-AsUnsigned.result.now c.deref-in-AsUnsigned.ensures))

pub add_read-add_read-requires-in-Prefix : goal.add_read-add_read-requires-in-Prefix
add_read-add_read-requires-in-Prefix t c = (search (rules, the_lemmas), (c.requires.objects, part.of-Prefix (scope_at c.args.scope.now) c.args.expression.now c.requires.narrow c.in-Prefix.field-0 c.in-Prefix.operand c.in-Prefix.is c.deref-in-Prefix.result.now c.deref-in-Prefix.ensures))

pub add_read-add_read-requires-in-Binary : goal.add_read-add_read-requires-in-Binary
add_read-add_read-requires-in-Binary t c = (search (rules, the_lemmas), (c.requires.objects, part.of-Binary (scope_at c.args.scope.now) c.args.expression.now c.requires.narrow c.in-Binary.first c.in-Binary.links c.in-Binary.is c.deref-in-Binary.result.now c.deref-in-Binary.ensures))

pub add_read-add_read-requires-in-Test : goal.add_read-add_read-requires-in-Test
add_read-add_read-requires-in-Test t c = (search (rules, the_lemmas), (c.requires.objects, part.of-Test (scope_at c.args.scope.now) c.args.expression.now c.requires.narrow c.in-Test.first c.in-Test.links c.in-Test.is c.deref-in-Test.result.now c.deref-in-Test.ensures))

pub add_read-add_links-requires : goal.add_read-add_links-requires
add_read-add_links-requires t c = (search (rules, the_lemmas), (c.requires.objects, part.links-Binary (scope_at c.args.scope.now) c.args.expression.now c.requires.narrow c.in-Binary.first c.in-Binary.links c.in-Binary.is c.deref-in-Binary-2.result.now c.deref-in-Binary-2.ensures.value))

pub add_read-add_tests-requires : goal.add_read-add_tests-requires
add_read-add_tests-requires t c = (search (rules, the_lemmas), (c.requires.objects, part.links-Test (scope_at c.args.scope.now) c.args.expression.now c.requires.narrow c.in-Test.first c.in-Test.links c.in-Test.is c.deref-in-Test-2.result.now c.deref-in-Test-2.ensures.value))

pub add_read-add_choices-requires : goal.add_read-add_choices-requires
add_read-add_choices-requires t c = (search (rules, the_lemmas), (c.requires.objects, part.choices-Conditional (scope_at c.args.scope.now) c.args.expression.now c.requires.narrow c.in-Conditional.choices c.in-Conditional.last c.in-Conditional.is c.deref-in-Conditional.result.now c.deref-in-Conditional.ensures.value))

pub add_read-add_read-requires-in-Conditional : goal.add_read-add_read-requires-in-Conditional
add_read-add_read-requires-in-Conditional t c = (search (rules, the_lemmas), (c.requires.objects, part.of-Conditional (scope_at c.args.scope.now) c.args.expression.now c.requires.narrow c.in-Conditional.choices c.in-Conditional.last c.in-Conditional.is c.deref-in-Conditional-2.result.now c.deref-in-Conditional-2.ensures))

pub add_read-returns-in-Number : goal.add_read-returns-in-Number
add_read-returns-in-Number t c = nothing _ _ (reading.of-Number (scope_at c.args.scope.now) c.args.expression.now c.in-Number.field-0 c.in-Number.is)

pub add_read-returns-in-Name : goal.add_read-returns-in-Name
add_read-returns-in-Name t c = on_ok_weaker c.add_named.result (λ k. k ∙ ap (or_in (bits_in c.args.found.now.items)) (reading.of-Name (scope_at c.args.scope.now) c.args.expression.now c.in-Name.name c.in-Name.selects c.in-Name.is)) c.add_named.ensures

pub add_read-returns-in-Concatenation : goal.add_read-returns-in-Concatenation
add_read-returns-in-Concatenation t c = on_ok_weaker c.add_parts.result (λ k. k ∙ ap (or_in (bits_in c.args.found.now.items)) (reading.of-Concatenation (scope_at c.args.scope.now) c.args.expression.now c.in-Concatenation.parts c.in-Concatenation.is c.deref.result.now c.deref.ensures.value)) c.add_parts.ensures

pub add_read-returns-in-Replication : goal.add_read-returns-in-Replication
add_read-returns-in-Replication t c = on_ok_weaker c.add_parts-in-Replication.result (λ k. k ∙ ap (or_in (bits_in c.args.found.now.items)) (reading.of-Replication (scope_at c.args.scope.now) c.args.expression.now c.in-Replication.field-0 c.in-Replication.parts c.in-Replication.is c.deref-in-Replication.result.now c.deref-in-Replication.ensures.value)) c.add_parts-in-Replication.ensures

pub add_read-returns-in-AsSigned : goal.add_read-returns-in-AsSigned
add_read-returns-in-AsSigned t c = on_ok_weaker c.add_read.result (λ k. k ∙ ap (or_in (bits_in c.args.found.now.items)) (reading.of-AsSigned (scope_at c.args.scope.now) c.args.expression.now c.in-AsSigned.operand c.in-AsSigned.is c.deref-in-AsSigned.result.now c.deref-in-AsSigned.ensures)) c.add_read.ensures

pub add_read-returns-in-AsUnsigned : goal.add_read-returns-in-AsUnsigned
add_read-returns-in-AsUnsigned t c = on_ok_weaker c.add_read-in-AsUnsigned.result (λ k. k ∙ ap (or_in (bits_in c.args.found.now.items)) (reading.of-AsUnsigned (scope_at c.args.scope.now) c.args.expression.now c.in-AsUnsigned.operand c.in-AsUnsigned.is c.deref-in-AsUnsigned.result.now c.deref-in-AsUnsigned.ensures)) c.add_read-in-AsUnsigned.ensures

pub add_read-returns-in-Prefix : goal.add_read-returns-in-Prefix
add_read-returns-in-Prefix t c = on_ok_weaker c.add_read-in-Prefix.result (λ k. k ∙ ap (or_in (bits_in c.args.found.now.items)) (reading.of-Prefix (scope_at c.args.scope.now) c.args.expression.now c.in-Prefix.field-0 c.in-Prefix.operand c.in-Prefix.is c.deref-in-Prefix.result.now c.deref-in-Prefix.ensures)) c.add_read-in-Prefix.ensures

pub add_read-returns-in_ok-add_read-in-Binary : goal.add_read-returns-in_ok-add_read-in-Binary
add_read-returns-in_ok-add_read-in-Binary t c = on_ok_weaker c.add_links.result (λ k. joins _ _ _ _ _ _ c.in_ok-add_read-in-Binary.ensures k (reading.of-Binary (scope_at c.args.scope.now) c.args.expression.now c.in-Binary.first c.in-Binary.links c.in-Binary.is c.deref-in-Binary.result.now c.deref-in-Binary.ensures c.deref-in-Binary-2.result.now c.deref-in-Binary-2.ensures.value)) c.add_links.ensures

pub add_read-returns-in_ok-add_read-in-Test : goal.add_read-returns-in_ok-add_read-in-Test
add_read-returns-in_ok-add_read-in-Test t c = on_ok_weaker c.add_tests.result (λ k. joins _ _ _ _ _ _ c.in_ok-add_read-in-Test.ensures k (reading.of-Test (scope_at c.args.scope.now) c.args.expression.now c.in-Test.first c.in-Test.links c.in-Test.is c.deref-in-Test.result.now c.deref-in-Test.ensures c.deref-in-Test-2.result.now c.deref-in-Test-2.ensures.value)) c.add_tests.ensures

pub add_read-returns-in_ok-add_choices-in-Conditional : goal.add_read-returns-in_ok-add_choices-in-Conditional
add_read-returns-in_ok-add_choices-in-Conditional t c = on_ok_weaker c.add_read-in-Conditional.result (λ k. joins _ _ _ _ _ _ c.in_ok-add_choices-in-Conditional.ensures k (reading.of-Conditional (scope_at c.args.scope.now) c.args.expression.now c.in-Conditional.choices c.in-Conditional.last c.in-Conditional.is c.deref-in-Conditional.result.now c.deref-in-Conditional.ensures.value c.deref-in-Conditional-2.result.now c.deref-in-Conditional-2.ensures)) c.add_read-in-Conditional.ensures

pub add_named-add_selects-requires : goal.add_named-add_selects-requires
add_named-add_selects-requires t c = (search (rules, the_lemmas), (c.requires.1.1.0, c.requires.1.1.1.1))

pub add_named-returns : goal.add_named-returns
add_named-returns t c = on_ok_weaker c.add_selects.result (λ k. joins _ _ _ _ _ _ c.in_ok-add_name.ensures k (reading.named (scope_at c.args.scope.now) c.args.name.now (selects_of c.args.selects.now))) c.add_selects.ensures

pub add_select-add_read-requires : goal.add_select-add_read-requires
add_select-add_read-requires t c = (search (rules, the_lemmas), (c.requires.objects, part.of-Index (scope_at c.args.scope.now) c.args.select.now c.requires.narrow c.in-Index.index c.in-Index.is c.deref.result.now c.deref.ensures))

pub add_select-returns-in-Index : goal.add_select-returns-in-Index
add_select-returns-in-Index t c = on_ok_weaker c.add_read.result (λ k. k ∙ ap (or_in (bits_in c.args.found.now.items)) (reading.of-Index (scope_at c.args.scope.now) c.args.select.now c.in-Index.index c.in-Index.is c.deref.result.now c.deref.ensures)) c.add_read.ensures

pub add_select-add_read-requires-in-PartUp : goal.add_select-add_read-requires-in-PartUp
add_select-add_read-requires-in-PartUp t c = (search (rules, the_lemmas), (c.requires.objects, part.of-PartUp (scope_at c.args.scope.now) c.args.select.now c.requires.narrow c.in-PartUp.base c.in-PartUp.field-1 c.in-PartUp.is c.deref-in-PartUp.result.now c.deref-in-PartUp.ensures))

pub add_select-returns-in-PartUp : goal.add_select-returns-in-PartUp
add_select-returns-in-PartUp t c = on_ok_weaker c.add_read-in-PartUp.result (λ k. k ∙ ap (or_in (bits_in c.args.found.now.items)) (reading.of-PartUp (scope_at c.args.scope.now) c.args.select.now c.in-PartUp.base c.in-PartUp.field-1 c.in-PartUp.is c.deref-in-PartUp.result.now c.deref-in-PartUp.ensures)) c.add_read-in-PartUp.ensures

pub add_select-add_read-requires-in-PartDown : goal.add_select-add_read-requires-in-PartDown
add_select-add_read-requires-in-PartDown t c = (search (rules, the_lemmas), (c.requires.objects, part.of-PartDown (scope_at c.args.scope.now) c.args.select.now c.requires.narrow c.in-PartDown.base c.in-PartDown.field-1 c.in-PartDown.is c.deref-in-PartDown.result.now c.deref-in-PartDown.ensures))

pub add_select-returns-in-PartDown : goal.add_select-returns-in-PartDown
add_select-returns-in-PartDown t c = on_ok_weaker c.add_read-in-PartDown.result (λ k. k ∙ ap (or_in (bits_in c.args.found.now.items)) (reading.of-PartDown (scope_at c.args.scope.now) c.args.select.now c.in-PartDown.base c.in-PartDown.field-1 c.in-PartDown.is c.deref-in-PartDown.result.now c.deref-in-PartDown.ensures)) c.add_read-in-PartDown.ensures

pub add_select-returns-in-Part : goal.add_select-returns-in-Part
add_select-returns-in-Part t c = nothing _ _ (reading.of-Part (scope_at c.args.scope.now) c.args.select.now c.in-Part.field-0 c.in-Part.field-1 c.in-Part.is)

pub add_selects-add_select-requires : goal.add_selects-add_select-requires
add_selects-add_select-requires t c = (search (rules, the_lemmas), (c.requires.objects, part.of-One (scope_at c.args.scope.now) c.args.selects.now c.requires.narrow c.in-One.select c.in-One.is))

pub add_selects-add_select-requires-in-Two : goal.add_selects-add_select-requires-in-Two
add_selects-add_select-requires-in-Two t c = (search (rules, the_lemmas), (c.requires.objects, (part.of-Two (scope_at c.args.scope.now) c.args.selects.now c.requires.narrow c.in-Two.first c.in-Two.second c.in-Two.is).0))

pub add_selects-add_select-requires-in-Two-2 : goal.add_selects-add_select-requires-in-Two-2
add_selects-add_select-requires-in-Two-2 t c = (search (rules, the_lemmas), (c.requires.objects, (part.of-Two (scope_at c.args.scope.now) c.args.selects.now c.requires.narrow c.in-Two.first c.in-Two.second c.in-Two.is).1))

pub add_selects-returns-in-Whole : goal.add_selects-returns-in-Whole
add_selects-returns-in-Whole t c = nothing _ _ (reading.of-Whole (scope_at c.args.scope.now) c.args.selects.now c.in-Whole.is)

pub add_selects-returns-in-One : goal.add_selects-returns-in-One
add_selects-returns-in-One t c = on_ok_weaker c.add_select.result (λ k. k ∙ ap (or_in (bits_in c.args.found.now.items)) (reading.of-One (scope_at c.args.scope.now) c.args.selects.now c.in-One.select c.in-One.is)) c.add_select.ensures

pub add_selects-returns-in_ok-add_select-in-Two : goal.add_selects-returns-in_ok-add_select-in-Two
add_selects-returns-in_ok-add_select-in-Two t c = on_ok_weaker c.add_select-in-Two-2.result (λ k. joins _ _ _ _ _ _ c.in_ok-add_select-in-Two.ensures k (reading.of-Two (scope_at c.args.scope.now) c.args.selects.now c.in-Two.first c.in-Two.second c.in-Two.is)) c.add_select-in-Two-2.ensures

pub add_parts-add_read-requires : goal.add_parts-add_read-requires
add_parts-add_read-requires t c =
    let s = (scope_at c.args.scope.now) in
    let xs = c.args.parts.now in
    let i = c.loop-part.part-index in
    let rest = rest_is xs i c.part-item.result (omega arith) c.part-item.is in
    let n = subst (λ ys. AreNarrow s (expressions_of ys)) rest c.loop-part.invariant.narrow in
    (search (rules, the_lemmas), (c.requires.objects, n.0))

pub add_parts-loop-part-preserved : goal.add_parts-loop-part-preserved
add_parts-loop-part-preserved t c =
    let s = (scope_at c.args.scope.now) in
    let xs = c.args.parts.now in
    let i = c.loop-part.part-index in
    let rest = rest_is xs i c.part-item.result (omega arith) c.part-item.is in
    let n = subst (λ ys. AreNarrow s (expressions_of ys)) rest c.loop-part.invariant.narrow in
    record {
      same = turn _ _ _ _ _ (c.loop-part.invariant.same ∙ ap (λ ys. or_in (bits_in c.loop-part.found.items) (parts_read s ys)) rest) c.in_ok-add_read.ensures;
      narrow = n.1;
    }

pub add_parts-returns : goal.add_parts-returns
add_parts-returns t c =
    let s = (scope_at c.args.scope.now) in
    end _ _ _ c.loop-part.invariant.same (at_drop_all (parts_read s) c.args.parts.now c.loop-part.part-index c.loop-part-test.false)

pub add_links-add_read-requires : goal.add_links-add_read-requires
add_links-add_read-requires t c =
    let s = (scope_at c.args.scope.now) in
    let xs = c.args.links.now in
    let i = c.loop-link.link-index in
    let rest = rest_is xs i c.link-item.result (omega arith) c.link-item.is in
    let n = subst (AreLinksNarrow s) rest c.loop-link.invariant.narrow in
    (search (rules, the_lemmas), (c.requires.objects, n.0))

pub add_links-loop-link-preserved : goal.add_links-loop-link-preserved
add_links-loop-link-preserved t c =
    let s = (scope_at c.args.scope.now) in
    let xs = c.args.links.now in
    let i = c.loop-link.link-index in
    let rest = rest_is xs i c.link-item.result (omega arith) c.link-item.is in
    let n = subst (AreLinksNarrow s) rest c.loop-link.invariant.narrow in
    record {
      same = turn _ _ _ _ _ (c.loop-link.invariant.same ∙ ap (λ ys. or_in (bits_in c.loop-link.found.items) (links_read s ys)) rest) c.in_ok-add_read.ensures;
      narrow = n.1;
    }

pub add_links-returns : goal.add_links-returns
add_links-returns t c =
    let s = (scope_at c.args.scope.now) in
    end _ _ _ c.loop-link.invariant.same (at_drop_all (links_read s) c.args.links.now c.loop-link.link-index c.loop-link-test.false)

pub add_tests-add_read-requires : goal.add_tests-add_read-requires
add_tests-add_read-requires t c =
    let s = (scope_at c.args.scope.now) in
    let xs = c.args.links.now in
    let i = c.loop-link.link-index in
    let rest = rest_is xs i c.link-item.result (omega arith) c.link-item.is in
    let n = subst (AreTestsNarrow s) rest c.loop-link.invariant.narrow in
    (search (rules, the_lemmas), (c.requires.objects, n.0))

pub add_tests-loop-link-preserved : goal.add_tests-loop-link-preserved
add_tests-loop-link-preserved t c =
    let s = (scope_at c.args.scope.now) in
    let xs = c.args.links.now in
    let i = c.loop-link.link-index in
    let rest = rest_is xs i c.link-item.result (omega arith) c.link-item.is in
    let n = subst (AreTestsNarrow s) rest c.loop-link.invariant.narrow in
    record {
      same = turn _ _ _ _ _ (c.loop-link.invariant.same ∙ ap (λ ys. or_in (bits_in c.loop-link.found.items) (tests_read s ys)) rest) c.in_ok-add_read.ensures;
      narrow = n.1;
    }

pub add_tests-returns : goal.add_tests-returns
add_tests-returns t c =
    let s = (scope_at c.args.scope.now) in
    end _ _ _ c.loop-link.invariant.same (at_drop_all (tests_read s) c.args.links.now c.loop-link.link-index c.loop-link-test.false)

pub add_choices-add_read-requires : goal.add_choices-add_read-requires
add_choices-add_read-requires t c =
    let s = (scope_at c.args.scope.now) in
    let xs = c.args.choices.now in
    let i = c.loop-choice.choice-index in
    let rest = rest_is xs i c.choice-item.result (omega arith) c.choice-item.is in
    let n = subst (AreChoicesNarrow s) rest c.loop-choice.invariant.narrow in
    (search (rules, the_lemmas), (c.requires.objects, n.0))

pub add_choices-add_read-requires-in-loop-choice : goal.add_choices-add_read-requires-in-loop-choice
add_choices-add_read-requires-in-loop-choice t c =
    let s = (scope_at c.args.scope.now) in
    let xs = c.args.choices.now in
    let i = c.loop-choice.choice-index in
    let rest = rest_is xs i c.choice-item.result (omega arith) c.choice-item.is in
    let n = subst (AreChoicesNarrow s) rest c.loop-choice.invariant.narrow in
    (search (rules, the_lemmas), (c.requires.objects, n.1))

pub add_choices-loop-choice-preserved : goal.add_choices-loop-choice-preserved
add_choices-loop-choice-preserved t c =
    let s = (scope_at c.args.scope.now) in
    let xs = c.args.choices.now in
    let i = c.loop-choice.choice-index in
    let rest = rest_is xs i c.choice-item.result (omega arith) c.choice-item.is in
    let n = subst (AreChoicesNarrow s) rest c.loop-choice.invariant.narrow in
    record {
      same = turn-two _ _ _ _ _ _ _ (c.loop-choice.invariant.same ∙ ap (λ ys. or_in (bits_in c.loop-choice.found.items) (choices_read s ys)) rest) c.in_ok-add_read.ensures c.in_ok-add_read-2.ensures;
      narrow = n.2;
    }

pub add_choices-returns : goal.add_choices-returns
add_choices-returns t c =
    let s = (scope_at c.args.scope.now) in
    end _ _ _ c.loop-choice.invariant.same (at_drop_all (choices_read s) c.args.choices.now c.loop-choice.choice-index c.loop-choice-test.false)
