use Rattle.std.proofs.Common.{◌≡◌, ◌≤◌, ◌<◌, ◌-◌, ◌==◌, ◌∙◌, true, false, cond, nat_le, drop, take, length, get_or, ◌∷◌, ◌+◌, refl, ap, sym, subst, rules, arith}
use Rattle.wb_values.specs.Value.{word}
use Rattle.verilog_meaning.specs.Expression.{is_memory, no_values}
use Rattle.v_syntax.specs.declared.tree.Expression.{the_lemmas}
use Rattle.v_syntax.specs.Tree.{tree_of, select_of, selects_of, expressions_of, tested}
use Rattle.v_syntax.specs.Chain.{linked, test_linked, chosen}
use Rattle.v_value.specs.Scope.{object_of, scope_at}
use Rattle.v_value.specs.Evaluation.{width_at, sign_at}
use Rattle.v_value.proofs.Arms as arms
use Rattle.v_operators.proofs.Growing.{Grows-refl, Grows-trans, IsOfSort-kept}
use Rattle.v_lower.specs.Table.{images_at}
use Rattle.v_lower.specs.Reading.{TakesBits}
use Rattle.v_lower.proofs.Lowering.{images_kept, lowered_kept, parts_kept}
use Rattle.v_lower.proofs.Soundness.{sound-narrow}
use Rattle.v_lower.proofs.Branches.{number-fits, name-sound, parts-sound, repeated-sound, signed-sound, unsigned-sound, prefix-sound, first-sound, links-sound, tests-sound, choices-sound, last-sound, number-whole, name-whole, parts-whole, repeated-whole, signed-whole, unsigned-whole, prefix-whole, binary-whole, test-whole, choices-whole}
use Rattle.v_lower.proofs.Branches as branches
use Rattle.v_lower.proofs.Contextual.{left-within, right-within, left-fits, right-fits, contexts_are, bit_contexts_are, first_linked, alone_at, alone_width, own-within, read-within, parts-within, parts-count, count-is, few-copies, sign-is, few_up, few_down, plain-within, plain-kind, next_some, one_fits, alone_kept_on}
use Rattle.v_lower.proofs.Turns.{drop_item, drop_before, going_on, gone, link-sound, link-within, chosen_more, chosen_none, choice-sound, choice-within, testing_on, test-sound, part-sound, parts_more, parts_fit}
use Rattle.v_lower.proofs.Taken.{word_is_read, bits_are_read, word_bits_are_read}
use Rattle.v_lower.proofs.Chosen.{one-word, one-bits, whole-of, one-of, two-word, two-bits, whole-read, one-read, two-read, address-sound, address-read, index-sound, part-bounded, up-sound, up-narrow, up-count, down-sound, down-narrow, down-count, index-taken, up-taken, down-taken}
use Rattle.v_value.proofs.Values.{widths-parts}
use Rattle.v_lower.specs.Lowered.{IsLowered}
use Rattle.v_lower.proofs.Tested.{no_tests, some_tests, only-first, first-test-sound}
use Rattle.v_lower.proofs.walking.+walk.Goals as goal

pub lower_in-lower_number-requires-clause-some_bits : goal.lower_in-lower_number-requires-clause-some_bits
lower_in-lower_number-requires-clause-some_bits t c =
    (number-fits (scope_at c.args.names.scope.now) c.args.expression.now c.requires.sound c.in-Number.number c.args.names.narrow c.in-Number.is).0.0

pub lower_in-lower_number-requires-clause-fits : goal.lower_in-lower_number-requires-clause-fits
lower_in-lower_number-requires-clause-fits t c =
    (number-fits (scope_at c.args.names.scope.now) c.args.expression.now c.requires.sound c.in-Number.number c.args.names.narrow c.in-Number.is).1

pub lower_in-lower_number-requires-clause-wider : goal.lower_in-lower_number-requires-clause-wider
lower_in-lower_number-requires-clause-wider t c =
    (arms.number-within (scope_at c.args.names.scope.now) no_values c.args.expression.now c.args.width c.args.signed 0 (sound-narrow (scope_at c.args.names.scope.now) (tree_of c.args.expression.now) c.args.names.narrow c.requires.sound) c.requires.within c.in-Number.number c.in-Number.is)

pub lower_in-returns-in_ok-id-in-Number-clause-lowered : goal.lower_in-returns-in_ok-id-in-Number-clause-lowered
lower_in-returns-in_ok-id-in-Number-clause-lowered t c =
    number-whole (scope_at c.args.names.scope.now) (images_at c.args.names.table.now) c.lower_number.new.terms c.args.expression.now c.args.width c.args.signed c.in_ok-id-in-Number.id.0 c.in-Number.number c.in-Number.is (c.in_ok-id-in-Number.ensures.lowered (scope_at c.args.names.scope.now) (images_at c.args.names.table.now))

pub lower_in-lower_name-requires : goal.lower_in-lower_name-requires
lower_in-lower_name-requires t c =
    ((search (rules, the_lemmas)), (c.requires.known, (name-sound (scope_at c.args.names.scope.now) c.args.expression.now c.requires.sound c.in-Name.name c.in-Name.selects c.args.names.narrow c.in-Name.is)))

pub lower_in-lower_read-requires-clause-wider : goal.lower_in-lower_read-requires-clause-wider
lower_in-lower_read-requires-clause-wider t c =
    read-within (scope_at c.args.names.scope.now) c.in-Name.name.now (selects_of c.in-Name.selects) c.in_ok-read-in-Name.read.width c.args.width c.in_ok-read-in-Name.ensures.read.width (subst (λ x. width_at (scope_at c.args.names.scope.now) (tree_of x) ≤ c.args.width) c.in-Name.is c.requires.within)

pub lower_in-returns-in_ok-id-in-Name-clause-lowered : goal.lower_in-returns-in_ok-id-in-Name-clause-lowered
lower_in-returns-in_ok-id-in-Name-clause-lowered t c =
    name-whole (scope_at c.args.names.scope.now) (images_at c.args.names.table.now) c.lower_read.new.terms c.args.expression.now c.args.width c.args.signed c.in_ok-id-in-Name.id.0 c.in-Name.name c.in-Name.selects c.in-Name.is
    (c.in_ok-id-in-Name.ensures.lowered (scope_at c.args.names.scope.now) (images_at c.args.names.table.now) c.in-Name.name.now (selects_of c.in-Name.selects) (images_kept (scope_at c.args.names.scope.now) (images_at c.args.names.table.now) c.args.terms.now c.lower_name.new.terms c.in_ok-read-in-Name.ensures.grows c.requires.known) c.in_ok-read-in-Name.ensures.read)

pub lower_in-lower_parts-requires : goal.lower_in-lower_parts-requires
lower_in-lower_parts-requires t c =
    ((search (rules, the_lemmas)), (c.requires.known, (parts-sound (scope_at c.args.names.scope.now) c.args.expression.now c.requires.sound c.in-Concatenation.parts c.in-Concatenation.is c.deref.result.now c.deref.ensures.value, ((arms.parts-some (scope_at c.args.names.scope.now) no_values c.args.expression.now c.args.width c.args.signed 0 (sound-narrow (scope_at c.args.names.scope.now) (tree_of c.args.expression.now) c.args.names.narrow c.requires.sound) c.requires.within c.in-Concatenation.parts c.in-Concatenation.is c.deref.result.now c.deref.ensures.value), (arms.parts-most (scope_at c.args.names.scope.now) no_values c.args.expression.now c.args.width c.args.signed 0 (sound-narrow (scope_at c.args.names.scope.now) (tree_of c.args.expression.now) c.args.names.narrow c.requires.sound) c.requires.within c.in-Concatenation.parts c.in-Concatenation.is c.deref.result.now c.deref.ensures.value)))))

pub lower_in-lower_concatenation-requires-clause-wider : goal.lower_in-lower_concatenation-requires-clause-wider
lower_in-lower_concatenation-requires-clause-wider t c =
    parts-within (scope_at c.args.names.scope.now) (images_at c.args.names.table.now) c.lower_parts.new.terms c.deref.result.now c.in_ok-all-in-Concatenation.all.width c.in_ok-all-in-Concatenation.all.id.0 c.args.width c.in_ok-all-in-Concatenation.ensures.lowered (arms.parts-within (scope_at c.args.names.scope.now) no_values c.args.expression.now c.args.width c.args.signed 0 (sound-narrow (scope_at c.args.names.scope.now) (tree_of c.args.expression.now) c.args.names.narrow c.requires.sound) c.requires.within c.in-Concatenation.parts c.in-Concatenation.is c.deref.result.now c.deref.ensures.value)

pub lower_in-returns-in_ok-id-in-Concatenation-clause-lowered : goal.lower_in-returns-in_ok-id-in-Concatenation-clause-lowered
lower_in-returns-in_ok-id-in-Concatenation-clause-lowered t c =
    parts-whole (scope_at c.args.names.scope.now) (images_at c.args.names.table.now) c.lower_concatenation.new.terms c.args.expression.now c.args.width c.args.signed c.in_ok-id-in-Concatenation.id.0 c.in-Concatenation.parts c.in-Concatenation.is c.deref.result.now c.deref.ensures.value
    (c.in_ok-id-in-Concatenation.ensures.lowered (scope_at c.args.names.scope.now) (images_at c.args.names.table.now) (expressions_of c.deref.result.now) (images_kept (scope_at c.args.names.scope.now) (images_at c.args.names.table.now) c.args.terms.now c.lower_parts.new.terms c.in_ok-all-in-Concatenation.ensures.grows c.requires.known) c.in_ok-all-in-Concatenation.ensures.lowered)

pub lower_in-lower_parts-requires-in-Replication : goal.lower_in-lower_parts-requires-in-Replication
lower_in-lower_parts-requires-in-Replication t c =
    ((search (rules, the_lemmas)), (c.requires.known, (repeated-sound (scope_at c.args.names.scope.now) c.args.expression.now c.requires.sound c.in-Replication.count c.in-Replication.parts c.in-Replication.is c.deref-in-Replication.result.now c.deref-in-Replication.ensures.value, ((arms.repeated-some (scope_at c.args.names.scope.now) no_values c.args.expression.now c.args.width c.args.signed 0 (sound-narrow (scope_at c.args.names.scope.now) (tree_of c.args.expression.now) c.args.names.narrow c.requires.sound) c.requires.within c.in-Replication.count c.in-Replication.parts c.in-Replication.is c.deref-in-Replication.result.now c.deref-in-Replication.ensures.value), (arms.repeated-most (scope_at c.args.names.scope.now) no_values c.args.expression.now c.args.width c.args.signed 0 (sound-narrow (scope_at c.args.names.scope.now) (tree_of c.args.expression.now) c.args.names.narrow c.requires.sound) c.requires.within c.in-Replication.count c.in-Replication.parts c.in-Replication.is c.deref-in-Replication.result.now c.deref-in-Replication.ensures.value)))))

pub lower_in-count_of-copies-requires-clause-narrow : goal.lower_in-count_of-copies-requires-clause-narrow
lower_in-count_of-copies-requires-clause-narrow t c =
    (arms.count-narrow (scope_at c.args.names.scope.now) no_values c.args.expression.now c.args.width c.args.signed 0 (sound-narrow (scope_at c.args.names.scope.now) (tree_of c.args.expression.now) c.args.names.narrow c.requires.sound) c.requires.within c.in-Replication.count c.in-Replication.parts c.in-Replication.is c.deref-in-Replication-2.result.now c.deref-in-Replication-2.ensures)

pub lower_in-count_of-copies-requires-clause-at_most_128 : goal.lower_in-count_of-copies-requires-clause-at_most_128
lower_in-count_of-copies-requires-clause-at_most_128 t c =
    few-copies (scope_at c.args.names.scope.now) c.args.expression.now c.args.width (sound-narrow (scope_at c.args.names.scope.now) (tree_of c.args.expression.now) c.args.names.narrow c.requires.sound) c.requires.within c.in-Replication.count c.in-Replication.parts c.in-Replication.is c.deref-in-Replication-2.result.now c.deref-in-Replication-2.ensures c.deref-in-Replication.result.now c.deref-in-Replication.ensures.value

pub lower_in-lower_replication-requires-clause-some : goal.lower_in-lower_replication-requires-clause-some
lower_in-lower_replication-requires-clause-some t c =
    (arms.count-some (scope_at c.args.names.scope.now) no_values c.args.expression.now c.args.width c.args.signed 0 (sound-narrow (scope_at c.args.names.scope.now) (tree_of c.args.expression.now) c.args.names.narrow c.requires.sound) c.requires.within c.in-Replication.count c.in-Replication.parts c.in-Replication.is c.deref-in-Replication-2.result.now c.deref-in-Replication-2.ensures c.count_of-copies.result c.count_of-copies.ensures)

pub lower_in-lower_replication-requires-clause-wider : goal.lower_in-lower_replication-requires-clause-wider
lower_in-lower_replication-requires-clause-wider t c =
    (arms.copies-within (scope_at c.args.names.scope.now) no_values c.args.expression.now c.args.width c.args.signed 0 (sound-narrow (scope_at c.args.names.scope.now) (tree_of c.args.expression.now) c.args.names.narrow c.requires.sound) c.requires.within c.in-Replication.count c.in-Replication.parts c.in-Replication.is c.deref-in-Replication-2.result.now c.deref-in-Replication-2.ensures c.count_of-copies.result c.count_of-copies.ensures c.deref-in-Replication.result.now c.deref-in-Replication.ensures.value c.in_ok-all-in-Replication.all.width (parts-count (scope_at c.args.names.scope.now) (images_at c.args.names.table.now) c.lower_parts-in-Replication.new.terms c.deref-in-Replication.result.now c.in_ok-all-in-Replication.all.width c.in_ok-all-in-Replication.all.id.0 c.in_ok-all-in-Replication.ensures.lowered))

pub lower_in-returns-in_ok-id-in-Replication-clause-lowered : goal.lower_in-returns-in_ok-id-in-Replication-clause-lowered
lower_in-returns-in_ok-id-in-Replication-clause-lowered t c =
    repeated-whole (scope_at c.args.names.scope.now) (images_at c.args.names.table.now) c.lower_replication.new.terms c.args.expression.now c.args.width c.args.signed c.in_ok-id-in-Replication.id.0 c.in-Replication.count c.in-Replication.parts c.in-Replication.is c.deref-in-Replication-2.result.now c.deref-in-Replication-2.ensures c.deref-in-Replication.result.now c.deref-in-Replication.ensures.value
    (c.in_ok-id-in-Replication.ensures.lowered (scope_at c.args.names.scope.now) (images_at c.args.names.table.now) (tree_of c.deref-in-Replication-2.result.now) (expressions_of c.deref-in-Replication.result.now) (images_kept (scope_at c.args.names.scope.now) (images_at c.args.names.table.now) c.args.terms.now c.lower_parts-in-Replication.new.terms c.in_ok-all-in-Replication.ensures.grows c.requires.known) (count-is (scope_at c.args.names.scope.now) (tree_of c.deref-in-Replication-2.result.now) c.count_of-copies.result c.count_of-copies.ensures) c.in_ok-all-in-Replication.ensures.lowered)

pub lower_in-lower_alone-requires : goal.lower_in-lower_alone-requires
lower_in-lower_alone-requires t c =
    ((search (rules, the_lemmas)), (c.requires.known, signed-sound (scope_at c.args.names.scope.now) c.args.expression.now c.requires.sound c.in-AsSigned.operand c.in-AsSigned.is c.deref-in-AsSigned.result.now c.deref-in-AsSigned.ensures))

pub lower_in-lower_signed-requires-clause-wider : goal.lower_in-lower_signed-requires-clause-wider
lower_in-lower_signed-requires-clause-wider t c =
    subst (λ k. k ≤ c.args.width) (sym (alone_width (scope_at c.args.names.scope.now) (images_at c.args.names.table.now) c.lower_alone.new.terms (tree_of c.deref-in-AsSigned.result.now) c.in_ok-own-in-AsSigned.own.width c.in_ok-own-in-AsSigned.own.id.0 c.in_ok-own-in-AsSigned.ensures.lowered)) (arms.signed-within (scope_at c.args.names.scope.now) no_values c.args.expression.now c.args.width c.args.signed 0 (sound-narrow (scope_at c.args.names.scope.now) (tree_of c.args.expression.now) c.args.names.narrow c.requires.sound) c.requires.within c.in-AsSigned.operand c.in-AsSigned.is c.deref-in-AsSigned.result.now c.deref-in-AsSigned.ensures)

pub lower_in-returns-in_ok-id-in-AsSigned-clause-lowered : goal.lower_in-returns-in_ok-id-in-AsSigned-clause-lowered
lower_in-returns-in_ok-id-in-AsSigned-clause-lowered t c =
    signed-whole (scope_at c.args.names.scope.now) (images_at c.args.names.table.now) c.lower_signed.new.terms c.args.expression.now c.args.width c.args.signed c.in_ok-id-in-AsSigned.id.0 c.in-AsSigned.operand c.in-AsSigned.is c.deref-in-AsSigned.result.now c.deref-in-AsSigned.ensures
    (c.in_ok-id-in-AsSigned.ensures.lowered (scope_at c.args.names.scope.now) (images_at c.args.names.table.now) (tree_of c.deref-in-AsSigned.result.now) (images_kept (scope_at c.args.names.scope.now) (images_at c.args.names.table.now) c.args.terms.now c.lower_alone.new.terms c.in_ok-own-in-AsSigned.ensures.grows c.requires.known) c.in_ok-own-in-AsSigned.ensures.lowered)

pub lower_in-lower_alone-requires-in-AsUnsigned : goal.lower_in-lower_alone-requires-in-AsUnsigned
lower_in-lower_alone-requires-in-AsUnsigned t c =
    ((search (rules, the_lemmas)), (c.requires.known, unsigned-sound (scope_at c.args.names.scope.now) c.args.expression.now c.requires.sound c.in-AsUnsigned.operand c.in-AsUnsigned.is c.deref-in-AsUnsigned.result.now c.deref-in-AsUnsigned.ensures))

pub lower_in-lower_unsigned-requires-clause-wider : goal.lower_in-lower_unsigned-requires-clause-wider
lower_in-lower_unsigned-requires-clause-wider t c =
    subst (λ k. k ≤ c.args.width) (sym (alone_width (scope_at c.args.names.scope.now) (images_at c.args.names.table.now) c.lower_alone-in-AsUnsigned.new.terms (tree_of c.deref-in-AsUnsigned.result.now) c.in_ok-own-in-AsUnsigned.own.width c.in_ok-own-in-AsUnsigned.own.id.0 c.in_ok-own-in-AsUnsigned.ensures.lowered)) (arms.unsigned-within (scope_at c.args.names.scope.now) no_values c.args.expression.now c.args.width c.args.signed 0 (sound-narrow (scope_at c.args.names.scope.now) (tree_of c.args.expression.now) c.args.names.narrow c.requires.sound) c.requires.within c.in-AsUnsigned.operand c.in-AsUnsigned.is c.deref-in-AsUnsigned.result.now c.deref-in-AsUnsigned.ensures)

pub lower_in-returns-in_ok-id-in-AsUnsigned-clause-lowered : goal.lower_in-returns-in_ok-id-in-AsUnsigned-clause-lowered
lower_in-returns-in_ok-id-in-AsUnsigned-clause-lowered t c =
    unsigned-whole (scope_at c.args.names.scope.now) (images_at c.args.names.table.now) c.lower_unsigned.new.terms c.args.expression.now c.args.width c.args.signed c.in_ok-id-in-AsUnsigned.id.0 c.in-AsUnsigned.operand c.in-AsUnsigned.is c.deref-in-AsUnsigned.result.now c.deref-in-AsUnsigned.ensures
    (c.in_ok-id-in-AsUnsigned.ensures.lowered (scope_at c.args.names.scope.now) (images_at c.args.names.table.now) (tree_of c.deref-in-AsUnsigned.result.now) (images_kept (scope_at c.args.names.scope.now) (images_at c.args.names.table.now) c.args.terms.now c.lower_alone-in-AsUnsigned.new.terms c.in_ok-own-in-AsUnsigned.ensures.grows c.requires.known) c.in_ok-own-in-AsUnsigned.ensures.lowered)

pub lower_in-lower_prefixed-requires : goal.lower_in-lower_prefixed-requires
lower_in-lower_prefixed-requires t c =
    ((search (rules, the_lemmas)), (c.requires.known, (prefix-sound (scope_at c.args.names.scope.now) c.args.expression.now c.requires.sound c.in-Prefix.operators c.in-Prefix.operand c.in-Prefix.is c.deref-in-Prefix.result.now c.deref-in-Prefix.ensures, ((arms.prefix-within (scope_at c.args.names.scope.now) no_values c.args.expression.now c.args.width c.args.signed 0 (sound-narrow (scope_at c.args.names.scope.now) (tree_of c.args.expression.now) c.args.names.narrow c.requires.sound) c.requires.within c.in-Prefix.operators c.in-Prefix.operand c.in-Prefix.is c.deref-in-Prefix.result.now c.deref-in-Prefix.ensures c.deref-in-Prefix-2.result.now c.deref-in-Prefix-2.ensures.value), ((arms.some_bits (scope_at c.args.names.scope.now) c.args.expression.now c.args.width (sound-narrow (scope_at c.args.names.scope.now) (tree_of c.args.expression.now) c.args.names.narrow c.requires.sound) c.requires.within), c.requires.at_most_128)))))

pub lower_in-returns-in_ok-id-in-Prefix-clause-lowered : goal.lower_in-returns-in_ok-id-in-Prefix-clause-lowered
lower_in-returns-in_ok-id-in-Prefix-clause-lowered t c =
    prefix-whole (scope_at c.args.names.scope.now) (images_at c.args.names.table.now) c.lower_prefixed.new.terms c.args.expression.now c.args.width c.args.signed c.in_ok-id-in-Prefix.id.0 c.in-Prefix.operators c.in-Prefix.operand c.in-Prefix.is c.deref-in-Prefix.result.now c.deref-in-Prefix.ensures c.deref-in-Prefix-2.result.now c.deref-in-Prefix-2.ensures.value c.in_ok-id-in-Prefix.ensures.lowered

pub lower_in-lower_in-requires : goal.lower_in-lower_in-requires
lower_in-lower_in-requires t c =
    ((search (rules, the_lemmas)), (c.requires.known, (first-sound (scope_at c.args.names.scope.now) c.args.expression.now c.requires.sound c.in-Binary.first c.in-Binary.links c.in-Binary.is c.deref-in-Binary.result.now c.deref-in-Binary.ensures, ((arms.first-within (scope_at c.args.names.scope.now) no_values c.args.expression.now c.args.width c.args.signed 0 (sound-narrow (scope_at c.args.names.scope.now) (tree_of c.args.expression.now) c.args.names.narrow c.requires.sound) c.requires.within c.in-Binary.first c.in-Binary.links c.in-Binary.is c.deref-in-Binary.result.now c.deref-in-Binary.ensures), c.requires.at_most_128))))

pub lower_in-lower_links-requires : goal.lower_in-lower_links-requires
lower_in-lower_links-requires t c =
    ((search (rules, the_lemmas)), ((images_kept (scope_at c.args.names.scope.now) (images_at c.args.names.table.now) c.args.terms.now c.lower_in.new.terms c.in_ok-left-in-Binary.ensures.grows c.requires.known), (links-sound (scope_at c.args.names.scope.now) c.args.expression.now c.requires.sound c.in-Binary.first c.in-Binary.links c.in-Binary.is c.deref-in-Binary-2.result.now c.deref-in-Binary-2.ensures.value, ((arms.links-within (scope_at c.args.names.scope.now) no_values c.args.expression.now c.args.width c.args.signed 0 (sound-narrow (scope_at c.args.names.scope.now) (tree_of c.args.expression.now) c.args.names.narrow c.requires.sound) c.requires.within c.in-Binary.first c.in-Binary.links c.in-Binary.is c.deref-in-Binary-2.result.now c.deref-in-Binary-2.ensures.value), (c.requires.at_most_128, c.in_ok-left-in-Binary.ensures.lowered.of_sort)))))

pub lower_in-returns-in_ok-id-in-Binary-clause-lowered : goal.lower_in-returns-in_ok-id-in-Binary-clause-lowered
lower_in-returns-in_ok-id-in-Binary-clause-lowered t c =
    binary-whole (scope_at c.args.names.scope.now) (images_at c.args.names.table.now) c.lower_links.new.terms c.args.expression.now c.args.width c.args.signed c.in_ok-id-in-Binary.id.0 c.in-Binary.first c.in-Binary.links c.in-Binary.is c.deref-in-Binary.result.now c.deref-in-Binary.ensures c.deref-in-Binary-2.result.now c.deref-in-Binary-2.ensures.value (c.in_ok-id-in-Binary.ensures.lowered (tree_of c.deref-in-Binary.result.now) c.in_ok-left-in-Binary.ensures.lowered)

pub lower_in-lower_in-requires-in-Conditional : goal.lower_in-lower_in-requires-in-Conditional
lower_in-lower_in-requires-in-Conditional t c =
    ((search (rules, the_lemmas)), (c.requires.known, (last-sound (scope_at c.args.names.scope.now) c.args.expression.now c.requires.sound c.in-Conditional.choices c.in-Conditional.last c.in-Conditional.is c.deref-in-Conditional.result.now c.deref-in-Conditional.ensures, ((arms.last-within (scope_at c.args.names.scope.now) no_values c.args.expression.now c.args.width c.args.signed 0 (sound-narrow (scope_at c.args.names.scope.now) (tree_of c.args.expression.now) c.args.names.narrow c.requires.sound) c.requires.within c.in-Conditional.choices c.in-Conditional.last c.in-Conditional.is c.deref-in-Conditional.result.now c.deref-in-Conditional.ensures), c.requires.at_most_128))))

pub lower_in-lower_choices-requires : goal.lower_in-lower_choices-requires
lower_in-lower_choices-requires t c =
    ((search (rules, the_lemmas)), ((images_kept (scope_at c.args.names.scope.now) (images_at c.args.names.table.now) c.args.terms.now c.lower_in-in-Conditional.new.terms c.in_ok-other-in-Conditional.ensures.grows c.requires.known), (choices-sound (scope_at c.args.names.scope.now) c.args.expression.now c.requires.sound c.in-Conditional.choices c.in-Conditional.last c.in-Conditional.is c.deref-in-Conditional-2.result.now c.deref-in-Conditional-2.ensures.value, ((arms.choices-within (scope_at c.args.names.scope.now) no_values c.args.expression.now c.args.width c.args.signed 0 (sound-narrow (scope_at c.args.names.scope.now) (tree_of c.args.expression.now) c.args.names.narrow c.requires.sound) c.requires.within c.in-Conditional.choices c.in-Conditional.last c.in-Conditional.is c.deref-in-Conditional-2.result.now c.deref-in-Conditional-2.ensures.value), (c.requires.at_most_128, c.in_ok-other-in-Conditional.ensures.lowered.of_sort)))))

pub lower_in-returns-in_ok-id-in-Conditional-clause-lowered : goal.lower_in-returns-in_ok-id-in-Conditional-clause-lowered
lower_in-returns-in_ok-id-in-Conditional-clause-lowered t c =
    choices-whole (scope_at c.args.names.scope.now) (images_at c.args.names.table.now) c.lower_choices.new.terms c.args.expression.now c.args.width c.args.signed c.in_ok-id-in-Conditional.id.0 c.in-Conditional.choices c.in-Conditional.last c.in-Conditional.is c.deref-in-Conditional.result.now c.deref-in-Conditional.ensures c.deref-in-Conditional-2.result.now c.deref-in-Conditional-2.ensures.value (c.in_ok-id-in-Conditional.ensures.lowered (tree_of c.deref-in-Conditional.result.now) c.in_ok-other-in-Conditional.ensures.lowered)

pub lower_alone-lower_in-requires : goal.lower_alone-lower_in-requires
lower_alone-lower_in-requires t c =
    ((search (rules, the_lemmas)), (c.requires.known, (c.requires.sound, (own-within c.own_context-own.result.width (width_at (scope_at c.args.names.scope.now) (tree_of c.args.expression.now)) c.own_context-own.ensures.width, c.own_context-own.ensures.at_most_128))))

pub lower_alone-returns-clause-lowered : goal.lower_alone-returns-clause-lowered
lower_alone-returns-clause-lowered t c =
    alone_at (scope_at c.args.names.scope.now) (images_at c.args.names.table.now) c.lower_in.new.terms (tree_of c.args.expression.now) c.own_context-own.result.width c.in_ok-id.id.0 c.own_context-own.result.signed c.own_context-own.ensures.width c.own_context-own.ensures.sign c.in_ok-id.ensures.lowered

pub lower_name-lower_whole-requires-clause-sort : goal.lower_name-lower_whole-requires-clause-sort
lower_name-lower_whole-requires-clause-sort t c =
    c.requires.1.1.1.sort

pub lower_name-lower_whole-requires-clause-no_memory : goal.lower_name-lower_whole-requires-clause-no_memory
lower_name-lower_whole-requires-clause-no_memory t c =
    whole-of (scope_at c.args.names.scope.now) c.args.name.now c.args.selects.now c.requires.1.1.1 c.in-Whole.is

pub lower_name-lower_selected-requires : goal.lower_name-lower_selected-requires
lower_name-lower_selected-requires t c =
    ((search (rules, the_lemmas)), (c.requires.1.1.0, one-of (scope_at c.args.names.scope.now) c.args.name.now c.args.selects.now c.requires.1.1.1 c.in-One.select c.in-One.is))

pub lower_name-lower_addressed-requires : goal.lower_name-lower_addressed-requires
lower_name-lower_addressed-requires t c =
    ((search (rules, the_lemmas)), (c.requires.1.1.0, two-word (scope_at c.args.names.scope.now) c.args.name.now c.args.selects.now c.requires.1.1.1 c.in-Two.address c.in-Two.select c.in-Two.is))

pub lower_name-lower_bits-requires : goal.lower_name-lower_bits-requires
lower_name-lower_bits-requires t c =
    ((search (rules, the_lemmas)), ((images_kept (scope_at c.args.names.scope.now) (images_at c.args.names.table.now) c.args.terms.now c.lower_addressed.new.terms c.in_ok-word-in-Two.ensures.grows c.requires.1.1.0), (two-bits (scope_at c.args.names.scope.now) c.args.name.now c.args.selects.now c.requires.1.1.1 c.in-Two.address c.in-Two.select c.in-Two.is, c.in_ok-word-in-Two.ensures.word.of_sort)))

pub lower_name-returns-in_ok-read-in-Whole-clause-read : goal.lower_name-returns-in_ok-read-in-Whole-clause-read
lower_name-returns-in_ok-read-in-Whole-clause-read t c =
    whole-read (scope_at c.args.names.scope.now) (images_at c.args.names.table.now) c.lower_whole.new.terms c.args.name.now c.args.selects.now c.in_ok-read-in-Whole.read.width c.in_ok-read-in-Whole.read.id.0 c.in-Whole.is c.in_ok-read-in-Whole.ensures.read

pub lower_name-returns-in_ok-read-in-One-clause-read : goal.lower_name-returns-in_ok-read-in-One-clause-read
lower_name-returns-in_ok-read-in-One-clause-read t c =
    one-read (scope_at c.args.names.scope.now) (images_at c.args.names.table.now) c.lower_selected.new.terms c.args.name.now c.args.selects.now c.in_ok-read-in-One.read.width c.in_ok-read-in-One.read.id.0 c.in-One.select c.in-One.is c.in_ok-read-in-One.ensures.read

pub lower_name-returns-in_ok-read-in-Two-clause-read : goal.lower_name-returns-in_ok-read-in-Two-clause-read
lower_name-returns-in_ok-read-in-Two-clause-read t c =
    two-read (scope_at c.args.names.scope.now) (images_at c.args.names.table.now) c.lower_bits.new.terms c.args.name.now c.args.selects.now c.in_ok-read-in-Two.read.width c.in_ok-read-in-Two.read.id.0 c.in-Two.address c.in-Two.select c.in-Two.is
    (word_bits_are_read (scope_at c.args.names.scope.now) (images_at c.args.names.table.now) c.lower_addressed.new.terms c.lower_bits.new.terms c.args.name.now (images_kept (scope_at c.args.names.scope.now) (images_at c.args.names.table.now) c.args.terms.now c.lower_addressed.new.terms c.in_ok-word-in-Two.ensures.grows c.requires.1.1.0) c.in_ok-read-in-Two.ensures.grows (select_of c.in-Two.address) (select_of c.in-Two.select) c.in_ok-word-in-Two.word.width c.in_ok-word-in-Two.word.id.0 c.in_ok-read-in-Two.read.width c.in_ok-read-in-Two.read.id.0 c.in_ok-word-in-Two.ensures.word
    (subst (λ o. TakesBits (scope_at c.args.names.scope.now) (images_at c.args.names.table.now) c.lower_addressed.new.terms c.lower_bits.new.terms o (select_of c.in-Two.select) c.in_ok-word-in-Two.word.id.0 c.in_ok-word-in-Two.word.width c.in_ok-read-in-Two.read.width c.in_ok-read-in-Two.read.id.0) c.object.ensures c.in_ok-read-in-Two.ensures.bits))

pub lower_selected-lower_addressed-requires : goal.lower_selected-lower_addressed-requires
lower_selected-lower_addressed-requires t c =
    ((search (rules, the_lemmas)), (c.requires.1.1.0, one-word (scope_at c.args.names.scope.now) c.args.name.now (select_of c.args.select.now) c.requires.1.1.1 (sym (ap is_memory c.object-object.ensures) ∙ (sym c.is_some.ensures ∙ c.if-is_some.true))))

pub lower_selected-lower_whole-requires-clause-sort : goal.lower_selected-lower_whole-requires-clause-sort
lower_selected-lower_whole-requires-clause-sort t c =
    c.requires.1.1.1.sort

pub lower_selected-lower_whole-requires-clause-no_memory : goal.lower_selected-lower_whole-requires-clause-no_memory
lower_selected-lower_whole-requires-clause-no_memory t c =
    (sym (ap is_memory c.object-object.ensures) ∙ (sym c.is_some.ensures ∙ c.if-is_some.false))

pub lower_selected-lower_bits-requires : goal.lower_selected-lower_bits-requires
lower_selected-lower_bits-requires t c =
    ((search (rules, the_lemmas)), ((images_kept (scope_at c.args.names.scope.now) (images_at c.args.names.table.now) c.args.terms.now c.lower_whole.new.terms c.in_ok-whole.ensures.grows c.requires.1.1.0), (one-bits (scope_at c.args.names.scope.now) c.args.name.now (select_of c.args.select.now) c.requires.1.1.1 (sym (ap is_memory c.object-object.ensures) ∙ (sym c.is_some.ensures ∙ c.if-is_some.false)), c.in_ok-whole.ensures.read.of_sort)))

pub lower_selected-returns-then-is_some-clause-read : goal.lower_selected-returns-then-is_some-clause-read
lower_selected-returns-then-is_some-clause-read t c =
    word_is_read (scope_at c.args.names.scope.now) (images_at c.args.names.table.now) c.lower_addressed.new.terms c.args.name.now (select_of c.args.select.now) c.in_ok-word.word.width c.in_ok-word.word.id.0 (sym (ap is_memory c.object-object.ensures) ∙ (sym c.is_some.ensures ∙ c.if-is_some.true)) c.in_ok-word.ensures.word

pub lower_selected-returns-clause-read : goal.lower_selected-returns-clause-read
lower_selected-returns-clause-read t c =
    bits_are_read (scope_at c.args.names.scope.now) (images_at c.args.names.table.now) c.lower_whole.new.terms c.lower_bits.new.terms c.args.name.now (images_kept (scope_at c.args.names.scope.now) (images_at c.args.names.table.now) c.args.terms.now c.lower_whole.new.terms c.in_ok-whole.ensures.grows c.requires.1.1.0) c.in_ok-bits.ensures.grows (select_of c.args.select.now) c.in_ok-whole.whole.width c.in_ok-whole.whole.id.0 c.in_ok-bits.bits.width c.in_ok-bits.bits.id.0 (sym (ap is_memory c.object-object.ensures) ∙ (sym c.is_some.ensures ∙ c.if-is_some.false)) c.in_ok-whole.ensures.read
    (subst (λ o. TakesBits (scope_at c.args.names.scope.now) (images_at c.args.names.table.now) c.lower_whole.new.terms c.lower_bits.new.terms o (select_of c.args.select.now) c.in_ok-whole.whole.id.0 c.in_ok-whole.whole.width c.in_ok-bits.bits.width c.in_ok-bits.bits.id.0) c.object-object.ensures c.in_ok-bits.ensures.bits)

pub lower_addressed-lower_alone-requires : goal.lower_addressed-lower_alone-requires
lower_addressed-lower_alone-requires t c =
    ((search (rules, the_lemmas)), (c.requires.1.1.0, address-sound (scope_at c.args.names.scope.now) c.args.name.now c.args.select.now c.requires.1.1.1 c.in-Index.index c.in-Index.is c.deref.result.now c.deref.ensures))

pub lower_addressed-lower_word-requires-clause-known : goal.lower_addressed-lower_word-requires-clause-known
lower_addressed-lower_word-requires-clause-known t c =
    (images_kept (scope_at c.args.names.scope.now) (images_at c.args.names.table.now) c.args.terms.now c.lower_alone.new.terms c.in_ok-address-in-Index.ensures.grows c.requires.1.1.0)

pub lower_addressed-lower_word-requires-clause-sort : goal.lower_addressed-lower_word-requires-clause-sort
lower_addressed-lower_word-requires-clause-sort t c =
    c.requires.1.1.1.sort

pub lower_addressed-lower_word-requires-clause-memory : goal.lower_addressed-lower_word-requires-clause-memory
lower_addressed-lower_word-requires-clause-memory t c =
    c.requires.1.1.1.memory

pub lower_addressed-returns-clause-word : goal.lower_addressed-returns-clause-word
lower_addressed-returns-clause-word t c =
    address-read (scope_at c.args.names.scope.now) (images_at c.args.names.table.now) c.lower_word.new.terms c.args.name.now c.args.select.now c.in_ok-word-in-Index.word.width c.in_ok-word-in-Index.word.id.0 c.in-Index.index c.in-Index.is c.deref.result.now c.deref.ensures
    (c.in_ok-word-in-Index.ensures.read (tree_of c.deref.result.now) c.in_ok-address-in-Index.ensures.lowered (sign-is (scope_at c.args.names.scope.now) (tree_of c.deref.result.now) c.in_ok-address-in-Index.address.signed c.in_ok-address-in-Index.ensures.sign))

pub lower_bits-lower_alone-requires : goal.lower_bits-lower_alone-requires
lower_bits-lower_alone-requires t c =
    ((search (rules, the_lemmas)), (c.requires.known, index-sound (scope_at c.args.names.scope.now) c.args.select.now c.requires.sound c.in-Index.index c.in-Index.is c.deref.result.now c.deref.ensures))

pub lower_bits-taken_bits-requires-clause-operand : goal.lower_bits-taken_bits-requires-clause-operand
lower_bits-taken_bits-requires-clause-operand t c =
    IsOfSort-kept c.args.operand.id.0 (word c.args.operand.width) c.in_ok-base-in-Index.ensures.grows c.requires.operand

pub lower_bits-taken_bits-requires-clause-index : goal.lower_bits-taken_bits-requires-clause-index
lower_bits-taken_bits-requires-clause-index t c =
    c.in_ok-base-in-Index.ensures.lowered.lowered.of_sort

pub lower_bits-returns-in_ok-bits-in-Index-clause-bits : goal.lower_bits-returns-in_ok-bits-in-Index-clause-bits
lower_bits-returns-in_ok-bits-in-Index-clause-bits t c =
    index-taken (scope_at c.args.names.scope.now) (images_at c.args.names.table.now) c.args.terms.now c.lower_alone.new.terms c.taken_bits.new.terms (object_of c.args.object) c.args.select.now c.deref.result.now c.args.operand.id.0 c.args.operand.width c.in_ok-base-in-Index.base.id.0 c.in_ok-base-in-Index.base.width c.in_ok-bits-in-Index.bits.id.0 c.in_ok-bits-in-Index.bits.width c.in_ok-base-in-Index.base.signed (object_of c.one_bit_of.result.object) c.one_bit_of.result.back c.one_bit_of.result.count c.requires.known c.in_ok-base-in-Index.ensures.grows c.in_ok-bits-in-Index.ensures.grows c.requires.operand c.in_ok-base-in-Index.ensures.lowered c.in_ok-base-in-Index.ensures.sign (ap object_of c.one_bit_of.ensures.object) c.in_ok-bits-in-Index.ensures.width c.in_ok-bits-in-Index.ensures.made c.in-Index.index c.in-Index.is c.deref.ensures c.one_bit_of.ensures.back c.one_bit_of.ensures.count

pub lower_bits-lower_alone-requires-in-PartUp : goal.lower_bits-lower_alone-requires-in-PartUp
lower_bits-lower_alone-requires-in-PartUp t c =
    ((search (rules, the_lemmas)), (c.requires.known, up-sound (scope_at c.args.names.scope.now) c.args.select.now c.requires.sound c.in-PartUp.base c.in-PartUp.count c.in-PartUp.is c.deref-in-PartUp.result.now c.deref-in-PartUp.ensures))

pub lower_bits-taken_bits-requires-in-PartUp-clause-operand : goal.lower_bits-taken_bits-requires-in-PartUp-clause-operand
lower_bits-taken_bits-requires-in-PartUp-clause-operand t c =
    IsOfSort-kept c.args.operand.id.0 (word c.args.operand.width) c.in_ok-base-in-PartUp.ensures.grows c.requires.operand

pub lower_bits-taken_bits-requires-in-PartUp-clause-index : goal.lower_bits-taken_bits-requires-in-PartUp-clause-index
lower_bits-taken_bits-requires-in-PartUp-clause-index t c =
    c.in_ok-base-in-PartUp.ensures.lowered.lowered.of_sort

pub lower_bits-count_of-requires-clause-narrow : goal.lower_bits-count_of-requires-clause-narrow
lower_bits-count_of-requires-clause-narrow t c =
    up-narrow (scope_at c.args.names.scope.now) c.args.select.now c.requires.sound c.in-PartUp.base c.in-PartUp.count c.in-PartUp.is c.deref-in-PartUp-2.result.now c.deref-in-PartUp-2.ensures

pub lower_bits-count_of-requires-clause-at_most_128 : goal.lower_bits-count_of-requires-clause-at_most_128
lower_bits-count_of-requires-clause-at_most_128 t c =
    (up-count (scope_at c.args.names.scope.now) c.args.select.now c.requires.sound c.in-PartUp.base c.in-PartUp.count c.in-PartUp.is c.deref-in-PartUp-2.result.now c.deref-in-PartUp-2.ensures).1

pub lower_bits-upward-wanted-requires : goal.lower_bits-upward-wanted-requires
lower_bits-upward-wanted-requires t c =
    (subst (λ k. 1 ≤ k) (sym c.count_of.ensures) (up-count (scope_at c.args.names.scope.now) c.args.select.now c.requires.sound c.in-PartUp.base c.in-PartUp.count c.in-PartUp.is c.deref-in-PartUp-2.result.now c.deref-in-PartUp-2.ensures).0)

pub lower_bits-taken_bits-requires-in-PartUp-clause-some_bits : goal.lower_bits-taken_bits-requires-in-PartUp-clause-some_bits
lower_bits-taken_bits-requires-in-PartUp-clause-some_bits t c =
    subst (λ k. 1 ≤ k) (sym c.upward-wanted.ensures.count) (subst (λ k. 1 ≤ k) (sym c.count_of.ensures) (up-count (scope_at c.args.names.scope.now) c.args.select.now c.requires.sound c.in-PartUp.base c.in-PartUp.count c.in-PartUp.is c.deref-in-PartUp-2.result.now c.deref-in-PartUp-2.ensures).0)

pub lower_bits-taken_bits-requires-in-PartUp-clause-at_most_128 : goal.lower_bits-taken_bits-requires-in-PartUp-clause-at_most_128
lower_bits-taken_bits-requires-in-PartUp-clause-at_most_128 t c =
    subst (λ k. k ≤ 128) (sym c.upward-wanted.ensures.count) (subst (λ k. k ≤ 128) (sym c.count_of.ensures) (up-count (scope_at c.args.names.scope.now) c.args.select.now c.requires.sound c.in-PartUp.base c.in-PartUp.count c.in-PartUp.is c.deref-in-PartUp-2.result.now c.deref-in-PartUp-2.ensures).1)

pub lower_bits-taken_bits-requires-in-PartUp-clause-small : goal.lower_bits-taken_bits-requires-in-PartUp-clause-small
lower_bits-taken_bits-requires-in-PartUp-clause-small t c =
    few_up (nat_le c.args.object.right c.args.object.left) c.upward-wanted.result.back c.count_of.result c.upward-wanted.ensures.back (subst (λ k. k ≤ 128) (sym c.count_of.ensures) (up-count (scope_at c.args.names.scope.now) c.args.select.now c.requires.sound c.in-PartUp.base c.in-PartUp.count c.in-PartUp.is c.deref-in-PartUp-2.result.now c.deref-in-PartUp-2.ensures).1)

pub lower_bits-returns-in_ok-bits-in-PartUp-clause-bits : goal.lower_bits-returns-in_ok-bits-in-PartUp-clause-bits
lower_bits-returns-in_ok-bits-in-PartUp-clause-bits t c =
    up-taken (scope_at c.args.names.scope.now) (images_at c.args.names.table.now) c.args.terms.now c.lower_alone-in-PartUp.new.terms c.taken_bits-in-PartUp.new.terms (object_of c.args.object) c.args.select.now c.deref-in-PartUp.result.now c.args.operand.id.0 c.args.operand.width c.in_ok-base-in-PartUp.base.id.0 c.in_ok-base-in-PartUp.base.width c.in_ok-bits-in-PartUp.bits.id.0 c.in_ok-bits-in-PartUp.bits.width c.in_ok-base-in-PartUp.base.signed (object_of c.upward-wanted.result.object) c.upward-wanted.result.back c.upward-wanted.result.count c.requires.known c.in_ok-base-in-PartUp.ensures.grows c.in_ok-bits-in-PartUp.ensures.grows c.requires.operand c.in_ok-base-in-PartUp.ensures.lowered c.in_ok-base-in-PartUp.ensures.sign (ap object_of c.upward-wanted.ensures.object) c.in_ok-bits-in-PartUp.ensures.width c.in_ok-bits-in-PartUp.ensures.made c.in-PartUp.base c.in-PartUp.count c.in-PartUp.is c.deref-in-PartUp.ensures c.deref-in-PartUp-2.result.now c.deref-in-PartUp-2.ensures (c.upward-wanted.ensures.count ∙ c.count_of.ensures) (subst (λ k. 1 ≤ k) (sym c.upward-wanted.ensures.count) (subst (λ k. 1 ≤ k) (sym c.count_of.ensures) (up-count (scope_at c.args.names.scope.now) c.args.select.now c.requires.sound c.in-PartUp.base c.in-PartUp.count c.in-PartUp.is c.deref-in-PartUp-2.result.now c.deref-in-PartUp-2.ensures).0)) (c.upward-wanted.ensures.back ∙ ap (λ k. cond (nat_le c.args.object.right c.args.object.left) 0 (k - 1)) (sym c.upward-wanted.ensures.count))

pub lower_bits-lower_alone-requires-in-PartDown : goal.lower_bits-lower_alone-requires-in-PartDown
lower_bits-lower_alone-requires-in-PartDown t c =
    ((search (rules, the_lemmas)), (c.requires.known, down-sound (scope_at c.args.names.scope.now) c.args.select.now c.requires.sound c.in-PartDown.base c.in-PartDown.count c.in-PartDown.is c.deref-in-PartDown.result.now c.deref-in-PartDown.ensures))

pub lower_bits-taken_bits-requires-in-PartDown-clause-operand : goal.lower_bits-taken_bits-requires-in-PartDown-clause-operand
lower_bits-taken_bits-requires-in-PartDown-clause-operand t c =
    IsOfSort-kept c.args.operand.id.0 (word c.args.operand.width) c.in_ok-base-in-PartDown.ensures.grows c.requires.operand

pub lower_bits-taken_bits-requires-in-PartDown-clause-index : goal.lower_bits-taken_bits-requires-in-PartDown-clause-index
lower_bits-taken_bits-requires-in-PartDown-clause-index t c =
    c.in_ok-base-in-PartDown.ensures.lowered.lowered.of_sort

pub lower_bits-count_of-requires-in-PartDown-clause-narrow : goal.lower_bits-count_of-requires-in-PartDown-clause-narrow
lower_bits-count_of-requires-in-PartDown-clause-narrow t c =
    down-narrow (scope_at c.args.names.scope.now) c.args.select.now c.requires.sound c.in-PartDown.base c.in-PartDown.count c.in-PartDown.is c.deref-in-PartDown-2.result.now c.deref-in-PartDown-2.ensures

pub lower_bits-count_of-requires-in-PartDown-clause-at_most_128 : goal.lower_bits-count_of-requires-in-PartDown-clause-at_most_128
lower_bits-count_of-requires-in-PartDown-clause-at_most_128 t c =
    (down-count (scope_at c.args.names.scope.now) c.args.select.now c.requires.sound c.in-PartDown.base c.in-PartDown.count c.in-PartDown.is c.deref-in-PartDown-2.result.now c.deref-in-PartDown-2.ensures).1

pub lower_bits-downward-wanted-requires : goal.lower_bits-downward-wanted-requires
lower_bits-downward-wanted-requires t c =
    (subst (λ k. 1 ≤ k) (sym c.count_of-in-PartDown.ensures) (down-count (scope_at c.args.names.scope.now) c.args.select.now c.requires.sound c.in-PartDown.base c.in-PartDown.count c.in-PartDown.is c.deref-in-PartDown-2.result.now c.deref-in-PartDown-2.ensures).0)

pub lower_bits-taken_bits-requires-in-PartDown-clause-some_bits : goal.lower_bits-taken_bits-requires-in-PartDown-clause-some_bits
lower_bits-taken_bits-requires-in-PartDown-clause-some_bits t c =
    subst (λ k. 1 ≤ k) (sym c.downward-wanted.ensures.count) (subst (λ k. 1 ≤ k) (sym c.count_of-in-PartDown.ensures) (down-count (scope_at c.args.names.scope.now) c.args.select.now c.requires.sound c.in-PartDown.base c.in-PartDown.count c.in-PartDown.is c.deref-in-PartDown-2.result.now c.deref-in-PartDown-2.ensures).0)

pub lower_bits-taken_bits-requires-in-PartDown-clause-at_most_128 : goal.lower_bits-taken_bits-requires-in-PartDown-clause-at_most_128
lower_bits-taken_bits-requires-in-PartDown-clause-at_most_128 t c =
    subst (λ k. k ≤ 128) (sym c.downward-wanted.ensures.count) (subst (λ k. k ≤ 128) (sym c.count_of-in-PartDown.ensures) (down-count (scope_at c.args.names.scope.now) c.args.select.now c.requires.sound c.in-PartDown.base c.in-PartDown.count c.in-PartDown.is c.deref-in-PartDown-2.result.now c.deref-in-PartDown-2.ensures).1)

pub lower_bits-taken_bits-requires-in-PartDown-clause-small : goal.lower_bits-taken_bits-requires-in-PartDown-clause-small
lower_bits-taken_bits-requires-in-PartDown-clause-small t c =
    few_down (nat_le c.args.object.right c.args.object.left) c.downward-wanted.result.back c.count_of-in-PartDown.result c.downward-wanted.ensures.back (subst (λ k. k ≤ 128) (sym c.count_of-in-PartDown.ensures) (down-count (scope_at c.args.names.scope.now) c.args.select.now c.requires.sound c.in-PartDown.base c.in-PartDown.count c.in-PartDown.is c.deref-in-PartDown-2.result.now c.deref-in-PartDown-2.ensures).1)

pub lower_bits-returns-in_ok-bits-in-PartDown-clause-bits : goal.lower_bits-returns-in_ok-bits-in-PartDown-clause-bits
lower_bits-returns-in_ok-bits-in-PartDown-clause-bits t c =
    down-taken (scope_at c.args.names.scope.now) (images_at c.args.names.table.now) c.args.terms.now c.lower_alone-in-PartDown.new.terms c.taken_bits-in-PartDown.new.terms (object_of c.args.object) c.args.select.now c.deref-in-PartDown.result.now c.args.operand.id.0 c.args.operand.width c.in_ok-base-in-PartDown.base.id.0 c.in_ok-base-in-PartDown.base.width c.in_ok-bits-in-PartDown.bits.id.0 c.in_ok-bits-in-PartDown.bits.width c.in_ok-base-in-PartDown.base.signed (object_of c.downward-wanted.result.object) c.downward-wanted.result.back c.downward-wanted.result.count c.requires.known c.in_ok-base-in-PartDown.ensures.grows c.in_ok-bits-in-PartDown.ensures.grows c.requires.operand c.in_ok-base-in-PartDown.ensures.lowered c.in_ok-base-in-PartDown.ensures.sign (ap object_of c.downward-wanted.ensures.object) c.in_ok-bits-in-PartDown.ensures.width c.in_ok-bits-in-PartDown.ensures.made c.in-PartDown.base c.in-PartDown.count c.in-PartDown.is c.deref-in-PartDown.ensures c.deref-in-PartDown-2.result.now c.deref-in-PartDown-2.ensures (c.downward-wanted.ensures.count ∙ c.count_of-in-PartDown.ensures) (subst (λ k. 1 ≤ k) (sym c.downward-wanted.ensures.count) (subst (λ k. 1 ≤ k) (sym c.count_of-in-PartDown.ensures) (down-count (scope_at c.args.names.scope.now) c.args.select.now c.requires.sound c.in-PartDown.base c.in-PartDown.count c.in-PartDown.is c.deref-in-PartDown-2.result.now c.deref-in-PartDown-2.ensures).0)) (c.downward-wanted.ensures.back ∙ ap (λ k. cond (nat_le c.args.object.right c.args.object.left) (k - 1) 0) (sym c.downward-wanted.ensures.count))

pub lower_bits-bounded_bits-requires-clause-bounded : goal.lower_bits-bounded_bits-requires-clause-bounded
lower_bits-bounded_bits-requires-clause-bounded t c =
    part-bounded (scope_at c.args.names.scope.now) c.args.select.now c.requires.sound c.in-Part.field-0 c.in-Part.field-1 c.in-Part.is

pub lower_prefixed-lower_alone-requires : goal.lower_prefixed-lower_alone-requires
lower_prefixed-lower_alone-requires t c =
    ((search (rules, the_lemmas)), (c.requires.known, c.requires.sound))

pub lower_prefixed-lower_reduced-requires-clause-reduces : goal.lower_prefixed-lower_reduced-requires-clause-reduces
lower_prefixed-lower_reduced-requires-clause-reduces t c =
    sym c.reduces.ensures ∙ c.if-reduces.true

pub lower_prefixed-lower_reduced-requires-clause-operand : goal.lower_prefixed-lower_reduced-requires-clause-operand
lower_prefixed-lower_reduced-requires-clause-operand t c =
    c.in_ok-own.ensures.lowered.lowered.of_sort

pub lower_prefixed-returns-then-reduces-clause-lowered : goal.lower_prefixed-returns-then-reduces-clause-lowered
lower_prefixed-returns-then-reduces-clause-lowered t c =
    c.in_ok-id.ensures.lowered (scope_at c.args.names.scope.now) (images_at c.args.names.table.now) (tree_of c.args.operand.now) c.args.signed (images_kept (scope_at c.args.names.scope.now) (images_at c.args.names.table.now) c.args.terms.now c.lower_alone.new.terms c.in_ok-own.ensures.grows c.requires.known) c.in_ok-own.ensures.lowered

pub lower_prefixed-lower_in-requires : goal.lower_prefixed-lower_in-requires
lower_prefixed-lower_in-requires t c =
    ((search (rules, the_lemmas)), (c.requires.known, (c.requires.sound, (c.requires.within (sym c.reduces.ensures ∙ c.if-reduces.false), c.requires.at_most_128))))

pub lower_prefixed-lower_kept-requires-clause-kept : goal.lower_prefixed-lower_kept-requires-clause-kept
lower_prefixed-lower_kept-requires-clause-kept t c =
    sym c.reduces.ensures ∙ c.if-reduces.false

pub lower_prefixed-returns-clause-lowered : goal.lower_prefixed-returns-clause-lowered
lower_prefixed-returns-clause-lowered t c =
    c.in_ok-id-2.ensures.lowered (scope_at c.args.names.scope.now) (images_at c.args.names.table.now) (tree_of c.args.operand.now) c.args.signed (images_kept (scope_at c.args.names.scope.now) (images_at c.args.names.table.now) c.args.terms.now c.lower_in.new.terms c.in_ok-inner.ensures.grows c.requires.known) c.in_ok-inner.ensures.lowered

pub lower_links-lower_link-requires : goal.lower_links-lower_link-requires
lower_links-lower_link-requires t c =
    ((search (rules, the_lemmas)), ((images_kept (scope_at c.args.names.scope.now) (images_at c.args.names.table.now) c.args.terms.now c.loop-link.terms c.loop-link.invariant.grows c.requires.known), ((link-sound (scope_at c.args.names.scope.now) (images_at c.args.names.table.now) c.args.width c.args.signed c.args.links.now c.loop-link.link-index c.link-item.result (drop_item c.args.links.now c.loop-link.link-index c.link-item.result _ c.loop-link-test.true c.link-item.is) c.loop-link.invariant.sound).0, ((link-sound (scope_at c.args.names.scope.now) (images_at c.args.names.table.now) c.args.width c.args.signed c.args.links.now c.loop-link.link-index c.link-item.result (drop_item c.args.links.now c.loop-link.link-index c.link-item.result _ c.loop-link-test.true c.link-item.is) c.loop-link.invariant.sound).1, ((link-within (scope_at c.args.names.scope.now) (images_at c.args.names.table.now) c.args.width c.args.signed c.args.links.now c.loop-link.link-index c.link-item.result (drop_item c.args.links.now c.loop-link.link-index c.link-item.result _ c.loop-link-test.true c.link-item.is) c.loop-link.invariant.within).0, (c.requires.at_most_128, c.loop-link.invariant.of_sort))))))

pub lower_links-loop-link-init : goal.lower_links-loop-link-init
lower_links-loop-link-init t c =
    record {
      grows = Grows-refl c.args.terms.now;
      of_sort = c.requires.first;
      sound = c.requires.sound;
      within = c.requires.within;
      going = λ x k. (x, refl, k);
    }

pub lower_links-loop-link-preserved : goal.lower_links-loop-link-preserved
lower_links-loop-link-preserved t c =
    record {
      grows = Grows-trans c.loop-link.invariant.grows c.in_ok-left.ensures.grows;
      of_sort = c.in_ok-left.ensures.of_sort;
      sound = (link-sound (scope_at c.args.names.scope.now) (images_at c.args.names.table.now) c.args.width c.args.signed c.args.links.now c.loop-link.link-index c.link-item.result (drop_item c.args.links.now c.loop-link.link-index c.link-item.result _ c.loop-link-test.true c.link-item.is) c.loop-link.invariant.sound).2;
      within = (link-within (scope_at c.args.names.scope.now) (images_at c.args.names.table.now) c.args.width c.args.signed c.args.links.now c.loop-link.link-index c.link-item.result (drop_item c.args.links.now c.loop-link.link-index c.link-item.result _ c.loop-link-test.true c.link-item.is) c.loop-link.invariant.within).1;
      going = λ x k. going_on (scope_at c.args.names.scope.now) (images_at c.args.names.table.now) c.args.width c.args.signed c.loop-link.terms c.lower_link.new.terms (linked c.args.links.now x) c.args.links.now c.loop-link.link-index c.link-item.result c.loop-link.left.0 c.in_ok-left.left.0 (drop_item c.args.links.now c.loop-link.link-index c.link-item.result _ c.loop-link-test.true c.link-item.is) (c.loop-link.invariant.going x k) (λ y l. c.in_ok-left.ensures.lowered y l);
    }

pub lower_links-returns-clause-lowered : goal.lower_links-returns-clause-lowered
lower_links-returns-clause-lowered t c x k =
    gone (scope_at c.args.names.scope.now) (images_at c.args.names.table.now) c.args.width c.args.signed c.loop-link.terms (linked c.args.links.now x) c.args.links.now c.loop-link.link-index c.loop-link.left.0 (omega arith) (c.loop-link.invariant.going x k)

pub lower_link-lower_alone-requires : goal.lower_link-lower_alone-requires
lower_link-lower_alone-requires t c =
    ((search (rules, the_lemmas)), (c.requires.known, c.requires.sound))

pub lower_link-lower_shift-requires-clause-operator : goal.lower_link-lower_shift-requires-clause-operator
lower_link-lower_shift-requires-clause-operator t c =
    sym c.is_shift.ensures ∙ c.if-is_shift.true

pub lower_link-lower_shift-requires-clause-operand : goal.lower_link-lower_shift-requires-clause-operand
lower_link-lower_shift-requires-clause-operand t c =
    IsOfSort-kept c.args.left.0 (word c.args.width) c.in_ok-count.ensures.grows c.requires.left

pub lower_link-lower_shift-requires-clause-count : goal.lower_link-lower_shift-requires-clause-count
lower_link-lower_shift-requires-clause-count t c =
    c.in_ok-count.ensures.lowered.lowered.of_sort

pub lower_link-returns-then-is_shift-clause-lowered : goal.lower_link-returns-then-is_shift-clause-lowered
lower_link-returns-then-is_shift-clause-lowered t c x k =
    c.in_ok-id.ensures.lowered (scope_at c.args.names.scope.now) (images_at c.args.names.table.now) x (tree_of c.args.link.now.operand) (images_kept (scope_at c.args.names.scope.now) (images_at c.args.names.table.now) c.args.terms.now c.lower_alone.new.terms c.in_ok-count.ensures.grows c.requires.known) (lowered_kept (scope_at c.args.names.scope.now) (images_at c.args.names.table.now) c.args.terms.now c.lower_alone.new.terms x c.args.width c.args.signed c.args.left.0 c.in_ok-count.ensures.grows c.requires.known k) c.in_ok-count.ensures.lowered

pub lower_link-lower_in-requires : goal.lower_link-lower_in-requires
lower_link-lower_in-requires t c =
    ((search (rules, the_lemmas)), (c.requires.known, (c.requires.sound, (plain-within (scope_at c.args.names.scope.now) c.args.width c.args.link.now (sym c.is_shift.ensures ∙ c.if-is_shift.false) c.requires.operator c.requires.within, c.requires.at_most_128))))

pub lower_link-lower_binary-requires-clause-operator : goal.lower_link-lower_binary-requires-clause-operator
lower_link-lower_binary-requires-clause-operator t c =
    plain-kind c.args.link.now.operator (sym c.is_shift.ensures ∙ c.if-is_shift.false) c.requires.operator

pub lower_link-lower_binary-requires-clause-left : goal.lower_link-lower_binary-requires-clause-left
lower_link-lower_binary-requires-clause-left t c =
    IsOfSort-kept c.args.left.0 (word c.args.width) c.in_ok-right.ensures.grows c.requires.left

pub lower_link-lower_binary-requires-clause-right : goal.lower_link-lower_binary-requires-clause-right
lower_link-lower_binary-requires-clause-right t c =
    c.in_ok-right.ensures.lowered.of_sort

pub lower_link-returns-clause-lowered : goal.lower_link-returns-clause-lowered
lower_link-returns-clause-lowered t c x k =
    c.in_ok-id-2.ensures.lowered (scope_at c.args.names.scope.now) (images_at c.args.names.table.now) x (tree_of c.args.link.now.operand) c.args.signed (images_kept (scope_at c.args.names.scope.now) (images_at c.args.names.table.now) c.args.terms.now c.lower_in.new.terms c.in_ok-right.ensures.grows c.requires.known) (lowered_kept (scope_at c.args.names.scope.now) (images_at c.args.names.table.now) c.args.terms.now c.lower_in.new.terms x c.args.width c.args.signed c.args.left.0 c.in_ok-right.ensures.grows c.requires.known k) c.in_ok-right.ensures.lowered

pub lower_test-lower_in-requires : goal.lower_test-lower_in-requires
lower_test-lower_in-requires t c =
    ((search (rules, the_lemmas)), (c.requires.known, (c.requires.sound, (c.requires.contexts.within, c.requires.contexts.at_most_128))))

pub lower_test-lower_tested-requires-clause-left : goal.lower_test-lower_tested-requires-clause-left
lower_test-lower_tested-requires-clause-left t c =
    IsOfSort-kept c.args.left.0 (word c.args.contexts.left.width) c.in_ok-right.ensures.grows c.requires.left

pub lower_test-lower_tested-requires-clause-right : goal.lower_test-lower_tested-requires-clause-right
lower_test-lower_tested-requires-clause-right t c =
    c.in_ok-right.ensures.lowered.of_sort

pub lower_test-lower_tested-requires-clause-one : goal.lower_test-lower_tested-requires-clause-one
lower_test-lower_tested-requires-clause-one t c =
    c.requires.contexts.one

pub lower_test-returns-clause-bit : goal.lower_test-returns-clause-bit
lower_test-returns-clause-bit t c x k l =
    c.in_ok-id.ensures.bit (scope_at c.args.names.scope.now) (images_at c.args.names.table.now) x (tree_of c.args.link.now.operand) (images_kept (scope_at c.args.names.scope.now) (images_at c.args.names.table.now) c.args.terms.now c.lower_in.new.terms c.in_ok-right.ensures.grows c.requires.known) k (lowered_kept (scope_at c.args.names.scope.now) (images_at c.args.names.table.now) c.args.terms.now c.lower_in.new.terms x c.args.contexts.left.width c.args.contexts.left.signed c.args.left.0 c.in_ok-right.ensures.grows c.requires.known l) c.in_ok-right.ensures.lowered

pub lower_next-lower_bit-requires-clause-some_bits : goal.lower_next-lower_bit-requires-clause-some_bits
lower_next-lower_bit-requires-clause-some_bits t c =
    next_some c.args.link.now.operator c.contexts_of-contexts.result.left.width c.bit_context.result.width c.own_context.result.width c.bit_context.ensures.width c.contexts_of-contexts.ensures.left_width

pub lower_next-lower_bit-requires-clause-at_most_128 : goal.lower_next-lower_bit-requires-clause-at_most_128
lower_next-lower_bit-requires-clause-at_most_128 t c =
    left-fits c.args.link.now.operator c.contexts_of-contexts.result.left.width c.bit_context.result.width c.own_context.result.width c.contexts_of-contexts.ensures.left_width (one_fits c.bit_context.result.width c.bit_context.ensures.width) c.own_context.ensures.at_most_128

pub lower_next-lower_test-requires : goal.lower_next-lower_test-requires
lower_next-lower_test-requires t c =
    ((search (rules, the_lemmas)), ((images_kept (scope_at c.args.names.scope.now) (images_at c.args.names.table.now) c.args.terms.now c.lower_bit.new.terms c.in_ok-left.ensures.grows c.requires.known), (c.requires.sound, (record { within = subst (λ k. k ≤ c.contexts_of-contexts.result.right.width) c.own_context.ensures.width (right-within c.args.link.now.operator c.contexts_of-contexts.result.right.width c.bit_context.result.width c.own_context.result.width c.contexts_of-contexts.ensures.right_width); at_most_128 = right-fits c.args.link.now.operator c.contexts_of-contexts.result.right.width c.bit_context.result.width c.own_context.result.width c.contexts_of-contexts.ensures.right_width (one_fits c.bit_context.result.width c.bit_context.ensures.width) c.own_context.ensures.at_most_128; one = c.contexts_of-contexts.ensures.one }, c.in_ok-left.ensures.of_sort))))

pub lower_next-returns-clause-bit : goal.lower_next-returns-clause-bit
lower_next-returns-clause-bit t c x k =
    c.in_ok-id.ensures.bit x
    (bit_contexts_are (scope_at c.args.names.scope.now) (images_at c.args.names.table.now) c.args.terms.now c.args.link.now.operator x (tree_of c.args.link.now.operand) c.args.said.0 c.contexts_of-contexts.result c.bit_context.result.width c.own_context.result.width c.bit_context.result.signed c.own_context.result.signed k c.bit_context.ensures.width c.own_context.ensures.width c.bit_context.ensures.sign c.own_context.ensures.sign
    c.contexts_of-contexts.ensures.left_width c.contexts_of-contexts.ensures.left_sign c.contexts_of-contexts.ensures.right_width c.contexts_of-contexts.ensures.right_sign)
    (c.in_ok-left.ensures.lowered (scope_at c.args.names.scope.now) (images_at c.args.names.table.now) x c.contexts_of-contexts.result.left.signed c.requires.known k)

pub lower_choice-lower_alone-requires : goal.lower_choice-lower_alone-requires
lower_choice-lower_alone-requires t c =
    ((search (rules, the_lemmas)), (c.requires.known, c.requires.condition))

pub lower_choice-lower_in-requires : goal.lower_choice-lower_in-requires
lower_choice-lower_in-requires t c =
    ((search (rules, the_lemmas)), ((images_kept (scope_at c.args.names.scope.now) (images_at c.args.names.table.now) c.args.terms.now c.lower_alone.new.terms c.in_ok-condition.ensures.grows c.requires.known), (c.requires.value, (c.requires.within, c.requires.at_most_128))))

pub lower_choice-lower_conditional-requires-clause-condition : goal.lower_choice-lower_conditional-requires-clause-condition
lower_choice-lower_conditional-requires-clause-condition t c =
    IsOfSort-kept c.in_ok-condition.condition.id.0 (word c.in_ok-condition.condition.width) c.in_ok-value.ensures.grows c.in_ok-condition.ensures.lowered.lowered.of_sort

pub lower_choice-lower_conditional-requires-clause-chosen : goal.lower_choice-lower_conditional-requires-clause-chosen
lower_choice-lower_conditional-requires-clause-chosen t c =
    c.in_ok-value.ensures.lowered.of_sort

pub lower_choice-lower_conditional-requires-clause-other : goal.lower_choice-lower_conditional-requires-clause-other
lower_choice-lower_conditional-requires-clause-other t c =
    IsOfSort-kept c.args.other.0 (word c.args.width) (Grows-trans c.in_ok-condition.ensures.grows c.in_ok-value.ensures.grows) c.requires.other

pub lower_choice-returns-clause-lowered : goal.lower_choice-returns-clause-lowered
lower_choice-returns-clause-lowered t c x k =
    c.in_ok-id.ensures.lowered (scope_at c.args.names.scope.now) (images_at c.args.names.table.now) (tree_of c.args.choice.now.condition) (tree_of c.args.choice.now.value) x c.args.signed (images_kept (scope_at c.args.names.scope.now) (images_at c.args.names.table.now) c.args.terms.now c.lower_in.new.terms (Grows-trans c.in_ok-condition.ensures.grows c.in_ok-value.ensures.grows) c.requires.known)
    (alone_kept_on (scope_at c.args.names.scope.now) (images_at c.args.names.table.now) c.lower_alone.new.terms c.lower_in.new.terms (tree_of c.args.choice.now.condition) c.in_ok-condition.condition.width c.in_ok-condition.condition.id.0 c.in_ok-value.ensures.grows (images_kept (scope_at c.args.names.scope.now) (images_at c.args.names.table.now) c.args.terms.now c.lower_alone.new.terms c.in_ok-condition.ensures.grows c.requires.known) c.in_ok-condition.ensures.lowered)
    c.in_ok-value.ensures.lowered
    (lowered_kept (scope_at c.args.names.scope.now) (images_at c.args.names.table.now) c.args.terms.now c.lower_in.new.terms x c.args.width c.args.signed c.args.other.0 (Grows-trans c.in_ok-condition.ensures.grows c.in_ok-value.ensures.grows) c.requires.known k)

pub lower_choices-loop-i-init : goal.lower_choices-loop-i-init
lower_choices-loop-i-init t c =
    record {
      grows = Grows-refl c.args.terms.now;
      of_sort = c.requires.last;
      chosen = λ x k. chosen_none (scope_at c.args.names.scope.now) (images_at c.args.names.table.now) c.args.width c.args.signed c.args.terms.now x c.args.choices.now (length c.args.choices.now) c.args.last.0 (omega arith) k;
    }

pub lower_choices-lower_choice-requires : goal.lower_choices-lower_choice-requires
lower_choices-lower_choice-requires t c =
    let s = choice-sound (scope_at c.args.names.scope.now) (images_at c.args.names.table.now) c.args.width c.args.signed c.args.choices.now c.loop-i.i c.index-choices-i.result (drop_before c.args.choices.now c.loop-i.i c.index-choices-i.result c.loop-i-test.true c.loop-i.auto.i ∙ ap (λ y. y ∷ drop c.loop-i.i c.args.choices.now) (sym c.index-choices-i.is)) c.requires.sound in
    ((search (rules, the_lemmas)), ((images_kept (scope_at c.args.names.scope.now) (images_at c.args.names.table.now) c.args.terms.now c.loop-i.terms c.loop-i.invariant.grows c.requires.known), (s.0, (s.1, (choice-within (scope_at c.args.names.scope.now) (images_at c.args.names.table.now) c.args.width c.args.signed c.args.choices.now c.loop-i.i c.index-choices-i.result (drop_before c.args.choices.now c.loop-i.i c.index-choices-i.result c.loop-i-test.true c.loop-i.auto.i ∙ ap (λ y. y ∷ drop c.loop-i.i c.args.choices.now) (sym c.index-choices-i.is)) c.requires.within, (c.requires.at_most_128, c.loop-i.invariant.of_sort))))))

pub lower_choices-loop-i-preserved : goal.lower_choices-loop-i-preserved
lower_choices-loop-i-preserved t c =
    record {
      grows = Grows-trans c.loop-i.invariant.grows c.in_ok-other.ensures.grows;
      of_sort = c.in_ok-other.ensures.of_sort;
      chosen = λ x k. chosen_more (scope_at c.args.names.scope.now) (images_at c.args.names.table.now) c.args.width c.args.signed c.loop-i.terms c.lower_choice.new.terms x c.args.choices.now c.loop-i.i c.index-choices-i.result c.loop-i.other.0 c.in_ok-other.other.0 (drop_before c.args.choices.now c.loop-i.i c.index-choices-i.result c.loop-i-test.true c.loop-i.auto.i ∙ ap (λ y. y ∷ drop c.loop-i.i c.args.choices.now) (sym c.index-choices-i.is)) (c.loop-i.invariant.chosen x k) (λ y l. c.in_ok-other.ensures.lowered y l);
    }

pub lower_choices-returns-clause-lowered : goal.lower_choices-returns-clause-lowered
lower_choices-returns-clause-lowered t c x k =
    let e : c.loop-i.i ≡ 0 = omega (arith, c.loop-i-test.false) in
    subst (λ n. IsLowered (scope_at c.args.names.scope.now) (images_at c.args.names.table.now) c.loop-i.terms (chosen (drop n c.args.choices.now) x) c.args.width c.args.signed c.loop-i.other.0) e (c.loop-i.invariant.chosen x k)

pub lower_tests-loop-i-init : goal.lower_tests-loop-i-init
lower_tests-loop-i-init t c =
    record {
      grows = Grows-refl c.args.terms.now;
      some = omega arith;
      of_sort = c.requires.first;
      testing = λ x k. (x, refl, k);
    }

pub lower_tests-lower_next-requires : goal.lower_tests-lower_next-requires
lower_tests-lower_next-requires t c =
    ((search (rules, the_lemmas)), ((images_kept (scope_at c.args.names.scope.now) (images_at c.args.names.table.now) c.args.terms.now c.loop-i.terms c.loop-i.invariant.grows c.requires.known), (test-sound (scope_at c.args.names.scope.now) (images_at c.args.names.table.now) c.args.links.now c.loop-i.i c.index-links-i.result (drop_item c.args.links.now c.loop-i.i c.index-links-i.result c.index-links-i.result (omega (arith, c.loop-i-test.true)) c.index-links-i.is) c.requires.sound, c.loop-i.invariant.of_sort)))

pub lower_tests-loop-i-preserved : goal.lower_tests-loop-i-preserved
lower_tests-loop-i-preserved t c =
    record {
      grows = Grows-trans c.loop-i.invariant.grows c.in_ok-said.ensures.grows;
      some = omega arith;
      of_sort = c.in_ok-said.ensures.of_sort;
      testing = λ x k. testing_on (scope_at c.args.names.scope.now) (images_at c.args.names.table.now) c.loop-i.terms c.lower_next.new.terms (test_linked (drop 1 c.args.links.now) x) c.args.links.now c.loop-i.i c.index-links-i.result c.loop-i.said.0 c.in_ok-said.said.0 (drop_item c.args.links.now c.loop-i.i c.index-links-i.result c.index-links-i.result (omega (arith, c.loop-i-test.true)) c.index-links-i.is) (c.loop-i.invariant.testing x k) (λ y l. c.in_ok-said.ensures.bit y l);
    }

pub lower_parts-lower_alone-requires-in-loop-i : goal.lower_parts-lower_alone-requires-in-loop-i
lower_parts-lower_alone-requires-in-loop-i t c =
    ((search (rules, the_lemmas)), ((images_kept (scope_at c.args.names.scope.now) (images_at c.args.names.table.now) c.args.terms.now c.loop-i.terms c.loop-i.invariant.grows c.requires.known), part-sound (scope_at c.args.names.scope.now) (images_at c.args.names.table.now) c.args.parts.now c.loop-i.i c.index-parts-i.result (drop_item c.args.parts.now c.loop-i.i c.index-parts-i.result c.index-parts-i.result (omega (arith, c.loop-i-test.true)) c.index-parts-i.is) c.requires.sound))

pub lower_parts-lower_part-requires-clause-at_most_128 : goal.lower_parts-lower_part-requires-clause-at_most_128
lower_parts-lower_part-requires-clause-at_most_128 t c =
    parts_fit (scope_at c.args.names.scope.now) (images_at c.args.names.table.now) c.loop-i.terms c.lower_alone-in-loop-i.new.terms c.args.parts.now c.loop-i.i c.index-parts-i.result c.loop-i.all.width c.in_ok-part.part.width c.loop-i.all.id.0 c.in_ok-part.part.id.0 (drop_item c.args.parts.now c.loop-i.i c.index-parts-i.result c.index-parts-i.result (omega (arith, c.loop-i-test.true)) c.index-parts-i.is) (subst (λ k. k ≤ 128) (sym (widths-parts (scope_at c.args.names.scope.now) c.args.parts.now)) c.requires.width.1) c.loop-i.invariant.parts c.in_ok-part.ensures.lowered

pub lower_parts-overflow_add-all : goal.lower_parts-overflow_add-all
lower_parts-overflow_add-all t c =
    let l : c.loop-i.all.width + c.in_ok-part.part.width ≤ 128 = parts_fit (scope_at c.args.names.scope.now) (images_at c.args.names.table.now) c.loop-i.terms c.lower_alone-in-loop-i.new.terms c.args.parts.now c.loop-i.i c.index-parts-i.result c.loop-i.all.width c.in_ok-part.part.width c.loop-i.all.id.0 c.in_ok-part.part.id.0 (drop_item c.args.parts.now c.loop-i.i c.index-parts-i.result c.index-parts-i.result (omega (arith, c.loop-i-test.true)) c.index-parts-i.is) (subst (λ k. k ≤ 128) (sym (widths-parts (scope_at c.args.names.scope.now) c.args.parts.now)) c.requires.width.1) c.loop-i.invariant.parts c.in_ok-part.ensures.lowered in omega (arith, l)

pub lower_parts-loop-i-preserved : goal.lower_parts-loop-i-preserved
lower_parts-loop-i-preserved t c =
    record {
      grows = Grows-trans (Grows-trans c.loop-i.invariant.grows c.in_ok-part.ensures.grows) c.in_ok-id.ensures.grows;
      some = omega arith;
      parts = parts_more (scope_at c.args.names.scope.now) (images_at c.args.names.table.now) c.lower_part.new.terms c.args.parts.now c.loop-i.i c.index-parts-i.result (c.loop-i.all.width + c.in_ok-part.part.width) c.in_ok-id.id.0 (omega (arith, c.loop-i-test.true)) c.index-parts-i.is
          (c.in_ok-id.ensures.lowered (scope_at c.args.names.scope.now) (images_at c.args.names.table.now) (expressions_of (take c.loop-i.i c.args.parts.now)) (tree_of c.index-parts-i.result) (images_kept (scope_at c.args.names.scope.now) (images_at c.args.names.table.now) c.args.terms.now c.lower_alone-in-loop-i.new.terms (Grows-trans c.loop-i.invariant.grows c.in_ok-part.ensures.grows) c.requires.known)
          (parts_kept (scope_at c.args.names.scope.now) (images_at c.args.names.table.now) c.loop-i.terms c.lower_alone-in-loop-i.new.terms (expressions_of (take c.loop-i.i c.args.parts.now)) c.loop-i.all.width c.loop-i.all.id.0 c.in_ok-part.ensures.grows (images_kept (scope_at c.args.names.scope.now) (images_at c.args.names.table.now) c.args.terms.now c.loop-i.terms c.loop-i.invariant.grows c.requires.known) c.loop-i.invariant.parts) c.in_ok-part.ensures.lowered);
    }

pub lower_in-lower_in-requires-then-is_empty : goal.lower_in-lower_in-requires-then-is_empty
lower_in-lower_in-requires-then-is_empty t c =
    ((search (rules, the_lemmas)), (c.requires.known, (branches.test-sound (scope_at c.args.names.scope.now) c.args.expression.now c.requires.sound c.in-Test.first c.in-Test.links c.in-Test.is c.deref-then-is_empty.result.now c.deref-then-is_empty.ensures, (subst (λ y. width_at (scope_at c.args.names.scope.now) y ≤ c.args.width) (only-first c.args.expression.now c.in-Test.first c.in-Test.links c.in-Test.is c.deref-then-is_empty.result.now c.deref-then-is_empty.ensures (no_tests c.in-Test.links.items (sym (ap (λ n. n == 0) c.in-Test.links.ok.0) ∙ (sym c.is_empty.ensures ∙ c.if-is_empty.true)))) c.requires.within, c.requires.at_most_128))))

pub lower_in-returns-then-is_empty-clause-lowered : goal.lower_in-returns-then-is_empty-clause-lowered
lower_in-returns-then-is_empty-clause-lowered t c =
    subst (λ y. IsLowered (scope_at c.args.names.scope.now) (images_at c.args.names.table.now) c.lower_in-then-is_empty.new.terms y c.args.width c.args.signed c.in_ok-id-in-Test.id.0) (sym (only-first c.args.expression.now c.in-Test.first c.in-Test.links c.in-Test.is c.deref-then-is_empty.result.now c.deref-then-is_empty.ensures (no_tests c.in-Test.links.items (sym (ap (λ n. n == 0) c.in-Test.links.ok.0) ∙ (sym c.is_empty.ensures ∙ c.if-is_empty.true))))) c.in_ok-id-in-Test.ensures.lowered

pub lower_in-own_context-own-requires : goal.lower_in-own_context-own-requires
lower_in-own_context-own-requires t c =
    branches.test-sound (scope_at c.args.names.scope.now) c.args.expression.now c.requires.sound c.in-Test.first c.in-Test.links c.in-Test.is c.deref-in-Test.result.now c.deref-in-Test.ensures

pub lower_in-own_context-other-requires : goal.lower_in-own_context-other-requires
lower_in-own_context-other-requires t c =
    (first-test-sound (scope_at c.args.names.scope.now) (images_at c.args.names.table.now) c.in-Test.links.items c.index-link.result.now (some_tests c.in-Test.links.items (sym (ap (λ n. n == 0) c.in-Test.links.ok.0) ∙ (sym c.is_empty.ensures ∙ c.if-is_empty.false))) c.index-link.ensures (tests-sound (scope_at c.args.names.scope.now) c.args.expression.now c.requires.sound c.in-Test.first c.in-Test.links c.in-Test.is c.in-Test.links.items refl))

pub lower_in-lower_in-requires-in-Test : goal.lower_in-lower_in-requires-in-Test
lower_in-lower_in-requires-in-Test t c = (
  (search (rules, the_lemmas)),
  (
    c.requires.known,
    (
      branches.test-sound (scope_at c.args.names.scope.now) c.args.expression.now c.requires.sound c.in-Test.first c.in-Test.links c.in-Test.is c.deref-in-Test-2.result.now c.deref-in-Test-2.ensures,
      (
        subst (λ k. k ≤ c.contexts_of-contexts.result.left.width) (c.own_context-own.ensures.width ∙ ap (λ y. width_at (scope_at c.args.names.scope.now) (tree_of y)) (c.deref-in-Test.ensures ∙ sym c.deref-in-Test-2.ensures)) (left-within c.index-link.result.now.operator c.contexts_of-contexts.result.left.width c.own_context-own.result.width c.own_context-other.result.width c.contexts_of-contexts.ensures.left_width),
        left-fits c.index-link.result.now.operator c.contexts_of-contexts.result.left.width c.own_context-own.result.width c.own_context-other.result.width c.contexts_of-contexts.ensures.left_width c.own_context-own.ensures.at_most_128 c.own_context-other.ensures.at_most_128,
      ),
    ),
  ),
)

pub lower_in-lower_test-requires : goal.lower_in-lower_test-requires
lower_in-lower_test-requires t c = (
  (search (rules, the_lemmas)),
  (
    (images_kept (scope_at c.args.names.scope.now) (images_at c.args.names.table.now) c.args.terms.now c.lower_in-in-Test.new.terms c.in_ok-left-in-Test.ensures.grows c.requires.known),
    (
      (first-test-sound (scope_at c.args.names.scope.now) (images_at c.args.names.table.now) c.in-Test.links.items c.index-link.result.now (some_tests c.in-Test.links.items (sym (ap (λ n. n == 0) c.in-Test.links.ok.0) ∙ (sym c.is_empty.ensures ∙ c.if-is_empty.false))) c.index-link.ensures (tests-sound (scope_at c.args.names.scope.now) c.args.expression.now c.requires.sound c.in-Test.first c.in-Test.links c.in-Test.is c.in-Test.links.items refl)),
      (
        record {
          within = subst (λ k. k ≤ c.contexts_of-contexts.result.right.width) c.own_context-other.ensures.width (right-within c.index-link.result.now.operator c.contexts_of-contexts.result.right.width c.own_context-own.result.width c.own_context-other.result.width c.contexts_of-contexts.ensures.right_width);
          at_most_128 = right-fits c.index-link.result.now.operator c.contexts_of-contexts.result.right.width c.own_context-own.result.width c.own_context-other.result.width c.contexts_of-contexts.ensures.right_width c.own_context-own.ensures.at_most_128 c.own_context-other.ensures.at_most_128;
          one = c.contexts_of-contexts.ensures.one;
        },
        c.in_ok-left-in-Test.ensures.lowered.of_sort,
      ),
    ),
  ),
)

pub lower_in-lower_tests-requires : goal.lower_in-lower_tests-requires
lower_in-lower_tests-requires t c =
    ((search (rules, the_lemmas)), ((images_kept (scope_at c.args.names.scope.now) (images_at c.args.names.table.now) c.args.terms.now c.lower_test.new.terms (Grows-trans c.in_ok-left-in-Test.ensures.grows c.in_ok-said-in-Test.ensures.grows) c.requires.known), (tests-sound (scope_at c.args.names.scope.now) c.args.expression.now c.requires.sound c.in-Test.first c.in-Test.links c.in-Test.is c.deref-in-Test-3.result.now c.deref-in-Test-3.ensures.value, (c.in_ok-said-in-Test.ensures.of_sort, subst (λ ls. 1 ≤ length ls) (sym c.deref-in-Test-3.ensures.value) (some_tests c.in-Test.links.items (sym (ap (λ n. n == 0) c.in-Test.links.ok.0) ∙ (sym c.is_empty.ensures ∙ c.if-is_empty.false)))))))

pub lower_in-lower_bit-requires-clause-said : goal.lower_in-lower_bit-requires-clause-said
lower_in-lower_bit-requires-clause-said t c =
    (c.in_ok-all-in-Test.ensures.bit (tested c.index-link.result.now.operator (tree_of c.deref-in-Test-2.result.now) (tree_of c.index-link.result.now.operand)) (c.in_ok-said-in-Test.ensures.bit (tree_of c.deref-in-Test-2.result.now) (contexts_are (scope_at c.args.names.scope.now) c.index-link.result.now.operator (tree_of c.deref-in-Test-2.result.now) (tree_of c.index-link.result.now.operand) c.contexts_of-contexts.result c.own_context-own.result.width c.own_context-other.result.width c.own_context-own.result.signed c.own_context-other.result.signed (c.own_context-own.ensures.width ∙ ap (λ y. width_at (scope_at c.args.names.scope.now) (tree_of y)) (c.deref-in-Test.ensures ∙ sym c.deref-in-Test-2.ensures)) c.own_context-other.ensures.width (c.own_context-own.ensures.sign ∙ ap (λ y. sign_at (scope_at c.args.names.scope.now) (tree_of y)) (c.deref-in-Test.ensures ∙ sym c.deref-in-Test-2.ensures)) c.own_context-other.ensures.sign c.contexts_of-contexts.ensures.left_width c.contexts_of-contexts.ensures.left_sign c.contexts_of-contexts.ensures.right_width c.contexts_of-contexts.ensures.right_sign) c.in_ok-left-in-Test.ensures.lowered)).of_sort

pub lower_in-lower_bit-requires-clause-some_bits : goal.lower_in-lower_bit-requires-clause-some_bits
lower_in-lower_bit-requires-clause-some_bits t c =
    (arms.some_bits (scope_at c.args.names.scope.now) c.args.expression.now c.args.width (sound-narrow (scope_at c.args.names.scope.now) (tree_of c.args.expression.now) c.args.names.narrow c.requires.sound) c.requires.within)

pub lower_in-returns-in_ok-id-in-Test-2-clause-lowered : goal.lower_in-returns-in_ok-id-in-Test-2-clause-lowered
lower_in-returns-in_ok-id-in-Test-2-clause-lowered t c =
    test-whole (scope_at c.args.names.scope.now) (images_at c.args.names.table.now) c.lower_bit.new.terms c.args.expression.now c.args.width c.args.signed c.in_ok-id-in-Test-2.id.0 c.in-Test.first c.in-Test.links c.in-Test.is c.deref-in-Test-2.result.now c.deref-in-Test-2.ensures c.deref-in-Test-3.result.now c.deref-in-Test-3.ensures.value
    (subst (λ y. IsLowered (scope_at c.args.names.scope.now) (images_at c.args.names.table.now) c.lower_bit.new.terms y c.args.width c.args.signed c.in_ok-id-in-Test-2.id.0) (sym (first_linked c.deref-in-Test-3.result.now c.index-link.result.now (tree_of c.deref-in-Test-2.result.now) (subst (λ ls. 0 < length ls) (sym c.deref-in-Test-3.ensures.value) (some_tests c.in-Test.links.items (sym (ap (λ n. n == 0) c.in-Test.links.ok.0) ∙ (sym c.is_empty.ensures ∙ c.if-is_empty.false)))) (subst (λ ls. c.index-link.result.now ≡ get_or ls 0 c.index-link.result.now) (sym c.deref-in-Test-3.ensures.value) c.index-link.ensures)))
    (c.in_ok-id-in-Test-2.ensures.lowered (scope_at c.args.names.scope.now) (images_at c.args.names.table.now) (test_linked (drop 1 c.deref-in-Test-3.result.now) (tested c.index-link.result.now.operator (tree_of c.deref-in-Test-2.result.now) (tree_of c.index-link.result.now.operand))) c.args.signed (images_kept (scope_at c.args.names.scope.now) (images_at c.args.names.table.now) c.args.terms.now c.lower_tests.new.terms (Grows-trans (Grows-trans c.in_ok-left-in-Test.ensures.grows c.in_ok-said-in-Test.ensures.grows) c.in_ok-all-in-Test.ensures.grows) c.requires.known) (c.in_ok-all-in-Test.ensures.bit (tested c.index-link.result.now.operator (tree_of c.deref-in-Test-2.result.now) (tree_of c.index-link.result.now.operand)) (c.in_ok-said-in-Test.ensures.bit (tree_of c.deref-in-Test-2.result.now) (contexts_are (scope_at c.args.names.scope.now) c.index-link.result.now.operator (tree_of c.deref-in-Test-2.result.now) (tree_of c.index-link.result.now.operand) c.contexts_of-contexts.result c.own_context-own.result.width c.own_context-other.result.width c.own_context-own.result.signed c.own_context-other.result.signed (c.own_context-own.ensures.width ∙ ap (λ y. width_at (scope_at c.args.names.scope.now) (tree_of y)) (c.deref-in-Test.ensures ∙ sym c.deref-in-Test-2.ensures)) c.own_context-other.ensures.width (c.own_context-own.ensures.sign ∙ ap (λ y. sign_at (scope_at c.args.names.scope.now) (tree_of y)) (c.deref-in-Test.ensures ∙ sym c.deref-in-Test-2.ensures)) c.own_context-other.ensures.sign c.contexts_of-contexts.ensures.left_width c.contexts_of-contexts.ensures.left_sign c.contexts_of-contexts.ensures.right_width c.contexts_of-contexts.ensures.right_sign) c.in_ok-left-in-Test.ensures.lowered))))
