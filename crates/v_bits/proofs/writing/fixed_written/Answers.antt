use Rattle.std.proofs.Common.{◌≤◌, ◌-◌, ◌^◌, sym, ap, ◌∙◌, subst}
use Rattle.wb_values.specs.Value.{word}
use Rattle.wb_values.specs.Number.{word_not}
use Rattle.verilog_meaning.specs.Expression.{Bits, bits_taken}
use Rattle.verilog_meaning.specs.Statement.{with_bits_at}
use Rattle.v_value.specs.Index.{span_of}
use Rattle.v_operators.specs.Meaning.{Makes}
use Rattle.v_operators.proofs.Growing.{Grows-refl, Grows-trans, IsOfSort-kept}
use Rattle.v_operators.proofs.Testing.{some_bits, at_most_128}
use Rattle.v_bits.proofs.Written.{kept_whole, far_below_it, fixed_made}
use Rattle.v_bits.proofs.writing.fixed_written.Goals as goal

pub returns-then-span-ge128-clause-grows : goal.returns-then-span-ge128-clause-grows
returns-then-span-ge128-clause-grows c = Grows-refl c.args.terms.now

pub returns-then-span-ge128-clause-made : goal.returns-then-span-ge128-clause-made
returns-then-span-ge128-clause-made c =
    kept_whole c.args.terms.now c.args.old.0 c.args.width c.args.number.0 c.args.span.count (λ a x. with_bits_at c.args.width a (span_of c.args.span).low c.args.span.count x) c.requires.old
    (λ a x l. far_below_it c.args.width a c.args.span.count c.args.span.back c.args.span.place.magnitude x c.args.span.place.negative c.if-span.true c.if-span-ge128.true
    (at_most_128 c.args.terms.now c.args.number.0 c.args.span.count c.requires.number) l)

pub kept_bits-requires-clause-some_bits : goal.kept_bits-requires-clause-some_bits
kept_bits-requires-clause-some_bits c = subst (λ k. 1 ≤ k) (sym (ap (λ (b : Bits). b.count) c.opposite-back.ensures)) (some_bits c.args.terms.now c.args.old.0 c.args.width c.requires.old)

pub kept_bits-requires-clause-at_most_128 : goal.kept_bits-requires-clause-at_most_128
kept_bits-requires-clause-at_most_128 c = subst (λ k. k ≤ 128) (sym (ap (λ (b : Bits). b.count) c.opposite-back.ensures)) (at_most_128 c.args.terms.now c.args.old.0 c.args.width c.requires.old)

pub kept_bits-requires-clause-count_at_most_128 : goal.kept_bits-requires-clause-count_at_most_128
kept_bits-requires-clause-count_at_most_128 c = at_most_128 c.args.terms.now c.args.number.0 c.args.span.count c.requires.number

pub fixed_bits-requires-clause-operand : goal.fixed_bits-requires-clause-operand
fixed_bits-requires-clause-operand c = IsOfSort-kept c.args.number.0 (word c.args.span.count) (Grows-trans c.in_ok-keep.ensures.grows c.in_ok-rest.ensures.grows) c.requires.number

pub disjunction-requires-clause-left : goal.disjunction-requires-clause-left
disjunction-requires-clause-left c = IsOfSort-kept c.in_ok-rest.rest.0 (word c.args.width) c.in_ok-value.ensures.grows c.in_ok-rest.ensures.made.of_sort

pub returns-clause-made : goal.returns-clause-made
returns-clause-made c =
    let count = ap (λ (b : Bits). b.count) c.opposite-back.ensures in
    fixed_made c.args.terms.now c.constant.new.terms c.conjunction.new.terms c.fixed_bits.new.terms c.disjunction.new.terms c.args.old.0 c.args.width c.args.number.0 c.args.span.count
    c.in_ok-keep.keep.0 c.in_ok-rest.rest.0 c.in_ok-value.value.0 c.in_ok-id.id.0 c.kept_bits.result.value (span_of c.args.span).low (span_of c.opposite-back.result) c.requires.old c.requires.number
    c.opposite-back.ensures
    (c.kept_bits.ensures.value ∙ ap (λ w. word_not w (bits_taken (2 ^ c.args.span.count - 1) (span_of c.opposite-back.result))) count)
    c.in_ok-keep.ensures.grows c.in_ok-keep.ensures.value c.in_ok-rest.ensures.grows c.in_ok-rest.ensures.made c.in_ok-value.ensures.grows
    (subst (λ w. Makes c.conjunction.new.terms c.fixed_bits.new.terms c.args.number.0 c.args.span.count c.in_ok-value.value.0 w (λ x. bits_taken x (span_of c.opposite-back.result))) count c.in_ok-value.ensures.made)
    c.in_ok-id.ensures.made
