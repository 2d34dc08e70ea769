use Rattle.std.proofs.Common.{◌≡◌, ◌∙◌, refl, ℕ, ◌+◌, ◌-◌, ◌/◌, ◌%◌, ◌<◌, ◌≤◌, ◌^◌, length, ap, sym, subst, arith}
use Rattle.std.specs.Prelude.{◌==◌, slice_index}
use Rattle.std.proofs.Math.Nat.{mod-le}
use Rattle.wb_values.specs.Value.{word, truth_value, number}
use Rattle.model_meaning.specs.Term.{val}
use Rattle.wb_terms.specs.Graph.{tree}
use Rattle.ob_mem.specs.Rows.{IsRow, tree_in, AreOver, AreWords, HoldWords}
use Rattle.ob_mem.specs.declared.rows.Row.TheVariants.{Choices}
use Rattle.ob_mem.proofs.Counting.{row_counted}
use Rattle.ob_mem.proofs.Growing.{Grows-trans, AreWords-kept, HoldWords-kept, row_grows}
use Rattle.ob_mem.proofs.Choosing.{upper_half, lower_half, choices_over, choices_words, choices_value, half_value, half_below, half_above, half_within}
use Rattle.ob_mem.proofs.loads.put_half.Goals as goal

pub later-upper-requires : goal.later-upper-requires
later-upper-requires c =
    let d = c.requires.words.0 in
    let p = AreWords-kept c.args.first.0 (2 ^ (c.args.bit + 1)) d c.in_ok-condition.ensures.grows c.requires.words.1 in
    subst (λ n. c.args.first.0 + n < length c.put_bit.new.terms.nodes) (sym c.power-half.ensures) (p (2 ^ c.args.bit) (half_below c.args.bit)).below

pub put_row-requires : goal.put_row-requires
put_row-requires c =
    let h = c.put_bit.new.terms in
    let d = c.requires.words.0 in
    let p = AreWords-kept c.args.first.0 (2 ^ (c.args.bit + 1)) d c.in_ok-condition.ensures.grows c.requires.words.1 in
    let u : c.later-upper.result.0 ≡ c.args.first.0 + 2 ^ c.args.bit = c.later-upper.ensures ∙ ap (λ n. c.args.first.0 + n) c.power-half.ensures in
    subst (λ n. AreOver h (Choices c.in_ok-condition.condition c.later-upper.result c.args.first) n) (sym c.power-half.ensures)
    (choices_over h c.in_ok-condition.condition c.later-upper.result c.args.first (2 ^ c.args.bit) d c.in_ok-condition.ensures.plain
    (subst (λ n. AreWords h n (2 ^ c.args.bit) d) (sym u) (upper_half h c.args.first.0 c.args.bit d p)) (lower_half h c.args.first.0 c.args.bit d p))

pub returns-clause-grows : goal.returns-clause-grows
returns-clause-grows c =
    Grows-trans c.in_ok-condition.ensures.grows (row_grows (tree_in c.put_bit.new.terms (Choices c.in_ok-condition.condition c.later-upper.result c.args.first)) c.power-half.result c.in_ok-id.ensures.row)

pub returns-clause-words : goal.returns-clause-words
returns-clause-words c d a =
    let h = c.put_bit.new.terms in
    let p = AreWords-kept c.args.first.0 (2 ^ (c.args.bit + 1)) d c.in_ok-condition.ensures.grows a in
    let u : c.later-upper.result.0 ≡ c.args.first.0 + 2 ^ c.args.bit = c.later-upper.ensures ∙ ap (λ n. c.args.first.0 + n) c.power-half.ensures in
    let row = subst (IsRow h c.put_row.new.terms (tree_in h (Choices c.in_ok-condition.condition c.later-upper.result c.args.first))) c.power-half.ensures c.in_ok-id.ensures.row in
    choices_words h c.put_row.new.terms c.in_ok-condition.condition c.later-upper.result c.args.first c.in_ok-id.id.0 (2 ^ c.args.bit) d c.in_ok-id.ensures.first row c.in_ok-condition.ensures.plain
    (subst (λ n. AreWords h n (2 ^ c.args.bit) d) (sym u) (upper_half h c.args.first.0 c.args.bit d p)) (lower_half h c.args.first.0 c.args.bit d p)

pub returns-clause-values : goal.returns-clause-values
returns-clause-values c w xs i e hold k b =
    let h = c.put_bit.new.terms in
    let p = c.args.bit in
    let low = i - i % 2 ^ (p + 1) in
    let held = HoldWords-kept w c.args.first.0 (2 ^ (p + 1)) c.requires.words.0 xs low c.in_ok-condition.ensures.grows c.requires.words.1 hold in
    let u : c.later-upper.result.0 + k ≡ c.args.first.0 + (2 ^ p + k) = omega (arith, c.later-upper.ensures, c.power-half.ensures) in
    let row = subst (IsRow h c.put_row.new.terms (tree_in h (Choices c.in_ok-condition.condition c.later-upper.result c.args.first))) c.power-half.ensures c.in_ok-id.ensures.row in
    let above : val (tree h (c.later-upper.result.0 + k)) w ≡ number (slice_index xs (low + (2 ^ p + k))) =
    ap (λ n. val (tree h n) w) u ∙ held (2 ^ p + k) (half_above p k b) in
    let below : val (tree h (c.args.first.0 + k)) w ≡ number (slice_index xs (low + k)) = held k (half_within p k b) in
    choices_value h c.put_row.new.terms c.in_ok-condition.condition c.later-upper.result c.args.first c.in_ok-id.id.0 (2 ^ p) k w (truth_value ((i / 2 ^ p) % 2 == 1)) _ _ c.in_ok-id.ensures.first row b
    (c.in_ok-condition.ensures.value w i e) above below
    ∙ half_value xs i p k ((i / 2 ^ p) % 2 == 1) refl (mod-le i (2 ^ (p + 1)))

pub returns-clause-count : goal.returns-clause-count
returns-clause-count c =
    let row = row_counted c.put_bit.new.terms c.put_row.new.terms (tree_in c.put_bit.new.terms (Choices c.in_ok-condition.condition c.later-upper.result c.args.first)) c.power-half.result c.in_ok-id.ensures.row in
    omega (arith, c.in_ok-condition.ensures.count, row, c.power-half.ensures)
