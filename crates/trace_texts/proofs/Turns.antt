-- One place more is put into its place, or left out.
use Rattle.std.proofs.Common.{◌≡◌, ℕ, suc, ◌-◌, ◌<◌, Bool, true, false, cond, List, [], ◌∷◌, length, map, refl, sym, ap, ◌∙◌, arith, None}
use Rattle.std.specs.Prelude.{IsTrue, slice_index_or}
use Rattle.std.proofs.lemmas.Bool.{and_parts, false≢true}
use Rattle.std.proofs.lemmas.List.{get_or-map, length-map}
use Rattle.wb_values.specs.Value.{Name, Sort, Entries}
use Rattle.v_design.specs.Registers.{CountedBits}
use Rattle.v_design.specs.Bits.{counted_bits}
use Rattle.v_design.specs.Parts.{are_bits_of, are_bits_for}
use Rattle.v_design.specs.declared.bits.RegisterBits.{RegisterBits}
use Rattle.trace_texts.specs.Order.{with_number, in_name_order}

module _ (name : ℕ → Name) (kept : ℕ → Bool) where
  abbrev left : (k n : ℕ) → Entries ℕ → Entries ℕ
  left k n es = in_name_order name kept k n es

  step : (k n : ℕ) (es : Entries ℕ) (b : Bool) → k < n → kept k ≡ b → left k (n - k) es ≡ left (suc k) (n - suc k) (cond b (with_number (name k) k es) es)
  step k n es b l e =
      let less : n - k ≡ suc (n - suc k) = omega (arith, l) in
      ap (λ i. left k i es) less ∙ ap (λ t. left (suc k) (n - suc k) (cond t (with_number (name k) k es) es)) e

  moved : (k j n : ℕ) (es : Entries ℕ) → j ≡ suc k → left j (n - j) es ≡ left (suc k) (n - suc k) es
  moved k j n es e = ap (λ i. left i (n - i) es) e

  pub put : (k j n : ℕ) (new old goal : Entries ℕ) (b : Name) → j ≡ suc k → k < n → kept k ≡ true → b ≡ name k → new ≡ with_number b k old
      → left k (n - k) old ≡ goal → left j (n - j) new ≡ goal
  put k j n new old goal b is_j l h is_b is_new before =
      moved k j n new is_j
      ∙ (ap (left (suc k) (n - suc k)) (is_new ∙ ap (λ m. with_number m k old) is_b) ∙ (sym (step k n old true l h) ∙ before))

  pub left_out : (k j n : ℕ) (new old goal : Entries ℕ) → j ≡ suc k → k < n → kept k ≡ false → new ≡ old → left k (n - k) old ≡ goal
      → left j (n - j) new ≡ goal
  left_out k j n new old goal is_j l h same before =
      moved k j n new is_j ∙ (ap (left (suc k) (n - suc k)) same ∙ (sym (step k n old false l h) ∙ before))

pub bits_count : (ns : Entries Sort) (cs : List CountedBits) → IsTrue (are_bits_for ns cs) → length cs ≡ length ns
bits_count [] [] h = refl
bits_count [] (c ∷ cs) h = absurd (false≢true h)
bits_count (n ∷ ns) [] h = absurd (false≢true h)
bits_count (n ∷ ns) (c ∷ cs) h = ap suc (bits_count ns cs (and_parts (are_bits_of n.1 c) (are_bits_for ns cs) h).1)

pub all_bits : (ns : Entries Sort) (rs : List RegisterBits) → IsTrue (are_bits_for ns (map counted_bits rs)) → length rs ≡ length ns
all_bits ns rs h = sym (length-map rs counted_bits) ∙ bits_count ns (map counted_bits rs) h

pub bits_at : (rs : List RegisterBits) (k : ℕ) (r : RegisterBits) → k < length rs → r ≡ slice_index_or rs k r
    → slice_index_or (map counted_bits rs) k (record { least = None; masks = [] }) ≡ counted_bits r
bits_at rs k r l e = get_or-map counted_bits rs k r (record { least = None; masks = [] }) l ∙ ap counted_bits (sym e)
