-- Words of memories.
use Rattle.std.proofs.Common.{◌≡◌, ◌≢◌, ℕ, ◌+◌, ◌-◌, ◌*◌, ◌<◌, ◌≤◌, ◌^◌, Bool, true, false, cond, ◌==◌, ◌⊎◌, inl, inr, List, length, refl, sym, ◌∙◌, ap, subst, arith, pow_mono, pow_pos}
use Rattle.std.specs.Prelude.{slice_index, slice_set}
use Rattle.std.proofs.lemmas.Bool.{cases_eq, cases_lt}
use Rattle.std.proofs.lemmas.Bool.Decides.{nat_tests}
use Rattle.std.proofs.lemmas.List.{get_or-set_same, get_or-set_other, length-set}
use Rattle.std.proofs.lemmas.Nat.{pow-add}
use Rattle.verilog_meaning.specs.Expression.{distance}
use Rattle.verilog_meaning.specs.Settled.{AreWords}

-- the words of a memory of 2^a words of d bits
pub record IsMemoryOf (a d : ℕ) (ws : List ℕ) : Type 0 where
  pub long : length ws ≡ 2 ^ a
  pub narrow : (k : ℕ) → slice_index ws k < 2 ^ d

-- a word after a store
pub word_stored : (ws : List ℕ) (i x k : ℕ) → i < length ws → slice_index (slice_set ws i x) k ≡ cond (k == i) x (slice_index ws k)
word_stored ws i x k low = by_place (cases_eq k i)
  where
    same_test : (m n : ℕ) → m ≡ n → (m == n) ≡ true
    same_test m n e = grind (arith, nat_tests, e)

    other_test : (m n : ℕ) → m ≢ n → (m == n) ≡ false
    other_test m n e = by_test (m == n) refl
      where
        by_test : (b : Bool) → (m == n) ≡ b → b ≡ false
        by_test true f = absurd (e (grind (arith, nat_tests, f)))
        by_test false f = refl

    by_place : (k ≡ i) ⊎ (k ≢ i) → slice_index (slice_set ws i x) k ≡ cond (k == i) x (slice_index ws k)
    by_place (inl e) =
        ap (slice_index (slice_set ws i x)) e
        ∙ (get_or-set_same ws i x 0 low ∙ sym (ap (λ b. cond b x (slice_index ws k)) (same_test k i e)))
    by_place (inr e) = get_or-set_other ws i k x 0 e ∙ sym (ap (λ b. cond b x (slice_index ws k)) (other_test k i e))

pub memory_stored : (a d : ℕ) (ws : List ℕ) (i x : ℕ) → IsMemoryOf a d ws → i < 2 ^ a → x < 2 ^ d → IsMemoryOf a d (slice_set ws i x)
memory_stored a d ws i x h low fits = record {
  long = length-set ws i x ∙ h.long;
  narrow = λ k. subst (λ y. y < 2 ^ d) (sym (word_stored ws i x k (subst (λ n. i < n) (sym h.long) low))) (by_test k (k == i));
}
  where
    by_test : (k : ℕ) (b : Bool) → cond b x (slice_index ws k) < 2 ^ d
    by_test k true = fits
    by_test k false = h.narrow k

-- ---- how many words there are

doubled : (b : ℕ) → 2 ^ (b + 1) ≡ 2 ^ b * 2
doubled b = pow-add 2 b 1

not_more : (a b : ℕ) → 2 ^ a ≤ 2 ^ b → a ≤ b
not_more a b h = by_place (cases_lt b a)
  where
    too_far : (p q : ℕ) → 0 < q → q * 2 ≤ p → p ≤ q → ⊥
    too_far p q l m n = omega (arith, l, m, n)

    by_place : (b < a) ⊎ (a ≤ b) → a ≤ b
    by_place (inr le) = le
    by_place (inl low) =
        absurd (too_far (2 ^ a) (2 ^ b) (pow_pos b) (subst (λ n. n ≤ 2 ^ a) (doubled b) (pow_mono (omega (arith, low)))) h)

same_numbers : (m n : ℕ) → m ≤ n → n ≤ m → m ≡ n
same_numbers m n p q = omega (arith, p, q)

pub words_of : (a d n : ℕ) (ws : List ℕ) → 1 ≤ a → n ≡ 2 ^ a → AreWords n d ws → IsMemoryOf a d ws
words_of a d n ws low count h = record {
  long =
      h.all
      ∙ ap (λ k. 2 ^ k)
      (same_numbers h.address_width a (h.is_address_width.least a low (subst (λ k. n ≤ k) count (same_or_less n)))
      (not_more a h.address_width (subst (λ k. k ≤ 2 ^ h.address_width) count h.is_address_width.enough)));
  narrow = h.narrow;
}
  where
    same_or_less : (k : ℕ) → k ≤ k
    same_or_less k = omega arith

pub count_of_words : (p : ℕ) → 1 ≤ p → distance 0 (p - 1) + 1 ≡ p
count_of_words p low = omega (arith, low)
