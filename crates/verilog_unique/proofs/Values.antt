-- Values of one object with the same bits are the same.
use Rattle.std.proofs.Common.{◌≡◌, ℕ, ◌^◌, ◌<◌, Bool, true, false, List, inl, inr, sym, ap, ◌∙◌, Option, Some, None, arith}
use Rattle.std.specs.Prelude.{IsTrue, is_some, not, ◌==◌, slice_index}
use Rattle.std.specs.Int.{bit_at}
use Rattle.std.proofs.lemmas.Nat.Bits.{bit_at-lt, same_from_bits_below}
use Rattle.std.proofs.lemmas.List.{ext_get_or}
use Rattle.std.proofs.lemmas.Bool.Decides.{nat_tests}
use Rattle.std.proofs.lemmas.Bool.{cases_lt}
use Rattle.wb_values.specs.Value.{Value, truth_value, number, words}
use Rattle.verilog_meaning.specs.Expression.{Object, object_width, is_memory}
use Rattle.verilog_meaning.specs.Register.{word_count, words_between, is_bit_of, is_set, value_bit}
use Rattle.verilog_meaning.specs.Settled.{IsAddressWidth, AreWords, IsValueOf}

one_bit : (m n : ℕ) → m < 2 → n < 2 → (m == 1) ≡ (n == 1) → m ≡ n
one_bit m n k l e = grind (arith, nat_tests, k, l, e)

same_numbers : (w x y : ℕ) → x < 2 ^ w → y < 2 ^ w → ((b : ℕ) → b < w → is_set x b ≡ is_set y b) → x ≡ y
same_numbers w x y k l h = same_from_bits_below w x y k l (λ b m. one_bit (bit_at x b) (bit_at y b) (bit_at-lt x b) (bit_at-lt y b) (h b m))

within : (o : Object) (k b : ℕ) → k < word_count o → b < object_width o → IsTrue (is_bit_of o k b)
within o k b l m = grind (arith, nat_tests, l, m)

one_word : (o : Object) → IsTrue (not (is_memory o)) → 0 < word_count o
one_word o t = plain o.addresses t
  where
    plain : (a : Option (ℕ × ℕ)) → IsTrue (not (is_some a)) → 0 < words_between a
    plain None h = omega arith
    plain (Some x) h = cc

same_address_width : (n a b : ℕ) → IsAddressWidth n a → IsAddressWidth n b → a ≡ b
same_address_width n a b f g =
    let low = f.least b g.at_least_one g.enough in
    let high = g.least a f.at_least_one f.enough in
    omega (arith, low, high)

same_words : (n w : ℕ) (xs ys : List ℕ) → AreWords n w xs → AreWords n w ys
    → ((k b : ℕ) → k < n → b < w → is_set (slice_index xs k) b ≡ is_set (slice_index ys k) b) → xs ≡ ys
same_words n w xs ys f g h =
    ext_get_or 0 xs ys (f.all ∙ ap (λ a. 2 ^ a) (same_address_width n f.address_width g.address_width f.is_address_width g.is_address_width) ∙ sym g.all)
    (λ k l. at k)
  where
    at : (k : ℕ) → slice_index xs k ≡ slice_index ys k
    at k =
        elim (cases_lt k n) as (λ _. slice_index xs k ≡ slice_index ys k) [
          | inl l ↦ same_numbers w (slice_index xs k) (slice_index ys k) (f.narrow k) (g.narrow k) (λ b m. h k b l m)
          | inr l ↦ f.past k l ∙ sym (g.past k l)
        ]

both_ways : (b : Bool) → IsTrue b → IsTrue (not b) → ⊥
both_ways true t f = cc
both_ways false t f = cc

pub same_values : (o : Object) (x y : Value) → IsValueOf o x → IsValueOf o y
    → ((k b : ℕ) → IsTrue (is_bit_of o k b) → value_bit x k b ≡ value_bit y k b) → x ≡ y
same_values o (truth_value t) y f g h = absurd f
same_values o (number x) (truth_value t) f g h = absurd g
same_values o (number x) (number y) f g h =
    ap number (same_numbers (object_width o) x y f.1 g.1 (λ b l. h 0 b (within o 0 b (one_word o f.0) l)))
same_values o (number x) (words ys) f g h = absurd (both_ways (is_memory o) g.0 f.0)
same_values o (words xs) (truth_value t) f g h = absurd g
same_values o (words xs) (number y) f g h = absurd (both_ways (is_memory o) f.0 g.0)
same_values o (words xs) (words ys) f g h =
    ap words (same_words (word_count o) (object_width o) xs ys f.1 g.1 (λ k b l m. h k b (within o k b l m)))
