-- Names, bits of nets, and words of memories.
use Rattle.std.proofs.Common.{◌≡◌, ℕ, ◌+◌, ◌-◌, ◌/◌, ◌<◌, ◌≤◌, ◌^◌, min, max, Bool, true, false, cond, ◌&&◌, nat_le, nat_lt, arith, Some, None, ◌∙◌, ap}
use Rattle.std.specs.Prelude.{pos, ◌-ℤ◌, int_lt, unwrap_or, is_some, option_and_then}
use Rattle.std.proofs.lemmas.Bool.Decides.{nat_tests}
use Rattle.std.proofs.lemmas.Int.{ints}
use Rattle.std.proofs.Math.Nat.{mod-lt}
use Rattle.std.proofs.Math.Pow.{pow_pos}
use Rattle.wb_values.specs.Value.{Valuation, Value, number, as_number}
use Rattle.wb_values.specs.Number.{signed_value, top_bit, word_extract}
use Rattle.verilog_trees.specs.Syntax.{Expression, part, index}
use Rattle.verilog_meaning.specs.Expression.{Object, Scope, object_width, is_memory, no_values, width_of, sign_of, value_of, integer_from, natural_of, select_bits, select_index, whole_value, word_number, word_or_zero, indexed_word, bits_taken, place_of_bit, bits_between}
use Rattle.term_expressions.specs.Expressions.{IsWorth, plain}
use Rattle.term_expressions.specs.Laws.{NameIsItsValue, BitsAreExtract, WordIsLoad}
use Rattle.term_expressions.proofs.Shifts.{by_itself, sext_same}

net_value : (o : Object) (y : Value) (x : ℕ) → o.constant ≡ None → y ≡ number x → whole_value o y ≡ x
net_value o y x none e = ap (λ c. unwrap_or c (as_number y)) none ∙ ap as_number e

pub name_is_its_value : NameIsItsValue
name_is_its_value s v n w x h e fits =
    record { width = h.width; unsigned = h.unsigned; value = net_value (s n) (v n) x h.no_parameter e; fits = fits }

-- ---- bits

-- a bound as it is written
pub bound_is : (s : Scope) (k : ℕ) → k < 2 ^ 31 → integer_from true 32 (value_of s no_values (plain k) 32 true) ≡ pos k
bound_is s k low = ap (λ a. signed_value 32 a) (sext_same 32 k) ∙ ap (λ b. cond b (pos k -ℤ pos (2 ^ 32)) (pos k)) positive
  where
    positive : top_bit 32 k ≡ false
    positive = grind (arith, nat_tests, low)

from_zero : (k : ℕ) → nat_le 0 k ≡ true
from_zero k = grind (arith, nat_tests)

no_less : (l : ℕ) → pos l -ℤ pos 0 ≡ pos l
no_less l = omega (arith, ints)

less : (h l : ℕ) → l ≤ h → pos h -ℤ pos l ≡ pos (h - l)
less h l le = omega (arith, ints, le)

not_below : (h l : ℕ) → l ≤ h → int_lt (pos h) (pos l) ≡ false
not_below h l le = below_test h l le
  where
    below_test : (a b : ℕ) → b ≤ a → nat_lt a b ≡ false
    below_test a b e = grind (arith, nat_tests, e)

one_more : (h l : ℕ) → l ≤ h → h - l + 1 ≡ h + 1 - l
one_more h l le = omega (arith, le)

select_is : (s : Scope) (v : Valuation) (o : Object) (h l : ℕ) → o.right ≡ 0 → l ≤ h → h < 128
    → select_bits s v o (part (plain h) (plain l)) ≡ record { low = pos l; count = h + 1 - l }
select_is s v o h l right le low =
    ap (λ a. bits_between o a (integer_from true 32 (value_of s no_values (plain l) 32 true))) (bound_is s h (omega (arith, low)))
    ∙ (ap (λ b. bits_between o (pos h) b) (bound_is s l (omega (arith, le, low)))
    ∙ (λ i. record { low = place i; count = count i }))
  where
    place : place_of_bit o (pos l) ≡ pos l
    place = ap (λ r. cond (nat_le r o.left) (pos l -ℤ pos r) (pos r -ℤ pos l)) right
        ∙ (ap (λ b. cond b (pos l -ℤ pos 0) (pos 0 -ℤ pos l)) (from_zero o.left) ∙ no_less l)

    count : natural_of (cond (int_lt (pos h) (pos l)) (pos l -ℤ pos h) (pos h -ℤ pos l)) + 1 ≡ h + 1 - l
    count =
        ap (λ b. natural_of (cond b (pos l -ℤ pos h) (pos h -ℤ pos l)) + 1) (not_below h l le)
        ∙ (ap (λ z. natural_of z + 1) (less h l le) ∙ one_more h l le)

pub bits_are_extract : BitsAreExtract
bits_are_extract s v n w h l x net right e le low most = record {
  width =
      ap (λ a. cond (is_some a) (object_width (s n)) (select_bits s no_values (s n) (part (plain h) (plain l))).count) net.no_memory
      ∙ ap (λ b. b.count) (select_is s no_values (s n) h l right le (omega (arith, low, most)));
  unsigned = ap (λ a. is_some a && (s n).signed) net.no_memory;
  value =
      ap
      (λ a. cond (is_some a) (indexed_word (s n) (select_index s v (part (plain h) (plain l))) (v n))
      (bits_taken (whole_value (s n) (v n)) (select_bits s v (s n) (part (plain h) (plain l)))))
      net.no_memory
      ∙ (ap (λ b. bits_taken (whole_value (s n) (v n)) b) (select_is s v (s n) h l right le (omega (arith, low, most)))
      ∙ ap (λ a. word_extract h l a) (net_value (s n) (v n) x net.no_parameter e));
  fits = mod-lt (x / 2 ^ l) (pow_pos (h + 1 - l));
}

-- ---- words

is_a_memory : (o : Object) (a : ℕ) → o.addresses ≡ Some (0, 2 ^ a - 1) → is_memory o ≡ true
is_a_memory o a e = ap is_some e

two_true : (b c : Bool) → b ≡ true → c ≡ true → (b && c) ≡ true
two_true b c e f = ap (λ d. d && c) e ∙ f

pub within : (a i : ℕ) → i < 2 ^ a → word_number (0, 2 ^ a - 1) (pos i) ≡ Some i
within a i low =
    ap (λ b. cond b (Some (i - min 0 (2 ^ a - 1))) None) (two_true _ _ (first (2 ^ a - 1)) (last (2 ^ a) low)) ∙ ap Some (none_below (2 ^ a - 1))
  where
    first : (k : ℕ) → nat_le (min 0 k) i ≡ true
    first k = grind (arith, nat_tests)

    last : (p : ℕ) → i < p → nat_le i (max 0 (p - 1)) ≡ true
    last p l = grind (arith, nat_tests, l)

    none_below : (k : ℕ) → i - min 0 k ≡ i
    none_below k = omega arith

-- an index without a sign
pub index_is : (s : Scope) (v : Valuation) (e : Expression) (a i : ℕ) → IsWorth s v e a i → select_index s v (index e) ≡ pos i
index_is s v e a i h =
    ap (λ t. integer_from t (width_of s e) (value_of s v e (width_of s e) (sign_of s e))) h.unsigned ∙ ap (λ k. pos k) (by_itself s v e a i h)

pub word_is_load : WordIsLoad
word_is_load s v m e a w i mem h fits = record {
  width = ap (λ b. cond b (object_width (s m)) (select_bits s no_values (s m) (index e)).count) (is_a_memory (s m) a mem.addresses) ∙ mem.width;
  unsigned = ap (λ b. b && (s m).signed) (is_a_memory (s m) a mem.addresses) ∙ mem.unsigned;
  value =
      ap
      (λ b. cond b (indexed_word (s m) (select_index s v (index e)) (v m)) (bits_taken (whole_value (s m) (v m)) (select_bits s v (s m) (index e))))
      (is_a_memory (s m) a mem.addresses)
      ∙ (ap (λ o. word_or_zero (option_and_then (λ b. word_number b (select_index s v (index e))) o) (v m)) mem.addresses
      ∙ (ap (λ j. word_or_zero (word_number (0, 2 ^ a - 1) j) (v m)) (index_is s v e a i h) ∙ ap (λ o. word_or_zero o (v m)) (within a i h.fits)));
  fits = fits;
}
