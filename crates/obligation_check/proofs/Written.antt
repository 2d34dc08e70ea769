-- What variables write under an assignment: the numbers of reports, and the bits of formulas.
use Rattle.std.proofs.Common.{◌≡◌, ◌∙◌, ℕ, zero, suc, ◌+◌, ◌*◌, ◌^◌, ◌<◌, Bool, true, false, cond, List, [], ◌∷◌, map, Option, Some, None, arith, refl, sym, ap}
use Rattle.std.proofs.lemmas.List.{length-map}
use Rattle.std.proofs.lemmas.Bool.Decides.{nat_tests}
use Rattle.std.specs.Prelude.{nat_lt, slice_index}
use Rattle.wb_values.specs.Value.{Sort, truth, word, memory, Value, truth_value, number, words, numeral_of, as_words, HasSort}
use Rattle.reports.specs.Encoding.{number_of_bits, word_of, Write}
use Rattle.sat_base.specs.Formula.{variable_value}
use Rattle.gate_words.specs.Binary.{number_of, digit}
use Rattle.sat_gates.specs.Encodes.{Writes}
use Rattle.sat_gates.specs.Layout.{variables_from, variables_of_sort}
use Rattle.sat_gates.proofs.Layouts.{IsBitSort, variables_count}
use Rattle.ob_mem.specs.Spread.{KeepsValue}

same_numbers : (bs : List Bool) → number_of_bits bs ≡ number_of bs
same_numbers [] = refl
same_numbers (b ∷ bs) = let h = same_numbers bs in by_bit b h
  where
    by_bit : (b : Bool) → number_of_bits bs ≡ number_of bs → cond b 1 0 + 2 * number_of_bits bs ≡ number_of bs * 2 + digit b
    by_bit true h = omega (arith, h)
    by_bit false h = omega (arith, h)

-- what the variables write under an assignment
abbrev pub read : List Bool → List ℕ → ℕ
read a vs = number_of (map (variable_value a) vs)

pub written : (a : List Bool) (vs : List ℕ) (x : ℕ) → read a vs ≡ x → Write a vs x
written a [] x e = tt
written a (v ∷ vs) x e = same_numbers (map (variable_value a) (v ∷ vs)) ∙ e

-- where there are no bits, only 0 is written
rewritten : (a : List Bool) (vs : List ℕ) (x : ℕ) → (vs ≡ [] → x ≡ 0) → Write a vs x → read a vs ≡ x
rewritten a [] x z w = sym (z refl)
rewritten a (v ∷ vs) x z w = sym (same_numbers (map (variable_value a) (v ∷ vs))) ∙ w

no_bits_is_zero : (f w x : ℕ) → x < 2 ^ w → variables_from f w ≡ [] → x ≡ 0
no_bits_is_zero f zero x h e = omega (arith, h)
no_bits_is_zero f (suc w) x h e = absurd (not_empty (variables_from (suc f) w) e)
  where
    not_empty : (vs : List ℕ) → f ∷ vs ≡ [] → ⊥
    not_empty vs e = cc

one_bit : (b : Bool) → number_of_bits (b ∷ []) ≡ cond b 1 0
one_bit true = refl
one_bit false = refl

abbrev bit : Bool → ℕ
bit b = cond b 1 0

same_bit : (b c : Bool) → bit b ≡ bit c → b ≡ c
same_bit true true e = refl
same_bit false false e = refl
same_bit true false e = absurd (let c : 1 ≡ 0 = e in omega (arith, c))
same_bit false true e = absurd (let c : 0 ≡ 1 = e in omega (arith, c))

-- bits of formulas are numbers of reports
pub numbers_from : (s : Sort) (x : Value) (a : List Bool) (vs : List ℕ) → Writes s x (map (variable_value a) vs) → Write a vs (numeral_of x)
numbers_from truth (truth_value b) a [] w = tt
numbers_from truth (truth_value b) a (v ∷ vs) w = ap number_of_bits w ∙ one_bit b
numbers_from truth (number n) a vs w = absurd w
numbers_from truth (words ks) a vs w = absurd w
numbers_from (word d) (number n) a vs w = written a vs n w.1
numbers_from (word d) (truth_value b) a vs w = absurd w
numbers_from (word d) (words ks) a vs w = absurd w
numbers_from (memory p d) (truth_value b) a vs w = absurd w
numbers_from (memory p d) (number n) a vs w = absurd w
numbers_from (memory p d) (words ks) a vs w = absurd w

below : (a b : ℕ) → nat_lt a b ≡ true → a < b
below a b e = grind (arith, nat_tests)

-- and back
pub bits_from : (s : Sort) (x : Value) (a : List Bool) (f : ℕ) → IsBitSort s → HasSort x s → Write a (variables_of_sort s (Some f)) (numeral_of x)
    → Writes s x (map (variable_value a) (variables_of_sort s (Some f)))
bits_from truth (truth_value b) a f i h w = ap (λ c. c ∷ []) (same_bit (variable_value a f) b (sym (one_bit (variable_value a f)) ∙ w))
bits_from truth (number n) a f i h w = absurd (let e : false ≡ true = h in cc)
bits_from truth (words ks) a f i h w = absurd (let e : false ≡ true = h in cc)
bits_from (word d) (number n) a f i h w = (
  length-map (variables_from f d) (variable_value a) ∙ variables_count f d,
  rewritten a (variables_from f d) n (no_bits_is_zero f d n (below n (2 ^ d) h)) w,
)
bits_from (word d) (truth_value b) a f i h w = absurd (let e : false ≡ true = h in cc)
bits_from (word d) (words ks) a f i h w = absurd (let e : false ≡ true = h in cc)
bits_from (memory p d) x a f i h w = absurd i

-- what is no memory has no bits where it has no variables, and a memory has none
pub no_first : (s : Sort) (a : List Bool) (x : ℕ) → Write a (variables_of_sort s None) x
no_first s a x = tt

pub no_bits : (p d : ℕ) (o : Option ℕ) (a : List Bool) (x : ℕ) → Write a (variables_of_sort (memory p d) o) x
no_bits p d None a x = tt
no_bits p d (Some f) a x = tt

-- ---- values and their words

pub word_zero : (s : Sort) (x : Value) → IsBitSort s → HasSort x s → word_of x 0 ≡ numeral_of x
word_zero truth (truth_value b) i h = refl
word_zero truth (number n) i h = refl
word_zero truth (words ks) i h = absurd (let e : false ≡ true = h in cc)
word_zero (word d) (truth_value b) i h = refl
word_zero (word d) (number n) i h = refl
word_zero (word d) (words ks) i h = absurd (let e : false ≡ true = h in cc)
word_zero (memory p d) x i h = absurd i

pub kept_value : (s : Sort) (x y : Value) → IsBitSort s → KeepsValue s x y → y ≡ x
kept_value truth x y i k = k
kept_value (word d) x y i k = k
kept_value (memory p d) x y i k = absurd i

pub memory_word_of : (p d : ℕ) (x : Value) (k : ℕ) → HasSort x (memory p d) → word_of x k ≡ slice_index (as_words x) k
memory_word_of p d (words ks) k h = refl
memory_word_of p d (truth_value b) k h = absurd (let e : false ≡ true = h in cc)
memory_word_of p d (number n) k h = absurd (let e : false ≡ true = h in cc)
