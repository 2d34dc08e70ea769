-- Values of nets, variables and memories: by their bits, and with a word set.
use Rattle.std.proofs.Common.{◌≡◌, ◌∙◌, ℕ, zero, suc, ◌^◌, ◌<◌, ◌≤◌, Bool, true, false, not, ◌==◌, nat_lt, nat_le, List, length, slice_index, set, replicate, Option, Some, None, is_some, option_map, ◌⊎◌, inl, inr, refl, sym, ap, subst, arith, pow_pos, pow_mono, le_antisymm}
use Rattle.std.proofs.lemmas.Bool.{and_parts, and_from, false≢true, cases_eq, cases_lt}
use Rattle.std.proofs.lemmas.Bool.Decides.{nat_tests}
use Rattle.std.proofs.lemmas.List.{length-set, length-replicate}
use Rattle.wb_values.specs.Value.{Sort, truth, word, memory, Value, truth_value, number, words, all_below, HasSort}
use Rattle.verilog_meaning.specs.Expression.{Object, object_width, is_memory}
use Rattle.verilog_meaning.specs.Register.{word_count, words_between, is_set, value_bit}
use Rattle.verilog_meaning.specs.Settled.{IsAddressWidth, AreWords, IsValueOf}
use Rattle.scripts.specs.Script.{with_word, zero_value}
use Rattle.design_scripts.specs.Names.{span}
use Rattle.v_design.specs.Design.{IsSortOf}
use Rattle.ila_sim.specs.Sets.{is_word_of}
use Rattle.v_sim.proofs.Bits.{same_numbers, set-none, same_words, below_from_words, set_word, other_word, zero_words, same_number}

-- ---- how many bits an address has

abbrev wider_by : Bool → ℕ → ℕ
wider_by true a = a
wider_by false a = suc a

abbrev pub address_bits : ℕ → ℕ
address_bits zero = 1
address_bits (suc n) = wider_by (nat_le (suc n) (2 ^ address_bits n)) (address_bits n)

above : (x y : ℕ) → 2 ^ x < 2 ^ y → suc x ≤ y
above x y l = elim (cases_lt x y) as (λ _. suc x ≤ y) [ inl k ↦ omega (arith, k) | inr k ↦ absurd (less x y k l) ]
  where
    less : (i j : ℕ) → j ≤ i → 2 ^ i < 2 ^ j → ⊥
    less i j k m = let g : 2 ^ j ≤ 2 ^ i = pow_mono k in omega (arith, g, m)

wider : (n a : ℕ) → IsAddressWidth n a → (t : Bool) → nat_le (suc n) (2 ^ a) ≡ t → IsAddressWidth (suc n) (wider_by t a)
wider n a h true e =
    record {
      at_least_one = h.at_least_one;
      enough = grind (arith, nat_tests, e);
      least = λ b l m. h.least b l (omega (arith, m));
    }
wider n a h false e =
    let more : 2 ^ a < suc n = grind (arith, nat_tests, e) in
    let low = h.at_least_one in
    let full = h.enough in
    let positive : 0 < 2 ^ a = pow_pos a in
    let all : suc n ≤ 2 ^ suc a = omega (arith, full, positive) in
    record {
      at_least_one = omega (arith, low);
      enough = all;
      least = λ b l m. above a b (omega (arith, m, more));
    }

pub is_address_bits : (n : ℕ) → IsAddressWidth n (address_bits n)
is_address_bits zero = record { at_least_one = omega arith; enough = omega arith; least = λ b l m. l }
is_address_bits (suc n) = wider n (address_bits n) (is_address_bits n) (nat_le (suc n) (2 ^ address_bits n)) refl

same_width : (n a b : ℕ) → IsAddressWidth n a → IsAddressWidth n b → a ≡ b
same_width n a b p q = le_antisymm (p.least b q.at_least_one q.enough) (q.least a p.at_least_one p.enough)

-- ---- values and sorts

less_test : (x y : ℕ) → x < y → nat_lt x y ≡ true
less_test x y g = grind (arith, nat_tests)

pub has_sort : (o : Object) (s : Sort) (x : Value) → IsSortOf o s → IsValueOf o x → HasSort x s
has_sort o truth x h v = absurd h
has_sort o (word w) (truth_value b) h v = absurd v
has_sort o (word w) (number n) h v = less_test n (2 ^ w) (subst (λ u. n < 2 ^ u) (sym h.1) v.1)
has_sort o (word w) (words xs) h v = absurd (both_ways (is_memory o) v.0 h.0)
  where
    both_ways : (t : Bool) → t ≡ true → not t ≡ true → ⊥
    both_ways true p q = false≢true q
    both_ways false p q = false≢true p
has_sort o (memory a w) (truth_value b) h v = absurd v
has_sort o (memory a w) (number n) h v = absurd (both_ways (is_memory o) h.0 v.0)
  where
    both_ways : (t : Bool) → t ≡ true → not t ≡ true → ⊥
    both_ways true p q = false≢true q
    both_ways false p q = false≢true p
has_sort o (memory a w) (words xs) h v =
    let same : v.1.address_width ≡ a = same_width (word_count o) v.1.address_width a v.1.is_address_width h.1 in
    let long : length xs ≡ 2 ^ a = v.1.all ∙ ap (λ b. 2 ^ b) same in
    and_from _ _ (grind (arith, nat_tests, long)) (below_from_words w xs (λ k. subst (λ u. slice_index xs k < 2 ^ u) (sym h.2) (v.1.narrow k)))

long_test : (xs : List ℕ) (n : ℕ) → (length xs == n) ≡ true → length xs ≡ n
long_test xs n h = same_number (length xs) n h

-- values of an object's sort with the same bits are one
pub same_value : (o : Object) (s : Sort) (x y : Value) → IsSortOf o s → HasSort x s → HasSort y s → ((k b : ℕ) → value_bit x k b ≡ value_bit y k b) → x ≡ y
same_value o truth x y h p q e = absurd h
same_value o (word w) (truth_value b) y h p q e = absurd (false≢true p)
same_value o (word w) (words xs) y h p q e = absurd (false≢true p)
same_value o (word w) (number m) (truth_value b) h p q e = absurd (false≢true q)
same_value o (word w) (number m) (words ys) h p q e = absurd (false≢true q)
same_value o (word w) (number m) (number n) h p q e = ap number (same_numbers m n (e 0))
same_value o (memory a w) (truth_value b) y h p q e = absurd (false≢true p)
same_value o (memory a w) (number m) y h p q e = absurd (false≢true p)
same_value o (memory a w) (words xs) (truth_value b) h p q e = absurd (false≢true q)
same_value o (memory a w) (words xs) (number n) h p q e = absurd (false≢true q)
same_value o (memory a w) (words xs) (words ys) h p q e =
    let i = long_test xs (2 ^ a) (and_parts (length xs == 2 ^ a) _ p).0 in
    let j = long_test ys (2 ^ a) (and_parts (length ys == 2 ^ a) _ q).0 in
    ap words (same_words xs ys (i ∙ sym j) (λ k. same_numbers (slice_index xs k) (slice_index ys k) (e k)))

pub zero_sorted : (s : Sort) → HasSort (zero_value s) s
zero_sorted truth = refl
zero_sorted (word w) = less_test 0 (2 ^ w) (pow_pos w)
zero_sorted (memory a w) = and_from _ _ (grind (arith, nat_tests, length-replicate {A = ℕ} (2 ^ a) 0)) (all_zero (2 ^ a))
  where
    all_zero : (n : ℕ) → all_below w (replicate n 0) ≡ true
    all_zero n = below_from_words w (replicate n 0) (λ k. subst (λ x. x < 2 ^ w) (sym (zero_words n k)) (pow_pos w))

zero_bits : (s : Sort) (k b : ℕ) → value_bit (zero_value s) k b ≡ false
zero_bits truth k b = refl
zero_bits (word w) zero b = set-none b
zero_bits (word w) (suc k) b = refl
zero_bits (memory a w) k b = ap (λ x. is_set x b) (zero_words (2 ^ a) k) ∙ set-none b

pub is_zero : (o : Object) (s : Sort) (x : Value) → IsSortOf o s → IsValueOf o x → ((k b : ℕ) → value_bit x k b ≡ false) → x ≡ zero_value s
is_zero o s x h v z = same_value o s x (zero_value s) h (has_sort o s x h v) (zero_sorted s) (λ k b. z k b ∙ sym (zero_bits s k b))

-- ---- a word set

less_from : (x y : ℕ) → nat_lt x y ≡ true → x < y
less_from x y h = grind (arith, nat_tests)

is_count : (ends : Option (ℕ × ℕ)) (k n : ℕ) → n ≡ words_between ends → is_word_of (option_map span ends) k ≡ true → k < n
is_count None k n e h = grind (arith, nat_tests, e)
is_count (Some a) k n e h = grind (arith, nat_tests, e)

-- the word is one of the memory's
pub word_within : (o : Object) (k : ℕ) → is_word_of (option_map span o.addresses) k ≡ true → k < word_count o
word_within o k h = is_count o.addresses k (word_count o) refl h

pub no_memory_word : (o : Object) (k : ℕ) → is_word_of (option_map span o.addresses) k ≡ true → not (is_memory o) ≡ true → k ≡ 0
no_memory_word o k h m = one o.addresses h m
  where
    one : (ends : Option (ℕ × ℕ)) → is_word_of (option_map span ends) k ≡ true → not (is_some ends) ≡ true → k ≡ 0
    one None p q = same_number k 0 p
    one (Some a) p q = absurd (false≢true q)

words_set : (n w : ℕ) (xs : List ℕ) (k x : ℕ) → AreWords n w xs → k < n → x < 2 ^ w → AreWords n w (set xs k x)
words_set n w xs k x h l m =
    let full = h.is_address_width.enough in
    let inside : k < length xs = omega (arith, l, full, h.all) in
    record {
      address_width = h.address_width;
      is_address_width = h.is_address_width;
      all = length-set xs k x ∙ h.all;
      narrow = λ j. narrow j (cases_eq k j) inside;
      past = λ j p. other_word xs k j x (grind (arith, nat_tests, p, l)) ∙ h.past j p;
    }
  where
    narrow : (j : ℕ) → (k ≡ j) ⊎ (k ≡ j → ⊥) → k < length xs → slice_index (set xs k x) j < 2 ^ w
    narrow j (inl e) i = subst (λ y. y < 2 ^ w) (sym (ap (slice_index (set xs k x)) (sym e) ∙ set_word xs k x i)) m
    narrow j (inr f) i = subst (λ y. y < 2 ^ w) (sym (other_word xs k j x (grind (arith, nat_tests, f)))) (h.narrow j)

pub set_fits : (o : Object) (y : Value) (k x : ℕ) → IsValueOf o y → is_word_of (option_map span o.addresses) k ≡ true → x < 2 ^ object_width o → IsValueOf o (with_word y k x)
set_fits o (truth_value b) k x v h m = absurd v
set_fits o (number n) k x v h m = (v.0, m)
set_fits o (words xs) k x v h m = (v.0, words_set (word_count o) (object_width o) xs k x v.1 (word_within o k h) m)

-- what does not count stays 0 where what is set has bits alone that count
pub set_rest : (o : Object) (y : Value) (k x : ℕ) (counts : ℕ → ℕ → Bool) → IsValueOf o y → is_word_of (option_map span o.addresses) k ≡ true
    → ((b : ℕ) → is_set x b ≡ true → counts k b ≡ true) → ((j b : ℕ) → counts j b ≡ false → value_bit y j b ≡ false)
    → (j b : ℕ) → counts j b ≡ false → value_bit (with_word y k x) j b ≡ false
set_rest o (truth_value t) k x counts v h c r j b e = absurd v
set_rest o (number n) k x counts v h c r zero b e = unset (is_set x b) refl
  where
    unset : (t : Bool) → is_set x b ≡ t → t ≡ false
    unset true p = absurd (false≢true (sym e ∙ subst (λ i. counts i b ≡ true) (no_memory_word o k h v.0) (c b p)))
    unset false p = refl
set_rest o (number n) k x counts v h c r (suc j) b e = refl
set_rest o (words xs) k x counts v h c r j b e = one (cases_eq k j)
  where
    unset : (t : Bool) → is_set x b ≡ t → k ≡ j → t ≡ false
    unset true p q = absurd (false≢true (sym e ∙ subst (λ i. counts i b ≡ true) q (c b p)))
    unset false p q = refl

    inside : k < length xs
    inside = let full = v.1.is_address_width.enough in omega (arith, word_within o k h, full, v.1.all)

    one : (k ≡ j) ⊎ (k ≡ j → ⊥) → is_set (slice_index (set xs k x) j) b ≡ false
    one (inl q) = ap (λ y. is_set y b) (ap (slice_index (set xs k x)) (sym q) ∙ set_word xs k x inside) ∙ unset (is_set x b) refl q
    one (inr f) = ap (λ y. is_set y b) (other_word xs k j x (grind (arith, nat_tests, f))) ∙ r j b e
