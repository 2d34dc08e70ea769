-- Masks of the words of a name, from spans that have all words and from the others.
use Rattle.std.proofs.Common.{◌≡◌, ◌∙◌, ℕ, suc, zero, ◌+◌, ◌<◌, ◌≤◌, refl, ap, sym, Bool, true, false, not, ◌⊎◌, inl, inr, List, [], ◌∷◌, ◌++◌, length, take, drop, get_or, replicate, slice_index, slice_set, bit_or, subst, arith, get_or-set_same, get_or-set_other}
use Rattle.std.proofs.lemmas.List.{drop_more, take_at, length-replicate}
use Rattle.v_flow.proofs.Sets.{or_assoc}
use Rattle.std.specs.Prelude.{◌&&◌, ◌||◌, ◌==◌, nat_le}
use Rattle.std.proofs.lemmas.Bool.{cases_eq, false≢true}
use Rattle.std.proofs.lemmas.Bool.Decides.{nat_tests}
use Rattle.wb_values.specs.Value.{Name, same_name}
use Rattle.verilog_meaning.specs.Register.{is_set}
use Rattle.v_flow.specs.declared.span.Span.{Span}
use Rattle.v_flow.specs.Spans.{is_between, bits_of, bits_in}
use Rattle.v_masks.proofs.Bits.{set-or, some-bit}
use Rattle.v_registers.specs.Masks.{is_whole, whole_bit, part_bit, whole_bits, part_bits, has_bits}

-- ---- whole spans and parts together

whole_has : (from to count k : ℕ) → k < count → (from == 0 && nat_le count to) ≡ true → is_between from to k ≡ true
whole_has from to count k h e = grind (arith, nat_tests)

or_none : (d : Bool) → (d || false) ≡ d
or_none true = refl
or_none false = refl

one : (s w t c : Bool) → (w ≡ true → t ≡ true) → ((s && (w && c)) || (s && (not w && (t && c)))) ≡ (s && (t && c))
one false w t c h = refl
one true false t c h = refl
one true true t c h = by t (h refl)
  where
    by : (u : Bool) → u ≡ true → (c || false) ≡ (u && c)
    by true e = or_none c
    by false e = absurd (false≢true e)

four : (a b c d : Bool) → ((a || b) || (c || d)) ≡ ((a || c) || (b || d))
four true b c d = refl
four false true true d = refl
four false true false d = refl
four false false c d = refl

pub together : (xs : List Span) (n : Name) (count k b : ℕ) → k < count → (whole_bits xs n count b || part_bits xs n count k b) ≡ bits_in xs n k b
together [] n count k b h = refl
together (x ∷ xs) n count k b h =
    four (whole_bit x n count b) (whole_bits xs n count b) (part_bit x n count k b) (part_bits xs n count k b)
    ∙ ap (λ t. t || (whole_bits xs n count b || part_bits xs n count k b))
    (one (same_name x.name.now n) (is_whole x count) (is_between x.from_word x.to_word k) (is_set x.bits b) (whole_has x.from_word x.to_word count k h))
    ∙ ap (λ t. bits_of x n k b || t) (together xs n count k b h)

-- ---- one word

or_both : (o t c : Bool) → ((o || (t && c)) || c) ≡ (o || c)
or_both true t c = refl
or_both false true true = refl
or_both false true false = refl
or_both false false c = refl

last_between : (from at i : ℕ) → from ≤ at → i ≡ at → is_between from (at + 1) i ≡ true
last_between from at i l q = grind (arith, nat_tests)

other_between : (from at i : ℕ) → (i ≡ at → ⊥) → is_between from at i ≡ is_between from (at + 1) i
other_between from at i q = grind (arith, nat_tests)

-- bits are added to one word of some
pub word_added : (xs : List ℕ) (at from bits j b : ℕ) → at < length xs → from ≤ at → (old : Bool)
    → is_set (slice_index xs j) b ≡ (old || (is_between from at j && is_set bits b))
    → is_set (slice_index (slice_set xs at (bit_or (slice_index xs at) bits)) j) b ≡ (old || (is_between from (at + 1) j && is_set bits b))
word_added xs at from bits j b h l old e = by (cases_eq j at)
  where
    by : (j ≡ at) ⊎ (j ≡ at → ⊥) → is_set (slice_index (slice_set xs at (bit_or (slice_index xs at) bits)) j) b ≡ (old || (is_between from (at + 1) j && is_set bits b))
    by (inl q) =
        ap (λ i. is_set (slice_index (slice_set xs at (bit_or (slice_index xs at) bits)) i) b) q
        ∙ ap (λ z. is_set z b) (get_or-set_same xs at (bit_or (slice_index xs at) bits) 0 h)
        ∙ set-or (slice_index xs at) bits b
        ∙ ap (λ i. is_set (slice_index xs i) b || is_set bits b) (sym q)
        ∙ ap (λ t. t || is_set bits b) e
        ∙ or_both old (is_between from at j) (is_set bits b)
        ∙ ap (λ t. old || (t && is_set bits b)) (sym (last_between from at j l q))
    by (inr q) =
        ap (λ z. is_set z b) (get_or-set_other xs at j (bit_or (slice_index xs at) bits) 0 q) ∙ e
        ∙ ap (λ t. old || (t && is_set bits b)) (other_between from at j q)

empty_between : (p q i : ℕ) → q ≤ p → is_between p q i ≡ false
empty_between p q i l = grind (arith, nat_tests)

-- none yet
pub none_between : (from at j : ℕ) (old c : Bool) → at ≤ from → old ≡ (old || (is_between from at j && c))
none_between from at j old c h = by (is_between from at j) (empty_between from at j h)
  where
    by : (t : Bool) → t ≡ false → old ≡ (old || (t && c))
    by false e = sym (or_none old)
    by true e = absurd (false≢true (sym e))

beyond_between : (p q l n i : ℕ) → i < n → l ≡ n → n ≤ q → is_between p l i ≡ is_between p q i
beyond_between p q l n i a b d = grind (arith, nat_tests)

-- up to the last word
pub cut_between : (from to last count j : ℕ) (c : Bool) → j < count → (last ≡ to) ⊎ ((last ≡ count) × (count ≤ to)) → (is_between from last j && c) ≡ (is_between from to j && c)
cut_between from to last count j c h (inl e) = ap (λ z. is_between from z j && c) e
cut_between from to last count j c h (inr e) = ap (λ t. t && c) (beyond_between from to last count j h e.0 e.1)

-- ---- numbers without bits

zero_is : (x : ℕ) → (x == 0) ≡ true → x ≡ 0
zero_is x e = grind (arith, nat_tests)

some_is : (x : ℕ) → (x == 0) ≡ false → 0 < x
some_is x e = grind (arith, nat_tests)

at_most : (x : ℕ) → x ≤ x
at_most x = omega arith

pub no_bits_in : (ms : List ℕ) → has_bits ms ≡ false → (k : ℕ) → slice_index ms k ≡ 0
no_bits_in [] h k = refl
no_bits_in (m ∷ ms) h zero = by (m == 0) refl h
  where
    by : (t : Bool) → (m == 0) ≡ t → (not t || has_bits ms) ≡ false → m ≡ 0
    by true e g = zero_is m e
    by false e g = absurd (false≢true (sym g))
no_bits_in (m ∷ ms) h (suc k) = no_bits_in ms (rest (m == 0) h) k
  where
    rest : (t : Bool) → (not t || has_bits ms) ≡ false → has_bits ms ≡ false
    rest true g = g
    rest false g = absurd (false≢true (sym g))

pub some_bit_in : (ms : List ℕ) → has_bits ms ≡ true → (k : ℕ) × (b : ℕ) × (is_set (slice_index ms k) b ≡ true)
some_bit_in [] h = absurd (false≢true h)
some_bit_in (m ∷ ms) h = by (m == 0) refl h (some_bit_in ms)
  where
    by : (t : Bool) → (m == 0) ≡ t → (not t || has_bits ms) ≡ true → (has_bits ms ≡ true → (k : ℕ) × (b : ℕ) × (is_set (slice_index ms k) b ≡ true))
        → (k : ℕ) × (b : ℕ) × (is_set (slice_index (m ∷ ms) k) b ≡ true)
    by true e g i = let r = i g in (suc r.0, r.1, r.2)
    by false e g i = let r = some-bit m m (at_most m) (some_is m e) in (zero, r.0, r.1)

-- ---- lists of masks

-- the words that were gone through, and those that there are
between_all : (from k last to count j : ℕ) → j < count → (k ≡ from) ⊎ (k ≤ last) → last ≤ k → (last ≡ to) ⊎ ((last ≡ count) × (count ≤ to))
    → is_between from k j ≡ is_between from to j
between_all from k last to count j h (inl a) b (inl c) = grind (arith, nat_tests)
between_all from k last to count j h (inr a) b (inl c) = grind (arith, nat_tests)
between_all from k last to count j h (inl a) b (inr c) = at c.0 c.1
  where
    at : last ≡ count → count ≤ to → is_between from k j ≡ is_between from to j
    at p q = grind (arith, nat_tests)
between_all from k last to count j h (inr a) b (inr c) = at c.0 c.1
  where
    at : last ≡ count → count ≤ to → is_between from k j ≡ is_between from to j
    at p q = grind (arith, nat_tests)

pub all_between : (from k last to count j : ℕ) (c : Bool) → j < count → (k ≡ from) ⊎ (k ≤ last) → last ≤ k → (last ≡ to) ⊎ ((last ≡ count) × (count ≤ to))
    → (is_between from k j && c) ≡ (is_between from to j && c)
all_between from k last to count j c h a b d = ap (λ t. t && c) (between_all from k last to count j h a b d)

pub whole_turn : (xs : List Span) (i : ℕ) (d : Span) (n : Name) (count b bits r : ℕ) (all : Bool) → i < length xs → is_set r b ≡ whole_bit (get_or xs i d) n count b
    → (is_set bits b || whole_bits (drop i xs) n count b) ≡ all → (is_set (bit_or bits r) b || whole_bits (drop (i + 1) xs) n count b) ≡ all
whole_turn xs i d n count b bits r all h e f =
    ap (λ t. t || whole_bits (drop (i + 1) xs) n count b) (set-or bits r b ∙ ap (λ t. is_set bits b || t) e)
    ∙ or_assoc (is_set bits b) (whole_bit (get_or xs i d) n count b) (whole_bits (drop (i + 1) xs) n count b)
    ∙ ap (λ ys. is_set bits b || whole_bits ys n count b) (sym (drop_more xs i d h)) ∙ f

replicate_at : (n x k : ℕ) → k < n → slice_index (replicate n x) k ≡ x
replicate_at zero x k h = absurd (omega (arith, h))
replicate_at (suc n) x zero h = refl
replicate_at (suc n) x (suc k) h = replicate_at n x k (omega (arith, h))

written_over : (n : ℕ) (xs ys : List ℕ) → length xs ≡ n → take n (xs ++ drop (length xs) ys) ≡ xs
written_over n xs ys e = ap (λ k. take k (xs ++ drop (length xs) ys)) (sym e) ∙ take_at xs (drop (length xs) ys) (length xs) refl

pub all_masked : (spans : List Span) (n : Name) (count common : ℕ) (items old new : List ℕ) (len : ℕ) → items ≡ replicate count common → old ≡ items → len ≡ length items
    → length new ≡ length old → ((b : ℕ) → is_set common b ≡ whole_bits spans n count b)
    → ((k b : ℕ) → k < length old → is_set (slice_index new k) b ≡ (is_set (slice_index old k) b || part_bits spans n (length old) k b))
    → (k b : ℕ) → k < count → is_set (slice_index (take len (new ++ drop (length new) items)) k) b ≡ bits_in spans n k b
all_masked spans n count common items old new len is o l long whole part k b h =
    let m : length old ≡ count = ap length (o ∙ is) ∙ length-replicate count common in
    ap (λ xs. is_set (slice_index xs k) b) (written_over len new items (long ∙ ap length o ∙ sym l))
    ∙ part k b (subst (λ c. k < c) (sym m) h)
    ∙ ap (λ xs. is_set (slice_index xs k) b || part_bits spans n (length old) k b) (o ∙ is)
    ∙ ap (λ x. is_set x b || part_bits spans n (length old) k b) (replicate_at count common k h)
    ∙ ap (λ t. t || part_bits spans n (length old) k b) (whole b)
    ∙ ap (λ c. whole_bits spans n count b || part_bits spans n c k b) m
    ∙ together spans n count k b h
