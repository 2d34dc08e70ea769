-- What a name's term with masks is worth, for words and for memories.
use Rattle.std.proofs.Common.{◌≡◌, ◌∙◌, ℕ, ◌^◌, ◌<◌, ◌≤◌, suc, zero, refl, ap, sym, subst, Bool, true, false, ◌⊎◌, inl, inr, List, [], ◌∷◌, length, slice_index, arith}
use Rattle.std.specs.Prelude.{◌&&◌, ◌==◌, nat_lt}
use Rattle.std.proofs.lemmas.Bool.{cases_lt, and_parts, eqb-true, false≢true}
use Rattle.std.proofs.lemmas.Bool.Decides.{nat_tests}
use Rattle.std.proofs.lemmas.Nat.{pow_pos}
use Rattle.std.proofs.lemmas.List.{get_or_past}
use Rattle.wb_values.specs.Value.{Name, Sort, word, memory, all_below, Value, truth_value, number, words, Valuation, HasSort}
use Rattle.model_meaning.specs.Term.{val}
use Rattle.verilog_meaning.specs.Expression.{Object}
use Rattle.verilog_meaning.specs.Register.{is_set, value_bit, word_count}
use Rattle.verilog_meaning.specs.Settled.{IsValueOf}
use Rattle.wb_terms.specs.Graph.{Graph, tree}
use Rattle.v_masks.proofs.Bits.{set-none, some-bit}
use Rattle.v_operators.specs.Meaning.{Grows}
use Rattle.v_lower.specs.Lowered.{IsSortOf}
use Rattle.v_elab.specs.Kept.{named_at, IsMasked}
use Rattle.v_elab.specs.Tables.{IsWordKept, IsCut, AreCut}
use Rattle.v_elab.proofs.Entering.{same_named}

at_most : (x : ℕ) → x ≤ x
at_most x = omega arith

-- a number without bits is 0
pub no_bits : (x : ℕ) → ((b : ℕ) → is_set x b ≡ false) → x ≡ 0
no_bits x h = by (cases_lt 0 x)
  where
    none : x ≤ 0 → x ≡ 0
    none l = omega (arith, l)

    by : (0 < x) ⊎ (x ≤ 0) → x ≡ 0
    by (inl l) = let r = some-bit x x (at_most x) l in absurd (false≢true (sym (h r.0) ∙ r.1))
    by (inr l) = none l

below : (x c : ℕ) → nat_lt x c ≡ true → x < c
below x c h = grind (arith, nat_tests)

narrow : (w : ℕ) (xs : List ℕ) → all_below w xs ≡ true → (k : ℕ) → slice_index xs k < 2 ^ w
narrow w [] h k = subst (λ z. z < 2 ^ w) (sym (get_or_past [] k 0 (omega arith))) (pow_pos w)
narrow w (x ∷ xs) h zero = below x (2 ^ w) (and_parts (nat_lt x (2 ^ w)) (all_below w xs) h).0
narrow w (x ∷ xs) h (suc k) = narrow w xs (and_parts (nat_lt x (2 ^ w)) (all_below w xs) h).1 k

-- ---- words

module _ (o : Object) (masks : List ℕ) (g h : Graph) (place w bits id : ℕ) (grows : Grows g h) (sort : IsSortOf o (named_at g place).1) (is_word : word w ≡ (named_at g place).1)
    (mask : bits ≡ slice_index masks 0) (kept : IsWordKept h (named_at g place).0 w bits id) where
  of_object : IsSortOf o (word w)
  of_object = subst (IsSortOf o) (sym is_word) sort

  n : Name
  n = (named_at g place).0

  worth : (p : Valuation) (v : Value) → p (named_at g place).0 ≡ v → HasSort v (word w)
      → IsValueOf o (val (tree h id) p) × ((k b : ℕ) → value_bit (val (tree h id) p) k b ≡ (value_bit v k b && is_set (slice_index masks k) b))
  worth p (truth_value t) e s = absurd (false≢true s)
  worth p (words xs) e s = absurd (false≢true s)
  worth p (number x) e s =
      let r = kept.value p x e (below x (2 ^ w) s) in (
        subst (IsValueOf o) (sym r.has.value) (of_object.0, subst (λ z. r.number < 2 ^ z) of_object.1 r.has.fits),
        λ k b. ap (λ y. value_bit y k b) r.has.value ∙ bit r.number (r.bits_are) k b,
      )
    where
      bit : (y : ℕ) → ((b : ℕ) → is_set y b ≡ (is_set x b && is_set bits b)) → (k b : ℕ) → value_bit (number y) k b ≡ (value_bit (number x) k b && is_set (slice_index masks k) b)
      bit y f zero b = f b ∙ ap (λ z. is_set x b && is_set z b) mask
      bit y f (suc k) b = refl

  pub masked_word : IsMasked o masks h place id
  masked_word =
      let same = same_named g h place grows in
      record {
        sort = word w;
        of_object = of_object;
        of_sort = kept.of_sort;
        fits = λ p s. (worth p (p (named_at g place).0) refl (moved p s same)).0;
        bits = λ p k b s. (worth p (p (named_at g place).0) refl (moved p s same)).1 k b
            ∙ ap (λ (x : Name × Sort). value_bit (p x.0) k b && is_set (slice_index masks k) b) (sym same);
      }
    where
      moved : (p : Valuation) → HasSort (p (named_at h place).0) (named_at h place).1 → named_at h place ≡ named_at g place → HasSort (p (named_at g place).0) (word w)
      moved p s same = subst (HasSort (p (named_at g place).0)) (sym is_word) (subst (λ (x : Name × Sort). HasSort (p x.0) x.1) same s)

-- ---- memories

module _ (o : Object) (masks : List ℕ) (g h : Graph) (place a w id : ℕ) (grows : Grows g h) (sort : IsSortOf o (named_at g place).1) (is_memory_sort : memory a w ≡ (named_at g place).1)
    (count : length masks ≡ word_count o) (cut : IsCut h (named_at g place).0 a w masks (2 ^ a) id) where
  of_memory : IsSortOf o (memory a w)
  of_memory = subst (IsSortOf o) (sym is_memory_sort) sort

  cut_bits : (p : Valuation) (xs : List ℕ) (c : AreCut h id w p masks xs (2 ^ a)) → length xs ≡ 2 ^ a → (k b : ℕ)
      → is_set (slice_index c.now k) b ≡ (is_set (slice_index xs k) b && is_set (slice_index masks k) b)
  cut_bits p xs c long k b = by (cases_lt k (2 ^ a))
    where
      not_below : (i n2 : ℕ) → n2 ≤ i → i < n2 → ⊥
      not_below i n2 l m = omega (arith, l, m)

      past : 2 ^ a ≤ k → slice_index xs k ≡ 0
      past l = get_or_past xs k 0 (subst (λ z. z ≤ k) (sym long) l)

      none : (q : Bool) → false ≡ (false && q)
      none q = refl

      by : (k < 2 ^ a) ⊎ (2 ^ a ≤ k) → is_set (slice_index c.now k) b ≡ (is_set (slice_index xs k) b && is_set (slice_index masks k) b)
      by (inl l) = c.cut k b l
      by (inr l) =
          ap (λ z. is_set z b) (c.rest k (not_below k (2 ^ a) l) ∙ past l) ∙ set-none b
          ∙ sym (ap (λ z. is_set z b && is_set (slice_index masks k) b) (past l) ∙ ap (λ t. t && is_set (slice_index masks k) b) (set-none b))

  worth_memory : (p : Valuation) (v : Value) → p (named_at g place).0 ≡ v → HasSort v (memory a w)
      → IsValueOf o (val (tree h id) p) × ((k b : ℕ) → value_bit (val (tree h id) p) k b ≡ (value_bit v k b && is_set (slice_index masks k) b))
  worth_memory p (truth_value t) e s = absurd (false≢true s)
  worth_memory p (number x) e s = absurd (false≢true s)
  worth_memory p (words xs) e s =
      let parts = and_parts (length xs == 2 ^ a) (all_below w xs) s in
      let long : length xs ≡ 2 ^ a = eqb-true (length xs) (2 ^ a) parts.0 in
      let c = cut.value p xs e long (narrow w xs parts.1) in (
        subst (IsValueOf o) (sym c.is_worth) (
          of_memory.0,
          record {
            address_width = a;
            is_address_width = of_memory.1;
            all = c.long ∙ long;
            narrow = λ k. subst (λ z. slice_index c.now k < 2 ^ z) of_memory.2 (c.narrow k);
            past = λ k l. no_bits (slice_index c.now k) (λ b. cut_bits p xs c long k b ∙ outside xs k b l);
          },
        ),
        λ k b. ap (λ y. value_bit y k b) c.is_worth ∙ cut_bits p xs c long k b,
      )
    where
      and_false : (q : Bool) → (q && false) ≡ false
      and_false true = refl
      and_false false = refl

      outside : (ys : List ℕ) (k b : ℕ) → word_count o ≤ k → (is_set (slice_index ys k) b && is_set (slice_index masks k) b) ≡ false
      outside ys k b l =
          ap (λ z. is_set (slice_index ys k) b && is_set z b) (get_or_past masks k 0 (subst (λ z. z ≤ k) (sym count) l))
          ∙ ap (λ t. is_set (slice_index ys k) b && t) (set-none b) ∙ and_false (is_set (slice_index ys k) b)

  pub masked_memory : IsMasked o masks h place id
  masked_memory =
      let same = same_named g h place grows in
      record {
        sort = memory a w;
        of_object = of_memory;
        of_sort = cut.of_sort;
        fits = λ p s. (worth_memory p (p (named_at g place).0) refl (moved p s same)).0;
        bits = λ p k b s. (worth_memory p (p (named_at g place).0) refl (moved p s same)).1 k b
            ∙ ap (λ (x : Name × Sort). value_bit (p x.0) k b && is_set (slice_index masks k) b) (sym same);
      }
    where
      moved : (p : Valuation) → HasSort (p (named_at h place).0) (named_at h place).1 → named_at h place ≡ named_at g place → HasSort (p (named_at g place).0) (memory a w)
      moved p s same = subst (HasSort (p (named_at g place).0)) (sym is_memory_sort) (subst (λ (x : Name × Sort). HasSort (p x.0) x.1) same s)
