-- What an assignment to one part leaves of each bit.
use Rattle.std.proofs.Common.{◌≡◌, ◌∙◌, ℕ, zero, ◌%◌, ◌^◌, ◌<◌, ◌≤◌, refl, ap, sym, subst, Bool, true, false, cond, not, inl, inr, arith, lt-ltb, ltb-true}
use Rattle.std.specs.Prelude.{◌&&◌, ◌||◌, ◌⊎◌, ◌↔◌, nat_lt, pos, ◌-ℤ◌, IsTrue}
use Rattle.std.proofs.lemmas.Bool.{false≢true, and_parts, and_from, or_cases, or_left, or_right, cases_Bool, cases_lt, not_from_false, false_from_ne_true}
use Rattle.std.proofs.lemmas.Slice.Eq.{bytes_eq-Decides}
use Rattle.std.specs.Int.{bit_not, w128}
use Rattle.wb_values.specs.Value.{Name, same_name}
use Rattle.verilog_trees.specs.Syntax.{Selects, whole, one, two, Target, place}
use Rattle.verilog_meaning.specs.Expression.{Scope, no_values, object_width, is_memory, is_nonzero, Bits, selects_width, select_index, select_bits}
use Rattle.verilog_meaning.specs.Statement.{Place, variable_cell, indexed_cell, all_bits, named_place}
use Rattle.verilog_meaning.specs.Register.{is_set, selects_are_constant, may_mean, may_reach, word_count, is_bit_of}
use Rattle.verilog_designs.specs.Reads.{BitSet, surely_reaches, target_reads, selects_read}
use Rattle.verilog_designs.specs.Dependence.{Bit, is_in, natural_in}
use Rattle.verilog_settled.proofs.Assigned.{takes_reach}
use Rattle.verilog_settled.proofs.Bits.{set_from_bit, bit_of_cut, bit_past_cut, unset_from_bit}
use Rattle.v_flow.specs.Spans.{existing}
use Rattle.v_masks.proofs.Bits.{set-none, some-bit}
use Rattle.v_masks.proofs.Plain.{first-word}
use Rattle.v_paths.specs.Premises.{HasNoMemory}
use Rattle.v_depend.specs.Resting.{IsThere, OneIsUnsettled}
use Rattle.v_depend.specs.Left.{IsLeft, stays, takes_place, by_index, set_in, part_bits, Assigns}
use Rattle.v_depend.specs.Copying.{at_place}
use Rattle.v_depend.specs.declared.change.Change.{Change}
use Rattle.v_depend.specs.Tables.{changed}
use Rattle.v_depend.proofs.Placing.{set-not}
use Rattle.v_depend.proofs.Following.{sure-reach, index-reach}
use Rattle.v_depend.proofs.Targets.{place-of, place-is, takes-constant, takes-variable, taken-constant, below-constant, place-within, part-count}

-- ---- words

no-memory : (m : Bool) → (m ≡ true → ⊥) → m ≡ false
no-memory true h = absurd (h refl)
no-memory false h = refl

-- a set without bits of memories has of each bit that there is what it has in the word 0
pub same-word : (s : Scope) (q : BitSet) (n : Name) (k b : ℕ) → HasNoMemory s (existing s q) → is_bit_of (s n) k b ≡ true → existing s q n zero b ≡ q n k b
same-word s q n k b free t = at (cases_Bool (is_memory (s n)))
  where
    at : (is_memory (s n) ≡ true) ⊎ (is_memory (s n) ≡ false) → existing s q n zero b ≡ q n k b
    at (inl m) = free n zero b m ∙ sym (sym (ap (λ c. c && q n k b) t) ∙ free n k b m)
    at (inr m) =
        let e = first-word (s n) k b m t in
        ap (λ z. existing s q n z b) (sym e) ∙ ap (λ c. c && q n k b) t

pub sure-free : (s : Scope) (t : Target) → HasNoMemory s (existing s (may_reach s t)) → HasNoMemory s (existing s (surely_reaches s t))
sure-free s t free n k b m =
    false_from_ne_true (existing s (surely_reaches s t) n k b) (λ h.
    let g = and_parts (is_bit_of (s n) k b) (surely_reaches s t n k b) h in
    false≢true (sym (free n k b m) ∙ and_from (is_bit_of (s n) k b) (may_reach s t n k b) g.0 (sure-reach s t (record { of_name = n; word = k; place = b }) g.1)))

pub width-below : (s : Scope) (n : Name) (k b : ℕ) → object_width (s n) ≤ 128 → is_bit_of (s n) k b ≡ true → b < 128
width-below s n k b w h =
    let l = ltb-true b (object_width (s n)) (and_parts (nat_lt k (word_count (s n))) (nat_lt b (object_width (s n))) h).1 in
    omega (arith, w, l)

-- ---- the bits of a part

pub part-bits : (s : Scope) (n : Name) (x : Selects) → part_bits s (s n) x ≡ (named_place s no_values n x).bits
part-bits s n whole = refl
part-bits s n (one i) = at (is_memory (s n))
  where
    at : (q : Bool) → cond q (all_bits (s n)) (select_bits s no_values (s n) i)
        ≡ (cond {A = Place} q (record { of_name = n; cell = indexed_cell (s n) (select_index s no_values i); bits = all_bits (s n) })
        (record { of_name = n; cell = variable_cell; bits = select_bits s no_values (s n) i })).bits
    at true = refl
    at false = refl
part-bits s n (two i j) = refl

-- a number has a bit below a place exactly where its cut is not 0
some-number : (x : ℕ) → is_nonzero x ≡ true → 0 < x
some-number x h = ltb-true 0 x h

at-most : (x : ℕ) → x ≤ x
at-most x = omega arith

set-below : (v w : ℕ) → is_nonzero (v % 2 ^ w) ≡ true → (j : ℕ) × (nat_lt j w ≡ true) × (is_set v j ≡ true)
set-below v w h = at b (cases_lt b.0 w)
  where
    b : (j : ℕ) × (is_set (v % 2 ^ w) j ≡ true)
    b = some-bit (v % 2 ^ w) (v % 2 ^ w) (at-most (v % 2 ^ w)) (some-number (v % 2 ^ w) h)

    at : (b : (j : ℕ) × (is_set (v % 2 ^ w) j ≡ true)) → (b.0 < w) ⊎ (w ≤ b.0) → (j : ℕ) × (nat_lt j w ≡ true) × (is_set v j ≡ true)
    at b (inl l) = (b.0, lt-ltb b.0 w l, sym (set_from_bit (v % 2 ^ w) v b.0 b.0 (bit_of_cut v w b.0 l)) ∙ b.1)
    at b (inr l) = absurd (false≢true (sym (unset_from_bit (v % 2 ^ w) b.0 (bit_past_cut v w b.0 l)) ∙ b.1))

below-set : (v w j : ℕ) → nat_lt j w ≡ true → is_set v j ≡ true → is_nonzero (v % 2 ^ w) ≡ true
below-set v w j l h = at (cases_lt 0 (v % 2 ^ w))
  where
    at : (0 < v % 2 ^ w) ⊎ (v % 2 ^ w ≤ 0) → is_nonzero (v % 2 ^ w) ≡ true
    at (inl g) = lt-ltb 0 (v % 2 ^ w) g
    at (inr g) =
        let e : v % 2 ^ w ≡ 0 = omega (arith, g) in
        absurd (false≢true (sym (ap (λ z. is_set z j) e ∙ set-none j) ∙ (set_from_bit (v % 2 ^ w) v j j (bit_of_cut v w j (ltb-true j w l)) ∙ h)))

-- ---- what is left

not-reached : (p : BitSet) (s : Scope) (rests : ℕ → Type 0) (before : Type 0) (t : Target) (u : Bit) → may_reach s t u.of_name u.word u.place ≡ false
    → before ↔ IsLeft p s rests before t u
not-reached p s rests before t u h = ((λ b. stays free b), back)
  where
    free : IsTrue (not (is_in (surely_reaches s t) u))
    free = not_from_false (is_in (surely_reaches s t) u) (false_from_ne_true (is_in (surely_reaches s t) u) (λ g. false≢true (sym h ∙ sure-reach s t u g)))

    back : IsLeft p s rests before t u → before
    back (stays n b) = b
    back (takes_place j l k r) = absurd (false≢true (sym h ∙ takes_reach s t u j k))
    back (by_index r) = absurd (false≢true (sym h ∙ index-reach s t u r.0 r.1))

module _ (p : BitSet) (s : Scope) (n : Name) (x : Selects) (v : ℕ) (u : Bit) (there : IsThere s u) (P I : Bool) (index : IsTrue I ↔ OneIsUnsettled p (selects_read s x)) where
  reach : Bool
  reach = may_reach s (place n x) u.of_name u.word u.place

  sure : Bool
  sure = is_in (surely_reaches s (place n x)) u

  at-its-place : Bool
  at-its-place = at_place v (natural_in (pos u.place -ℤ (named_place s no_values n x).bits.low))

  somewhere : Bool
  somewhere = is_nonzero (v % 2 ^ selects_width s (s n) x)

  left : Bool
  left = (P && not sure) || ((sure && at-its-place) || (reach && (I || (not sure && somewhere))))

  sure-constant : selects_are_constant s x ≡ true → sure ≡ reach
  unfolding sure reach
  sure-constant c = ap (λ t. same_name n u.of_name && (t && may_mean s (s n) x u.word u.place)) c

  sure-variable : selects_are_constant s x ≡ false → sure ≡ false
  unfolding sure
  sure-variable c = ap (λ t. same_name n u.of_name && (t && may_mean s (s n) x u.word u.place)) c ∙ none (same_name n u.of_name)
    where
      none : (b : Bool) → b && false ≡ false
      none true = refl
      none false = refl

  constant-if-sure : sure ≡ true → (selects_are_constant s x ≡ true) × (reach ≡ true)
  constant-if-sure h =
      elim (cases_Bool (selects_are_constant s x)) [
        | inl c ↦ (c, sym (sure-constant c) ∙ h)
        | inr c ↦ absurd (false≢true (sym (sure-variable c) ∙ h))
      ]

  variable-if-not : reach ≡ true → not sure ≡ true → selects_are_constant s x ≡ false
  variable-if-not r h =
      elim (cases_Bool (selects_are_constant s x)) [
        | inl c ↦ absurd (false≢true (sym (ap not (sure-constant c ∙ r)) ∙ h))
        | inr c ↦ c
      ]

  IsLeftHere : Type 0
  IsLeftHere = IsLeft p s (set_in v) (IsTrue P) (place n x) u

  at-place-is : selects_are_constant s x ≡ true → reach ≡ true → at-its-place ≡ is_set v (place-of s n x u.place)
  unfolding at-its-place reach
  at-place-is c r =
      let m = and_parts (same_name n u.of_name) (may_mean s (s n) x u.word u.place) r in
      let w = place-within s n x u.word u.place (subst (λ z. is_bit_of (s z) u.word u.place ≡ true) (sym ((bytes_eq-Decides n u.of_name).0 m.0)) there) c m.1 in
      ap (at_place v) (place-is s n x u.place w)

  from-place : sure ≡ true → at-its-place ≡ true → IsLeftHere
  unfolding IsLeftHere sure reach at-its-place
  from-place h a =
      let c = constant-if-sure h in
      takes_place (place-of s n x u.place) (lt-ltb _ _ (below-constant s n x u there c.1 c.0)) (takes-constant s n x u there c.1 c.0) (sym (at-place-is c.0 c.1) ∙ a)

  from-index : reach ≡ true → I ≡ true → IsLeftHere
  unfolding IsLeftHere reach
  from-index r i = let y = index.0 i in by_index (y.0, and_from reach (is_in (selects_read s x) y.0) r y.1, y.2)

  from-anywhere : reach ≡ true → not sure ≡ true → somewhere ≡ true → IsLeftHere
  unfolding IsLeftHere reach somewhere
  from-anywhere r h a =
      let c = variable-if-not r h in
      let j = set-below v (selects_width s (s n) x) a in
      takes_place j.0 j.1 (takes-variable s n x u there r j.0 c j.1) j.2

  there-is : left ≡ true → IsLeftHere
  unfolding left IsLeftHere sure
  there-is h =
      elim (or_cases (P && not sure) ((sure && at-its-place) || (reach && (I || (not sure && somewhere)))) h) [
        | inl e ↦ let g = and_parts P (not sure) e in stays g.1 g.0
        | inr e ↦ elim (or_cases (sure && at-its-place) (reach && (I || (not sure && somewhere))) e) [
          | inl f ↦ let g = and_parts sure at-its-place f in from-place g.0 g.1
          | inr f ↦ let g = and_parts reach (I || (not sure && somewhere)) f in
              elim (or_cases I (not sure && somewhere) g.1) [
                | inl k ↦ from-index g.0 k
                | inr k ↦ let m = and_parts (not sure) somewhere k in from-anywhere g.0 m.0 m.1
              ]
        ]
      ]

  second : (a b : Bool) → b ≡ true → a || b ≡ true
  second a b h = or_right a b h

  here-is : IsLeftHere → left ≡ true
  unfolding left IsLeftHere sure reach at-its-place somewhere
  here-is (stays m b) = or_left (P && not sure) _ (and_from P (not sure) b m)
  here-is (takes_place j l k a) =
      let r = takes_reach s (place n x) u j k in
      elim (cases_Bool (selects_are_constant s x)) [
        | inl c ↦
            let e = taken-constant s n x u there r j c k in
            let on = sure-constant c ∙ r in
            or_right (P && not sure) ((sure && at-its-place) || (reach && (I || (not sure && somewhere))))
            (or_left (sure && at-its-place) (reach && (I || (not sure && somewhere))) (and_from sure at-its-place on (at-place-is c r ∙ subst (λ i. is_set v i ≡ true) e a)))
        | inr c ↦
            let off = ap not (sure-variable c) in
            or_right (P && not sure) ((sure && at-its-place) || (reach && (I || (not sure && somewhere))))
            (or_right (sure && at-its-place) (reach && (I || (not sure && somewhere)))
            (and_from reach (I || (not sure && somewhere)) r
            (or_right I (not sure && somewhere) (and_from (not sure) somewhere off (below-set v (selects_width s (s n) x) j l a)))))
      ]
  here-is (by_index r) =
      let g = and_parts reach (is_in (selects_read s x) r.0) r.1 in
      or_right (P && not sure) ((sure && at-its-place) || (reach && (I || (not sure && somewhere))))
      (or_right (sure && at-its-place) (reach && (I || (not sure && somewhere)))
      (and_from reach (I || (not sure && somewhere)) g.0 (or_left I (not sure && somewhere) (index.1 (r.0, g.1, r.2)))))

  pub left-here : (b : Bool) → b ≡ ((P && not (is_in (surely_reaches s (place n x)) u))
      || ((is_in (surely_reaches s (place n x)) u && at_place v (natural_in (pos u.place -ℤ (named_place s no_values n x).bits.low)))
      || (may_reach s (place n x) u.of_name u.word u.place
      && (I || (not (is_in (surely_reaches s (place n x)) u) && is_nonzero (v % 2 ^ selects_width s (s n) x))))))
      → IsTrue b ↔ IsLeft p s (set_in v) (IsTrue P) (place n x) u
  unfolding left IsLeftHere sure reach at-its-place somewhere
  left-here b e = ((λ h. there-is (sym e ∙ h)), (λ l. e ∙ here-is l))

-- ---- a change as the code makes it

module _ (w : BitSet) (s : Scope) (n : Name) (x : Selects) (v : ℕ) (c : Change) (name : c.name.now ≡ n) (narrow : object_width (s n) ≤ 128) (reached sure : ℕ) (I : Bool)
    (k : c.kept ≡ bit_not w128 sure) (fits : sure < 2 ^ 128) (bits : Bits) (is : bits ≡ part_bits s (s n) x)
    (set : (b : ℕ) → b < 128 → is_set c.set b ≡ ((is_set sure b && at_place v (natural_in (pos b -ℤ bits.low)))
    || (is_set reached b && (I || (not (is_set sure b) && is_nonzero (v % 2 ^ bits.count)))))) where
  -- what the code finds of the target, and what its change then does
  abbrev Claim : Target → Type 0
  Claim t =
      HasNoMemory s (existing s (may_reach s t)) → ((b : ℕ) → is_set reached b ≡ existing s (may_reach s t) n zero b)
      → ((b : ℕ) → is_set sure b ≡ existing s (surely_reaches s t) n zero b) → IsTrue I ↔ OneIsUnsettled w (target_reads s t)
      → (p : BitSet) → Assigns w s t v p (changed c p)

  named-bits : bits ≡ (named_place s no_values n x).bits
  named-bits = is ∙ part-bits s n x

  module _ (free : HasNoMemory s (existing s (may_reach s (place n x)))) (r : (b : ℕ) → is_set reached b ≡ existing s (may_reach s (place n x)) n zero b)
      (q : (b : ℕ) → is_set sure b ≡ existing s (surely_reaches s (place n x)) n zero b) (index : IsTrue I ↔ OneIsUnsettled w (target_reads s (place n x)))
      (p : BitSet) (u : Bit) (there : IsThere s u) where
    other-name : same_name n u.of_name ≡ false → IsTrue (is_in (changed c p) u) ↔ IsLeft w s (set_in v) (IsTrue (is_in p u)) (place n x) u
    other-name h =
        let e : is_in (changed c p) u ≡ is_in p u =
        ap (λ m. cond (same_name m u.of_name) ((is_in p u && is_set c.kept u.place) || is_set c.set u.place) (is_in p u)) name
        ∙ ap (λ t. cond t ((is_in p u && is_set c.kept u.place) || is_set c.set u.place) (is_in p u)) h in
        let no : may_reach s (place n x) u.of_name u.word u.place ≡ false = ap (λ t. t && may_mean s (s n) x u.word u.place) h in
        subst (λ b. IsTrue b ↔ IsLeft w s (set_in v) (IsTrue (is_in p u)) (place n x) u) (sym e)
        (not-reached w s (set_in v) (IsTrue (is_in p u)) (place n x) u no)

    this-name : same_name n u.of_name ≡ true → IsTrue (is_in (changed c p) u) ↔ IsLeft w s (set_in v) (IsTrue (is_in p u)) (place n x) u
    this-name h =
        let m = (bytes_eq-Decides n u.of_name).0 h in
        let low = width-below s u.of_name u.word u.place (subst (λ z. object_width (s z) ≤ 128) m narrow) there in
        let R = may_reach s (place n x) u.of_name u.word u.place in
        let S = is_in (surely_reaches s (place n x)) u in
        let P = is_in p u in
        let reach : is_set reached u.place ≡ R =
        r u.place ∙ ap (λ z. existing s (may_reach s (place n x)) z zero u.place) m ∙ same-word s (may_reach s (place n x)) u.of_name u.word u.place free there in
        let surely : is_set sure u.place ≡ S =
        q u.place ∙ ap (λ z. existing s (surely_reaches s (place n x)) z zero u.place) m
        ∙ same-word s (surely_reaches s (place n x)) u.of_name u.word u.place (sure-free s (place n x) free) there in
        let kept : is_set c.kept u.place ≡ not S = ap (λ z. is_set z u.place) k ∙ set-not sure u.place fits low ∙ ap not surely in
        let A : Bits → Bool = (λ b. at_place v (natural_in (pos u.place -ℤ b.low))) in
        let N : ℕ → Bool = (λ j. is_nonzero (v % 2 ^ j)) in
        let sets : is_set c.set u.place ≡ ((S && A (named_place s no_values n x).bits) || (R && (I || (not S && N (selects_width s (s n) x))))) =
        set u.place low
        ∙ ap (λ z. (z && A bits) || (is_set reached u.place && (I || (not z && N bits.count)))) surely
        ∙ ap (λ z. (S && A bits) || (z && (I || (not S && N bits.count)))) reach
        ∙ ap (λ b. (S && A b) || (R && (I || (not S && N b.count)))) named-bits
        ∙ ap (λ j. (S && A (named_place s no_values n x).bits) || (R && (I || (not S && N j)))) (part-count s n x) in
        let e : is_in (changed c p) u ≡ ((P && not S) || ((S && A (named_place s no_values n x).bits) || (R && (I || (not S && N (selects_width s (s n) x)))))) =
        ap (λ z. cond (same_name z u.of_name) ((P && is_set c.kept u.place) || is_set c.set u.place) P) name
        ∙ ap (λ t. cond t ((P && is_set c.kept u.place) || is_set c.set u.place) P) h
        ∙ ap (λ z. (P && z) || is_set c.set u.place) kept ∙ ap (λ z. (P && not S) || z) sets in
        left-here w s n x v u there P I index (is_in (changed c p) u) e

    part-assigns : IsTrue (is_in (changed c p) u) ↔ IsLeft w s (set_in v) (IsTrue (is_in p u)) (place n x) u
    part-assigns =
        elim (cases_Bool (same_name n u.of_name)) [
          | inl h ↦ this-name h
          | inr h ↦ other-name h
        ]

  pub part-changed : (t : Target) → t ≡ place n x → HasNoMemory s (existing s (may_reach s t)) → ((b : ℕ) → is_set reached b ≡ existing s (may_reach s t) n zero b)
      → ((b : ℕ) → is_set sure b ≡ existing s (surely_reaches s t) n zero b) → IsTrue I ↔ OneIsUnsettled w (target_reads s t)
      → (p : BitSet) → Assigns w s t v p (changed c p)
  part-changed t e = subst Claim (sym e) (λ free r q index p u there. part-assigns free r q index p u there)
