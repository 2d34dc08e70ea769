-- The names of a run by their numbers, and the values of a run as those of a valuation.
use Rattle.std.proofs.Common.{◌≡◌, ◌∙◌, ℕ, zero, suc, ◌+◌, ◌-◌, ◌*◌, ◌^◌, ◌<◌, ◌≤◌, Bool, true, false, cond, List, [], ◌∷◌, ◌++◌, length, map, get_or, take, drop, Option, Some, None, ◌⊎◌, arith, refl, sym, ap, subst, inl, inr}
use Rattle.std.specs.Prelude.{nat_lt, decimal, option_map}
use Rattle.std.proofs.lemmas.List.{get_or_append_left, get_or-append-add, length-append}
use Rattle.std.proofs.lemmas.Bool.{cases_lt, lt-ltb}
use Rattle.std.proofs.lemmas.Bool.Decides.{nat_tests}
use Rattle.std.proofs.lemmas.Slice.Eq.{bytes_eq-Decides}
use Rattle.std.proofs.lemmas.Nat.{pow_pos}
use Rattle.sat_gates.proofs.ReadingLemmas.{no_words}
use Rattle.wb_values.specs.Value.{Name, same_name, Sort, truth, word, memory, Value, number, Entries, entry_of, Valuation, valuation_of, HasSort}
use Rattle.wb_terms.specs.Graph.{HasDistinctNames}
use Rattle.wb_terms.specs.Environment.{AreOfSorts, values_by_name}
use Rattle.wb_terms.proofs.EnvironmentLemmas.{length-AreOfSorts, sort_at, value_at}
use Rattle.sat_gates.proofs.Layouts.{absent, same_itself, not_same}
use Rattle.ob_mem.specs.Words.{entry_at}
use Rattle.ila_model.specs.Meaning.{zero_of}
use Rattle.v_design.specs.Parts.{Parts, registers_of, inputs_of}
use Rattle.mapped_designs.specs.Runs.{Values, AreValuesOf, zero_inputs}
use Rattle.run_terms.specs.Names.{numbered, repeated, names_of_run, values_from, first_input, values_of_run, FitsNames}
use Rattle.obligation_check.specs.Bits.{place_of}

below : (a b : ℕ) → nat_lt a b ≡ true → a < b
below a b e = grind (arith, nat_tests)

-- ---- tables of numbers

pub length-numbered : (k : ℕ) (es : Entries Sort) → length (numbered k es) ≡ length es
length-numbered k [] = refl
length-numbered k (e ∷ es) = ap suc (length-numbered (suc k) es)

pub length-repeated : (n : ℕ) (es : Entries Sort) → length (repeated n es) ≡ n * length es
length-repeated zero es = omega arith
length-repeated (suc n) es =
    let h = length-repeated n es in
    let l = length-append es (repeated n es) in
    let m : suc n * length es ≡ length es + n * length es = omega arith in
    l ∙ (ap (λ k. length es + k) h ∙ sym m)

pub numbered_at : (k : ℕ) (es : Entries Sort) (j : ℕ) → j < length es → entry_at (numbered k es) j ≡ (decimal (k + j), (entry_at es j).1)
numbered_at k [] j b = absurd (omega (arith, b))
numbered_at k (e ∷ es) zero b = let z : k ≡ k + zero = omega arith in ap (λ n. (decimal n, e.1)) z
numbered_at k (e ∷ es) (suc j) b =
    let s : suc k + j ≡ k + suc j = omega arith in
    numbered_at (suc k) es j (omega (arith, b)) ∙ ap (λ n. (decimal n, (entry_at es j).1)) s

-- ---- places of names

pub record IsPlaceOf (es : Entries Sort) (n : Name) (i : ℕ) : Type 0 where
  pub below : i < length es
  pub named : (entry_at es i).0 ≡ n

same_name_true : (n m : Name) → same_name n m ≡ true → n ≡ m
same_name_true n m e = (bytes_eq-Decides n m).0 e

pub place_found : (es : Entries Sort) (n : Name) (i : ℕ) → place_of es n ≡ Some i → IsPlaceOf es n i
place_found [] n i e = absurd (let c : None ≡ Some i = e in cc)
place_found (x ∷ es) n i e = by_test (same_name x.0 n) refl (place_of es n) refl e (place_found es n)
  where
    by_test : (t : Bool) → same_name x.0 n ≡ t → (o : Option ℕ) → place_of es n ≡ o → cond t (Some 0) (option_map suc o) ≡ Some i
        → ((k : ℕ) → place_of es n ≡ Some k → IsPlaceOf es n k) → IsPlaceOf (x ∷ es) n i
    by_test true q o p e from =
        let z : 0 ≡ i = cc in
        subst (IsPlaceOf (x ∷ es) n) z (record { below = omega arith; named = same_name_true x.0 n q })
    by_test false q None p e from = absurd (let c : None ≡ Some i = e in cc)
    by_test false q (Some k) p e from =
        let h = from k p in
        let s : suc k ≡ i = cc in
        subst (IsPlaceOf (x ∷ es) n) s (record { below = omega (arith, h.below); named = h.named })

pub place_at : (es : Entries Sort) (i : ℕ) → HasDistinctNames es → i < length es → place_of es (entry_at es i).0 ≡ Some i
place_at [] i d b = absurd (omega (arith, b))
place_at (e ∷ es) zero d b = ap (λ t. cond t (Some 0) (option_map suc (place_of es e.0))) (same_itself e.0)
place_at (e ∷ es) (suc i) d b =
    ap (λ t. cond t (Some 0) (option_map suc (place_of es (entry_at es i).0))) (not_same (entry_at es i).0 e.0 (absent es e.0 i (omega (arith, b)) d.0))
    ∙ ap (option_map suc) (place_at es i d.1 (omega (arith, b)))

-- ---- a place is that of a register, or of an input at a cycle

pub record IsPlaceIn (count each j : ℕ) : Type 0 where
  pub cycle : ℕ
  pub place : ℕ
  pub cycle_below : cycle < count
  pub place_below : place < each
  pub is : j ≡ cycle * each + place

pub split_place : (count each j : ℕ) → j < count * each → IsPlaceIn count each j
split_place zero each j b = absurd (omega (arith, b))
split_place (suc count) each j b = by_cycle (cases_lt j each) (split_place count each (j - each))
  where
    all : suc count * each ≡ each + count * each
    all = omega arith

    by_cycle : (j < each) ⊎ (each ≤ j) → (j - each < count * each → IsPlaceIn count each (j - each)) → IsPlaceIn (suc count) each j
    by_cycle (inl l) from = record { cycle = 0; place = j; cycle_below = omega arith; place_below = l; is = omega arith }
    by_cycle (inr l) from =
        let h = from (omega (arith, l, b, all)) in
        let more : suc h.cycle * each ≡ each + h.cycle * each = omega arith in
        record {
          cycle = suc h.cycle;
          place = h.place;
          cycle_below = omega (arith, h.cycle_below);
          place_below = h.place_below;
          is = omega (arith, h.is, l, more);
        }

-- ---- values

pub length-values_from : (k : ℕ) (es : Entries Sort) (v : Valuation) → length (values_from k es v) ≡ length es
length-values_from k [] v = refl
length-values_from k (e ∷ es) v = ap suc (length-values_from (suc k) es v)

pub values_from_at : (k : ℕ) (es : Entries Sort) (v : Valuation) (i : ℕ) (x : Value) → i < length es → get_or (values_from k es v) i x ≡ v (decimal (k + i))
values_from_at k [] v i x b = absurd (omega (arith, b))
values_from_at k (e ∷ es) v zero x b = let z : k ≡ k + zero = omega arith in ap (λ n. v (decimal n)) z
values_from_at k (e ∷ es) v (suc i) x b =
    let s : suc k + i ≡ k + suc i = omega arith in
    values_from_at (suc k) es v i x (omega (arith, b)) ∙ ap (λ n. v (decimal n)) s

pub values_from_is : (k : ℕ) (es : Entries Sort) (v : Valuation) (ys : List Value) → length ys ≡ length es
    → ((i : ℕ) → i < length es → v (decimal (k + i)) ≡ get_or ys i (number 0)) → values_from k es v ≡ ys
values_from_is k [] v [] l h = refl
values_from_is k [] v (y ∷ ys) l h = absurd (omega (arith, l))
values_from_is k (e ∷ es) v [] l h = absurd (omega (arith, l))
values_from_is k (e ∷ es) v (y ∷ ys) l h =
    let z : k + zero ≡ k = omega arith in
    let first : v (decimal k) ≡ y = ap (λ n. v (decimal n)) (sym z) ∙ h zero (omega arith) in
    let rest : values_from (suc k) es v ≡ ys = values_from_is (suc k) es v ys (omega (arith, l)) (λ i b. let s : suc k + i ≡ k + suc i = omega arith in ap (λ n. v (decimal n)) s ∙ h (suc i) (omega (arith, b))) in
    ap (λ q. q ∷ values_from (suc k) es v) first ∙ ap (λ q. y ∷ q) rest

pub of_sorts_from : (k : ℕ) (es : Entries Sort) (v : Valuation) → ((i : ℕ) → i < length es → HasSort (v (decimal (k + i))) (entry_at es i).1) → AreOfSorts es (values_from k es v)
of_sorts_from k [] v h = tt
of_sorts_from k (e ∷ es) v h =
    let z : k + zero ≡ k = omega arith in (
      subst (λ n. HasSort (v (decimal n)) e.1) z (h zero (omega arith)),
      of_sorts_from (suc k) es v (λ i b. let s : k + suc i ≡ suc k + i = omega arith in subst (λ n. HasSort (v (decimal n)) (entry_at es i).1) s (h (suc i) (omega (arith, b)))),
    )

-- values for a table, and for its numbers
pub of_sorts-numbered : (k : ℕ) (es : Entries Sort) (xs : List Value) → AreOfSorts es xs → AreOfSorts (numbered k es) xs
of_sorts-numbered k [] [] h = tt
of_sorts-numbered k [] (x ∷ xs) h = absurd h
of_sorts-numbered k (e ∷ es) [] h = absurd h
of_sorts-numbered k (e ∷ es) (x ∷ xs) h = (h.0, of_sorts-numbered (suc k) es xs h.1)

pub of_sorts-append : (es fs : Entries Sort) (xs ys : List Value) → AreOfSorts es xs → AreOfSorts fs ys → AreOfSorts (es ++ fs) (xs ++ ys)
of_sorts-append [] fs [] ys h k = k
of_sorts-append [] fs (x ∷ xs) ys h k = absurd h
of_sorts-append (e ∷ es) fs [] ys h k = absurd h
of_sorts-append (e ∷ es) fs (x ∷ xs) ys h k = (h.0, of_sorts-append es fs xs ys h.1 k)

-- the lists that a function gives from a number on, one after another
abbrev pub lists_from : (t count : ℕ) → (ℕ → List Value) → List Value
lists_from t zero f = []
lists_from t (suc n) f = f t ++ lists_from (suc t) n f

pub of_sorts-lists : (t count : ℕ) (es : Entries Sort) (f : ℕ → List Value) → ((u : ℕ) → AreOfSorts es (f u)) → AreOfSorts (repeated count es) (lists_from t count f)
of_sorts-lists t zero es f h = tt
of_sorts-lists t (suc n) es f h = of_sorts-append es (repeated n es) (f t) (lists_from (suc t) n f) (h t) (of_sorts-lists (suc t) n es f h)

pub lists_at : (t count each : ℕ) (f : ℕ → List Value) (u i : ℕ) (x : Value) → ((s : ℕ) → length (f s) ≡ each) → u < count → i < each
    → get_or (lists_from t count f) (u * each + i) x ≡ get_or (f (t + u)) i x
lists_at t zero each f u i x l b c = absurd (omega (arith, b))
lists_at t (suc n) each f zero i x l b c =
    let z : zero * each + i ≡ i = omega arith in
    let s : t ≡ t + zero = omega arith in
    ap (λ k. get_or (f t ++ lists_from (suc t) n f) k x) z
    ∙ (get_or_append_left (f t) (lists_from (suc t) n f) x i (omega (arith, c, l t)) ∙ ap (λ k. get_or (f k) i x) s)
lists_at t (suc n) each f (suc u) i x l b c =
    let z : suc u * each + i ≡ length (f t) + (u * each + i) = omega (arith, l t) in
    let s : suc t + u ≡ t + suc u = omega arith in
    ap (λ k. get_or (f t ++ lists_from (suc t) n f) k x) z
    ∙ (get_or-append-add (f t) (lists_from (suc t) n f) (u * each + i) x
    ∙ (lists_at (suc t) n each f u i x l (omega (arith, b)) c ∙ ap (λ k. get_or (f k) i x) s))

-- zeros are of their sorts
zero_sort : (s : Sort) → HasSort (zero_of s) s
zero_sort truth = refl
zero_sort (word w) = lt-ltb 0 (2 ^ w) (pow_pos w)
zero_sort (memory a d) = no_words a d _ refl

pub zeros_sort : (es : Entries Sort) → AreOfSorts es (map (λ n. zero_of n.1) es)
zeros_sort [] = tt
zeros_sort (e ∷ es) = (zero_sort e.1, zeros_sort es)

-- ---- tables with distinct names

entry_of-take : (es : Entries Sort) (k : ℕ) (n : Name) → entry_of es n ≡ None → entry_of (take k es) n ≡ None
entry_of-take [] zero n h = refl
entry_of-take [] (suc k) n h = refl
entry_of-take (e ∷ es) zero n h = refl
entry_of-take (e ∷ es) (suc k) n h = by_test (same_name e.0 n) h (entry_of-take es k n)
  where
    by_test : (t : Bool) → cond t (Some e.1) (entry_of es n) ≡ None → (entry_of es n ≡ None → entry_of (take k es) n ≡ None) → cond t (Some e.1) (entry_of (take k es) n) ≡ None
    by_test true h from = absurd (let c : Some e.1 ≡ None = h in cc)
    by_test false h from = from h

pub distinct-take : (es : Entries Sort) (k : ℕ) → HasDistinctNames es → HasDistinctNames (take k es)
distinct-take [] zero d = tt
distinct-take [] (suc k) d = tt
distinct-take (e ∷ es) zero d = tt
distinct-take (e ∷ es) (suc k) d = (entry_of-take es k e.0 d.0, distinct-take es k d.1)

pub distinct-drop : (es : Entries Sort) (k : ℕ) → HasDistinctNames es → HasDistinctNames (drop k es)
distinct-drop [] zero d = tt
distinct-drop [] (suc k) d = tt
distinct-drop (e ∷ es) zero d = d
distinct-drop (e ∷ es) (suc k) d = distinct-drop es k d.1

-- ---- the names of a run

module _ (d : Parts) (cycles : ℕ) where
  abbrev rs : Entries Sort
  rs = registers_of d

  abbrev is : Entries Sort
  is = inputs_of d

  abbrev all : Entries Sort
  all = rs ++ repeated cycles is

  pub name_count : length (names_of_run d cycles) ≡ length rs + cycles * length is
  name_count = length-numbered 0 all ∙ (length-append rs (repeated cycles is) ∙ ap (λ k. length rs + k) (length-repeated cycles is))

  pub run_name : (j : ℕ) → j < length (names_of_run d cycles) → (entry_at (names_of_run d cycles) j).0 ≡ decimal j
  run_name j b =
      let z : 0 + j ≡ j = omega arith in
      ap (λ (e : Name × Sort). e.0) (numbered_at 0 all j (omega (arith, b, length-numbered 0 all))) ∙ ap decimal z

  pub input_place : (t i : ℕ) → t < cycles → i < length is → first_input d t + i < length (names_of_run d cycles)
  input_place t i b c =
      let h : suc t * length is ≤ cycles * length is = up cycles (suc t) (omega (arith, b)) in
      let m : suc t * length is ≡ t * length is + length is = omega arith in
      omega (arith, h, m, c, name_count)
    where
      up : (n k : ℕ) → k ≤ n → k * length is ≤ n * length is
      up n zero l = omega arith
      up zero (suc k) l = absurd (omega (arith, l))
      up (suc n) (suc k) l =
          let h = up n k (omega (arith, l)) in
          let a : suc n * length is ≡ n * length is + length is = omega arith in
          let b : suc k * length is ≡ k * length is + length is = omega arith in
          omega (arith, h, a, b)

  pub sort_of_register : (i : ℕ) → i < length rs → (entry_at (names_of_run d cycles) i).1 ≡ (entry_at rs i).1
  sort_of_register i b =
      let c : i < length all = omega (arith, b, length-append rs (repeated cycles is)) in
      ap (λ (e : Name × Sort). e.1) (numbered_at 0 all i c) ∙ ap (λ (e : Name × Sort). e.1) (get_or_append_left rs (repeated cycles is) ([], truth) i b)

  repeated_at : (n t i : ℕ) → t < n → i < length is → entry_at (repeated n is) (t * length is + i) ≡ entry_at is i
  repeated_at zero t i b c = absurd (omega (arith, b))
  repeated_at (suc n) zero i b c =
      let z : zero * length is + i ≡ i = omega arith in
      ap (entry_at (is ++ repeated n is)) z ∙ get_or_append_left is (repeated n is) ([], truth) i c
  repeated_at (suc n) (suc t) i b c =
      let z : suc t * length is + i ≡ length is + (t * length is + i) = omega arith in
      ap (entry_at (is ++ repeated n is)) z ∙ (get_or-append-add is (repeated n is) (t * length is + i) ([], truth) ∙ repeated_at n t i (omega (arith, b)) c)

  pub sort_of_input : (t i : ℕ) → t < cycles → i < length is → (entry_at (names_of_run d cycles) (first_input d t + i)).1 ≡ (entry_at is i).1
  sort_of_input t i b c =
      let place = input_place t i b c in
      let z : first_input d t + i ≡ length rs + (t * length is + i) = omega arith in
      ap (λ (e : Name × Sort). e.1) (numbered_at 0 all (first_input d t + i) (omega (arith, place, length-numbered 0 all)))
      ∙ ap (λ (e : Name × Sort). e.1) (ap (entry_at all) z ∙ (get_or-append-add rs (repeated cycles is) (t * length is + i) ([], truth) ∙ repeated_at cycles t i b c))

  -- a valuation that fits gives values
  pub values_fit : (v : Valuation) → FitsNames (names_of_run d cycles) v → AreValuesOf d (values_of_run d cycles v)
  values_fit v fits = record {
    first = of_sorts_from 0 rs v (λ i b. first_at i b);
    inputs = λ t. by_test t (nat_lt t cycles) refl;
  }
    where
      first_at : (i : ℕ) → i < length rs → HasSort (v (decimal (0 + i))) (entry_at rs i).1
      first_at i b =
          let c : i < length (names_of_run d cycles) = omega (arith, b, name_count) in
          let z : i ≡ 0 + i = omega arith in
          subst (λ n. HasSort (v (decimal n)) (entry_at rs i).1) z
          (subst (λ n. HasSort (v n) (entry_at rs i).1) (run_name i c) (subst (HasSort (v (entry_at (names_of_run d cycles) i).0)) (sort_of_register i b) (fits i c)))

      input_at : (t i : ℕ) → t < cycles → i < length is → HasSort (v (decimal (first_input d t + i))) (entry_at is i).1
      input_at t i b c =
          let p = input_place t i b c in
          let j = first_input d t + i in
          subst (λ n. HasSort (v n) (entry_at is i).1) (run_name j p) (subst (HasSort (v (entry_at (names_of_run d cycles) j).0)) (sort_of_input t i b c) (fits j p))

      by_test : (t : ℕ) (q : Bool) → nat_lt t cycles ≡ q → AreOfSorts is (cond q (values_from (first_input d t) is v) (zero_inputs d))
      by_test t true q = of_sorts_from (first_input d t) is v (λ i c. input_at t i (below t cycles q) c)
      by_test t false q = zeros_sort is

  -- values are those of a valuation
  module _ (x : Values) (fits : AreValuesOf d x) (distinct : HasDistinctNames (names_of_run d cycles)) where
    abbrev listed_values : List Value
    listed_values = x.first ++ lists_from 0 cycles x.inputs

    abbrev pub valuation_by : Valuation
    valuation_by = valuation_of (values_by_name (names_of_run d cycles) listed_values)

    listed_fit : AreOfSorts (names_of_run d cycles) listed_values
    listed_fit =
        of_sorts-numbered 0 all listed_values
        (of_sorts-append rs (repeated cycles is) x.first (lists_from 0 cycles x.inputs) fits.first (of_sorts-lists 0 cycles is x.inputs fits.inputs))

    at_place : (j : ℕ) → j < length (names_of_run d cycles) → valuation_by (entry_at (names_of_run d cycles) j).0 ≡ get_or listed_values j (number 0)
    at_place j b = value_at (names_of_run d cycles) listed_values j ([], truth) (number 0) distinct listed_fit b

    pub valuation_fits : FitsNames (names_of_run d cycles) valuation_by
    valuation_fits j b =
        subst (λ y. HasSort y (entry_at (names_of_run d cycles) j).1) (sym (at_place j b)) (sort_at (names_of_run d cycles) listed_values j ([], truth) (number 0) listed_fit b)

    first_length : length x.first ≡ length rs
    first_length = length-AreOfSorts rs x.first fits.first

    first_by : (i : ℕ) → i < length rs → valuation_by (decimal i) ≡ get_or x.first i (number 0)
    first_by i b =
        let c : i < length (names_of_run d cycles) = omega (arith, b, name_count) in
        ap valuation_by (sym (run_name i c)) ∙ (at_place i c ∙ get_or_append_left x.first (lists_from 0 cycles x.inputs) (number 0) i (omega (arith, b, first_length)))

    input_by : (t i : ℕ) → t < cycles → i < length is → valuation_by (decimal (first_input d t + i)) ≡ get_or (x.inputs t) i (number 0)
    input_by t i b c =
        let p = input_place t i b c in
        let z : first_input d t + i ≡ length x.first + (t * length is + i) = omega (arith, first_length) in
        let s : 0 + t ≡ t = omega arith in
        ap valuation_by (sym (run_name (first_input d t + i) p)) ∙ (at_place (first_input d t + i) p
        ∙ (ap (λ k. get_or listed_values k (number 0)) z ∙ (get_or-append-add x.first (lists_from 0 cycles x.inputs) (t * length is + i) (number 0)
        ∙ (lists_at 0 cycles (length is) x.inputs t i (number 0) (λ u. length-AreOfSorts is (x.inputs u) (fits.inputs u)) b c ∙ ap (λ u. get_or (x.inputs u) i (number 0)) s))))

    -- later inputs are 0
    pub values_back : ((t : ℕ) → nat_lt t cycles ≡ false → x.inputs t ≡ zero_inputs d) → values_of_run d cycles valuation_by ≡ x
    values_back later =
        λ i. record { first = same_first i; inputs = λ t. by_test t (nat_lt t cycles) refl i }
      where
        same_first : values_from 0 rs valuation_by ≡ x.first
        same_first =
            values_from_is 0 rs valuation_by x.first first_length (λ i b. let z : 0 + i ≡ i = omega arith in ap (λ n. valuation_by (decimal n)) z ∙ first_by i b)

        by_test : (t : ℕ) (q : Bool) → nat_lt t cycles ≡ q → cond q (values_from (first_input d t) is valuation_by) (zero_inputs d) ≡ x.inputs t
        by_test t true q =
            values_from_is (first_input d t) is valuation_by (x.inputs t) (length-AreOfSorts is (x.inputs t) (fits.inputs t)) (λ i c. input_by t i (below t cycles q) c)
        by_test t false q = sym (later t q)
