-- Numbers of names that are put in their places: they are in order, and those that were put and no others.
use Rattle.std.proofs.Common.{◌≡◌, ℕ, zero, suc, ◌+◌, ◌<◌, ◌≤◌, Bool, true, false, cond, ◌&&◌, ◌||◌, List, [], ◌∷◌, map, subst, refl, sym, ap, ◌∙◌, arith, eq-eqb, Option, Some, None, ◌⊎◌, inl, inr}
use Rattle.std.specs.Prelude.{nat_lt, ◌==◌, is_some}
use Rattle.std.proofs.lemmas.Bool.{ltb-false, cases_lt, false≢true}
use Rattle.wb_values.specs.Value.{Name, same_name, Value, Valuation, Entries, entry_of}
use Rattle.verilog_meaning.specs.Register.{word_count}
use Rattle.verilog_meaning.specs.Settled.{names_of}
use Rattle.verilog_unique.proofs.Options.{same_is}
use Rattle.refinement.specs.Map.{Setting, map_scope}
use Rattle.reports.specs.Report.{is_before, is_in_order, StandsFor, AreEntriesOf}
use Rattle.trace_texts.specs.Order.{with_number, in_name_order}

or_left_false : (a b : Bool) → (a || b) ≡ false → a ≡ false
or_left_false true b g = g
or_left_false false b g = refl

or_right_false : (a b : Bool) → (a || b) ≡ false → b ≡ false
or_right_false true b g = absurd (let c : true ≡ false = g in cc)
or_right_false false b g = g

and_left : (a b : Bool) → (a && b) ≡ true → a ≡ true
and_left true b g = refl
and_left false b g = g

and_right : (a b : Bool) → (a && b) ≡ true → b ≡ true
and_right true b g = g
and_right false b g = absurd (false≢true g)

-- ---- order

-- of two names that are not the same one stands before the other
other_before : (m n : Name) → same_name m n ≡ false → is_before m n ≡ false → is_before n m ≡ true
other_before [] [] e f = absurd (let c : true ≡ false = e in cc)
other_before [] (y ∷ n) e f = absurd (let c : true ≡ false = f in cc)
other_before (x ∷ m) [] e f = refl
other_before (x ∷ m) (y ∷ n) e f = by_less (nat_lt y x) refl (λ g h. other_before m n g h)
  where
    by_less : (t : Bool) → nat_lt y x ≡ t → (same_name m n ≡ false → is_before m n ≡ false → is_before n m ≡ true)
        → (nat_lt y x || ((y == x) && is_before n m)) ≡ true
    by_less true l go = rw l refl
    by_less false l go =
        let up : x ≤ y = ltb-false y x l in
        let down : y ≤ x = ltb-false x y (or_left_false (nat_lt x y) ((x == y) && is_before m n) f) in
        let same : (x == y) ≡ true = eq-eqb x y (omega arith) in
        let back : (y == x) ≡ true = eq-eqb y x (omega arith) in
        let e' : same_name m n ≡ false = subst (λ t. (t && same_name m n) ≡ false) same e in
        let f' : is_before m n ≡ false =
        subst (λ t. (t && is_before m n) ≡ false) same (or_right_false (nat_lt x y) ((x == y) && is_before m n) f) in
        let after : is_before n m ≡ true = go e' f' in
        rw (l, back, after) refl

-- the names of a table with one more
abbrev with_name : Name → List Name → List Name
with_name n [] = n ∷ []
with_name n (m ∷ ms) = cond (same_name m n) (m ∷ ms) (cond (is_before m n) (m ∷ with_name n ms) (n ∷ m ∷ ms))

names_with : (n : Name) (k : ℕ) (es : Entries ℕ) → names_of (with_number n k es) ≡ with_name n (names_of es)
names_with n k [] = refl
names_with n k (e ∷ es) = by (same_name e.0 n) (is_before e.0 n) (names_with n k es)
  where
    by : (s t : Bool) → names_of (with_number n k es) ≡ with_name n (names_of es)
        → names_of (cond s ((e.0, k) ∷ es) (cond t (e ∷ with_number n k es) ((n, k) ∷ e ∷ es)))
        ≡ cond s (e.0 ∷ names_of es) (cond t (e.0 ∷ with_name n (names_of es)) (n ∷ e.0 ∷ names_of es))
    by true t h = refl
    by false true h = ap (λ ns. e.0 ∷ ns) h
    by false false h = refl

front : (m n : Name) (ms : List Name) → is_before m n ≡ true → is_in_order (m ∷ ms) ≡ true → is_in_order (with_name n ms) ≡ true
    → is_in_order (m ∷ with_name n ms) ≡ true
front m n [] b h g = rw b refl
front m n (k ∷ ks) b h g = by_same (same_name k n) (is_before k n) g
  where
    by_same : (s t : Bool) → is_in_order (cond s (k ∷ ks) (cond t (k ∷ with_name n ks) (n ∷ k ∷ ks))) ≡ true
        → is_in_order (m ∷ cond s (k ∷ ks) (cond t (k ∷ with_name n ks) (n ∷ k ∷ ks))) ≡ true
    by_same true t g' = h
    by_same false true g' = let b' : is_before m k ≡ true = and_left _ _ h in rw (b', g') refl
    by_same false false g' = let b' : is_before m n ≡ true = b in rw (b', g') refl

name_in_order : (n : Name) (ms : List Name) → is_in_order ms ≡ true → is_in_order (with_name n ms) ≡ true
name_in_order n [] h = refl
name_in_order n (m ∷ ms) h = by_same (same_name m n) (is_before m n) refl refl (name_in_order n ms (tail_in_order m ms h))
  where
    tail_in_order : (k : Name) (ks : List Name) → is_in_order (k ∷ ks) ≡ true → is_in_order ks ≡ true
    tail_in_order k [] g = refl
    tail_in_order k (j ∷ ks) g = and_right _ _ g

    by_same : (s t : Bool) → same_name m n ≡ s → is_before m n ≡ t → is_in_order (with_name n ms) ≡ true
        → is_in_order (cond s (m ∷ ms) (cond t (m ∷ with_name n ms) (n ∷ m ∷ ms))) ≡ true
    by_same true t e f g = h
    by_same false true e f g = front m n ms f h g
    by_same false false e f g = let b : is_before n m ≡ true = other_before m n e f in rw (b, h) refl

-- ---- what is among them

abbrev is_one_of : List Name → Name → Bool
is_one_of [] k = false
is_one_of (m ∷ ms) k = same_name m k || is_one_of ms k

twice : (a b : Bool) → (a || b) ≡ (a || (a || b))
twice true b = refl
twice false b = refl

swapped : (a b r : Bool) → (a || (b || r)) ≡ (b || (a || r))
swapped true true r = refl
swapped true false r = refl
swapped false true r = refl
swapped false false r = refl

name_among : (n k : Name) (ms : List Name) → is_one_of (with_name n ms) k ≡ (same_name n k || is_one_of ms k)
name_among n k [] = refl
name_among n k (m ∷ ms) = by_same (same_name m n) (is_before m n) refl (name_among n k ms)
  where
    by_same : (s t : Bool) → same_name m n ≡ s → is_one_of (with_name n ms) k ≡ (same_name n k || is_one_of ms k)
        → is_one_of (cond s (m ∷ ms) (cond t (m ∷ with_name n ms) (n ∷ m ∷ ms))) k ≡ (same_name n k || (same_name m k || is_one_of ms k))
    by_same true t e later =
        ap (λ q. same_name q k || is_one_of ms k) (same_is m n e)
        ∙ (twice (same_name n k) (is_one_of ms k) ∙ ap (λ q. same_name n k || (same_name q k || is_one_of ms k)) (sym (same_is m n e)))
    by_same false true e later = ap (λ r. same_name m k || r) later ∙ swapped (same_name m k) (same_name n k) (is_one_of ms k)
    by_same false false e later = refl

same_name_refl : (n : Name) → same_name n n ≡ true
same_name_refl [] = refl
same_name_refl (x ∷ xs) = let e : (x == x) ≡ true = eq-eqb x x refl in rw e (same_name_refl xs)

or_right_true : (a b : Bool) → b ≡ true → (a || b) ≡ true
or_right_true true b g = refl
or_right_true false b g = g

-- ---- the numbers that are kept

module _ (name : ℕ → Name) (kept : ℕ → Bool) where
  abbrev ordered : (k n : ℕ) → Entries ℕ → Entries ℕ
  ordered k n es = in_name_order name kept k n es

  abbrev with_kept : ℕ → Entries ℕ → Entries ℕ
  with_kept k es = cond (kept k) (with_number (name k) k es) es

  kept_in_order : (k : ℕ) (es : Entries ℕ) → is_in_order (names_of es) ≡ true → is_in_order (names_of (with_kept k es)) ≡ true
  kept_in_order k es h = by (kept k)
    where
      by : (t : Bool) → is_in_order (names_of (cond t (with_number (name k) k es) es)) ≡ true
      by true = ap is_in_order (names_with (name k) k es) ∙ name_in_order (name k) (names_of es) h
      by false = h

  all_in_order : (k n : ℕ) (es : Entries ℕ) → is_in_order (names_of es) ≡ true → is_in_order (names_of (ordered k n es)) ≡ true
  all_in_order k zero es h = h
  all_in_order k (suc n) es h = all_in_order (suc k) n (with_kept k es) (kept_in_order k es h)

  -- an entry has the name of its number, which is one of the first
  abbrev IsOwn : ℕ → Name × ℕ → Type 0
  IsOwn count e = (e.1 < count) × (kept e.1 ≡ true) × (name e.1 ≡ e.0)

  abbrev AreOwn : ℕ → Entries ℕ → Type 0
  AreOwn count [] = Unit {0}
  AreOwn count (e ∷ es) = IsOwn count e × AreOwn count es

  own_with : (count k : ℕ) (es : Entries ℕ) → k < count → kept k ≡ true → AreOwn count es → AreOwn count (with_number (name k) k es)
  own_with count k [] l t h = ((l, t, refl), tt)
  own_with count k (e ∷ es) l t h = by (same_name e.0 (name k)) (is_before e.0 (name k)) refl (own_with count k es l t h.1)
    where
      by : (s b : Bool) → same_name e.0 (name k) ≡ s → AreOwn count (with_number (name k) k es)
          → AreOwn count (cond s ((e.0, k) ∷ es) (cond b (e ∷ with_number (name k) k es) ((name k, k) ∷ e ∷ es)))
      by true b same later = ((l, t, sym (same_is e.0 (name k) same)), h.1)
      by false true same later = (h.0, later)
      by false false same later = ((l, t, refl), h)

  all_own : (count k n : ℕ) (es : Entries ℕ) → k + n ≡ count → AreOwn count es → AreOwn count (ordered k n es)
  all_own count k zero es e h = h
  all_own count k (suc n) es e h = all_own count (suc k) n (with_kept k es) (omega (arith, e)) (by (kept k) refl)
    where
      by : (t : Bool) → kept k ≡ t → AreOwn count (cond t (with_number (name k) k es) es)
      by true g = own_with count k es (omega (arith, e)) g h
      by false g = h

  stays : (k n : ℕ) (es : Entries ℕ) (m : Name) → is_one_of (names_of es) m ≡ true → is_one_of (names_of (ordered k n es)) m ≡ true
  stays k zero es m h = h
  stays k (suc n) es m h = stays (suc k) n (with_kept k es) m (by (kept k))
    where
      by : (t : Bool) → is_one_of (names_of (cond t (with_number (name k) k es) es)) m ≡ true
      by true =
          ap (λ ns. is_one_of ns m) (names_with (name k) k es)
          ∙ (name_among (name k) m (names_of es) ∙ or_right_true (same_name (name k) m) (is_one_of (names_of es) m) h)
      by false = h

  put_there : (k : ℕ) (es : Entries ℕ) → kept k ≡ true → is_one_of (names_of (with_kept k es)) (name k) ≡ true
  put_there k es h =
      ap (λ t. is_one_of (names_of (cond t (with_number (name k) k es) es)) (name k)) h
      ∙ (ap (λ ns. is_one_of ns (name k)) (names_with (name k) k es)
      ∙ (name_among (name k) (name k) (names_of es) ∙ ap (λ t. t || is_one_of (names_of es) (name k)) (same_name_refl (name k))))

  all_there : (k n : ℕ) (es : Entries ℕ) (j : ℕ) → k ≤ j → j < k + n → kept j ≡ true → is_one_of (names_of (ordered k n es)) (name j) ≡ true
  all_there k zero es j l u h = absurd (omega (arith, l, u))
  all_there k (suc n) es j l u h = by (cases_lt k j) (λ m. all_there (suc k) n (with_kept k es) j (omega (arith, m)) (omega (arith, u)) h)
    where
      by : (k < j) ⊎ (j ≤ k) → (k < j → is_one_of (names_of (ordered (suc k) n (with_kept k es))) (name j) ≡ true)
          → is_one_of (names_of (ordered (suc k) n (with_kept k es))) (name j) ≡ true
      by (inl m) later = later m
      by (inr m) later =
          let here : j ≡ k = omega (arith, l, m) in
          stays (suc k) n (with_kept k es) (name j)
          (subst (λ i. is_one_of (names_of (with_kept k es)) (name i) ≡ true) (sym here) (put_there k es (subst (λ i. kept i ≡ true) here h)))

  -- ---- entries with values

  module _ (value : ℕ → Value) where
    abbrev told : Entries ℕ → Entries Value
    told es = map (λ k. (name k, value k)) (map (λ e. e.1) es)

    told_names : (count : ℕ) (es : Entries ℕ) → AreOwn count es → names_of (told es) ≡ names_of es
    told_names count [] h = refl
    told_names count (e ∷ es) h = (λ i. h.0.2 i ∷ told_names count es h.1 i)

    is_there : (es : Entries ℕ) (n : Name) → is_some (entry_of (told es) n) ≡ is_one_of (names_of (told es)) n
    is_there [] n = refl
    is_there (e ∷ es) n = by (same_name (name e.1) n) (is_there es n)
      where
        by : (t : Bool) → is_some (entry_of (told es) n) ≡ is_one_of (names_of (told es)) n
            → is_some (cond t (Some (value e.1)) (entry_of (told es) n)) ≡ (t || is_one_of (names_of (told es)) n)
        by true h = refl
        by false h = h

    -- the number of an entry
    abbrev HasNumber : ℕ → Name → Value → Type 0
    HasNumber count n x = (k : ℕ) × (k < count) × (kept k ≡ true) × (name k ≡ n) × (value k ≡ x)

    number_of : (count : ℕ) (es : Entries ℕ) (n : Name) (x : Value) → AreOwn count es → entry_of (told es) n ≡ Some x → HasNumber count n x
    number_of count [] n x h e = cc
    number_of count (f ∷ es) n x h e = by (same_name (name f.1) n) refl e (number_of count es n x h.1)
      where
        by : (t : Bool) → same_name (name f.1) n ≡ t → cond t (Some (value f.1)) (entry_of (told es) n) ≡ Some x
            → (entry_of (told es) n ≡ Some x → HasNumber count n x) → HasNumber count n x
        by true g s later = (f.1, h.0.0, h.0.1, same_is (name f.1) n g, cc)
        by false g s later = later s

    below_sum : (count k : ℕ) → k < count → k < 0 + count
    below_sum count k l = omega (arith, l)

    -- what is some is something
    some_value : (o : Option Value) → is_some o ≡ true → (x : Value) × (o ≡ Some x)
    some_value None h = absurd (false≢true h)
    some_value (Some x) h = (x, refl)

    pub are_entries : (s : Setting) (IsWanted : Name → Type 0) (count : ℕ) (v : Valuation)
        → ((k : ℕ) → k < count → kept k ≡ true → IsWanted (name k))
        → ((n : Name) → IsWanted n → (k : ℕ) × (k < count) × (kept k ≡ true) × (name k ≡ n))
        → ((k : ℕ) → k < count → kept k ≡ true → StandsFor (word_count (map_scope s (name k))) (value k) (v (name k)))
        → AreEntriesOf s IsWanted (told (ordered 0 count [])) v
    are_entries s IsWanted count v wanted there stands =
        let es = ordered 0 count [] in
        let own : AreOwn count es = all_own count 0 count [] (omega arith) tt in
        let names : names_of (told es) ≡ names_of es = told_names count es own in
        record {
          in_order = ap is_in_order names ∙ all_in_order 0 count [] refl;
          wanted = λ n. (
            λ h. let x = some_value (entry_of (told es) n) h in
                let k = number_of count es n x.0 own x.1 in
                subst IsWanted k.3 (wanted k.0 k.1 k.2),
            λ w. let k = there n w in
                let here : is_one_of (names_of es) (name k.0) ≡ true = all_there 0 count [] k.0 (omega arith) (below_sum count k.0 k.1) k.2 in
                is_there es n ∙ (ap (λ ns. is_one_of ns n) names ∙ subst (λ m. is_one_of (names_of es) m ≡ true) k.3 here),
          );
          values = λ n x e.
              let k = number_of count es n x own e in
              subst (λ m. StandsFor (word_count (map_scope s m)) x (v m)) k.3
              (subst (λ y. StandsFor (word_count (map_scope s (name k.0))) y (v (name k.0))) k.4 (stands k.0 k.1 k.2));
        }
