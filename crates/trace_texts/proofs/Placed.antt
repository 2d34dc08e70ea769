-- A table of names with one name more: the name stands in its place.
use Rattle.std.proofs.Common.{◌≡◌, ℕ, ◌<◌, ◌≤◌, Bool, true, false, cond, List, [], ◌∷◌, refl, ap, ◌∙◌, arith, eq-eqb, ne_eqb}
use Rattle.std.specs.Prelude.{nat_lt, ◌==◌}
use Rattle.std.specs.Borrow.{Bor}
use Rattle.std.specs.Ordering.{nat_cmp, match_ordering}
use Rattle.std.specs.Cmp.Lexicographic.{slice_cmp}
use Rattle.std.specs.BTreeMap.{insert_entry}
use Rattle.std.proofs.lemmas.Bool.{le-ltb, ltb-true, ltb-false}
use Rattle.wb_values.specs.Value.{Name, same_name}
use Rattle.reports.specs.Report.{is_before}
use Rattle.trace_texts.specs.Numbers.{numbers_in}
use Rattle.trace_texts.specs.Order.{with_number}

-- the order of slices is that of the names
chosen : {A : Type 0} (n m : Name) (below same above : A)
    → match_ordering (slice_cmp nat_cmp n m) below same above ≡ cond (same_name m n) same (cond (is_before m n) above below)
chosen [] [] below same above = refl
chosen [] (y ∷ m) below same above = refl
chosen (x ∷ n) [] below same above = refl
chosen (x ∷ n) (y ∷ m) below same above = by_less (nat_lt x y) (nat_lt y x) refl refl (chosen n m below same above)
  where
    by_less : (s t : Bool) → nat_lt x y ≡ s → nat_lt y x ≡ t
        → match_ordering (slice_cmp nat_cmp n m) below same above ≡ cond (same_name m n) same (cond (is_before m n) above below)
        → match_ordering (slice_cmp nat_cmp (x ∷ n) (y ∷ m)) below same above
        ≡ cond (same_name (y ∷ m) (x ∷ n)) same (cond (is_before (y ∷ m) (x ∷ n)) above below)
    by_less true t e f later =
        let less : x < y = ltb-true x y e in
        let other : (y == x) ≡ false = ne_eqb y x (omega arith) in
        let back : nat_lt y x ≡ false = le-ltb y x (omega arith) in
        rw (e, other, back) refl
    by_less false true e f later =
        let less : y < x = ltb-true y x f in
        let other : (y == x) ≡ false = ne_eqb y x (omega arith) in
        let turned : (x == y) ≡ false = ne_eqb x y (omega arith) in
        rw (e, f, other, turned) refl
    by_less false false e f later =
        let up : y ≤ x = ltb-false x y e in
        let down : x ≤ y = ltb-false y x f in
        let equal : (y == x) ≡ true = eq-eqb y x (omega arith) in
        let turned : (x == y) ≡ true = eq-eqb x y (omega arith) in
        rw (e, f, equal, turned) later

abbrev pub with_entry : List (Bor (List ℕ) × ℕ) → Bor (List ℕ) → ℕ → List (Bor (List ℕ) × ℕ)
with_entry es k v = insert_entry (λ x y. slice_cmp nat_cmp x.now y.now) es k v

pub placed : (es : List (Bor (List ℕ) × ℕ)) (k : Bor (List ℕ)) (v : ℕ) → numbers_in (with_entry es k v) ≡ with_number k.now v (numbers_in es)
placed [] k v = refl
placed (e ∷ es) k v =
    ap numbers_in (chosen k.now e.0.now ((k, v) ∷ e ∷ es) ((e.0, v) ∷ es) (e ∷ with_entry es k v))
    ∙ by_place (same_name e.0.now k.now) (is_before e.0.now k.now) (placed es k v)
  where
    by_place : (s t : Bool) → numbers_in (with_entry es k v) ≡ with_number k.now v (numbers_in es)
        → numbers_in (cond s ((e.0, v) ∷ es) (cond t (e ∷ with_entry es k v) ((k, v) ∷ e ∷ es)))
        ≡ cond s ((e.0.now, v) ∷ numbers_in es) (cond t ((e.0.now, e.1) ∷ with_number k.now v (numbers_in es)) ((k.now, v) ∷ (e.0.now, e.1) ∷ numbers_in es))
    by_place true t h = refl
    by_place false true h = ap (λ ns. (e.0.now, e.1) ∷ ns) h
    by_place false false h = refl
