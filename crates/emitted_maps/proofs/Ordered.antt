-- Names in the order of their bytes: a list in order that has the same names is the one of the definition.
use Rattle.std.proofs.Common.{◌≡◌, ℕ, suc, ◌+◌, ◌<◌, ◌≤◌, Bool, true, false, cond, ◌&&◌, ◌||◌, List, [], ◌∷◌, map, length, get_or, refl, sym, ap, ◌∙◌, subst, arith, Ordering, Less, Equal, Greater}
use Rattle.std.specs.Prelude.{⊤, nat_lt, ◌==◌}
use Rattle.std.specs.Borrow.{Bor}
use Rattle.std.specs.Ordering.{nat_cmp, is_lt, ordering_reverse}
use Rattle.std.specs.Cmp.Lexicographic.{slice_cmp}
use Rattle.std.specs.List.{sum_by}
use Rattle.std.specs.List.Sorted.{IsPermutation, IsSorted}
use Rattle.std.proofs.lemmas.Bool.{false≢true, ltb-false, eq-eqb}
use Rattle.std.proofs.lemmas.Bool.Decides.{nat_tests}
use Rattle.std.proofs.lemmas.Cmp.{nat_list_cmp_total, same_from_slice_cmp}
use Rattle.std.proofs.lemmas.List.Sorted.{ranks_by, sorted_far, sum_by-IsPermutation, IsPermutation-map}
use Rattle.std.proofs.lemmas.List.Sums.{sum_by-cons}
use Rattle.std.proofs.lemmas.Slice.Eq.{bytes_eq-Decides}
use Rattle.wb_values.specs.Value.{Name, same_name}
use Rattle.reports.specs.Report.{is_before}
use Rattle.emitted_designs.specs.Map.{with_key, in_byte_order}

-- ---- the order

is_before-cmp : (m n : Name) → is_lt (slice_cmp nat_cmp m n) ≡ is_before m n
is_before-cmp m n =
    same_from_slice_cmp nat_cmp is_lt is_before refl (λ _ _. refl) (λ _ _. refl) (λ x y xs ys o h. grind (arith, nat_tests)) m n (slice_cmp nat_cmp m n) refl

is_less : (o : Ordering) → is_lt o ≡ true → o ≡ Less
is_less Less e = refl
is_less Equal e = absurd (false≢true e)
is_less Greater e = absurd (false≢true e)

less : (m n : Name) → is_before m n ≡ true → slice_cmp nat_cmp m n ≡ Less
less m n e = is_less (slice_cmp nat_cmp m n) (is_before-cmp m n ∙ e)

not_back : (m n : Name) → is_before m n ≡ true → is_before n m ≡ false
not_back m n e =
    sym (is_before-cmp n m) ∙ ap is_lt (nat_list_cmp_total.antisymm n m ∙ ap ordering_reverse (less m n e))

onward : (k m n : Name) → is_before k m ≡ true → is_before m n ≡ true → is_before k n ≡ true
onward k m n e f = sym (is_before-cmp k n) ∙ ap is_lt (nat_list_cmp_total.trans k m n (less k m e) (less m n f))

or_left_false : (a b : Bool) → (a || b) ≡ false → a ≡ false
or_left_false true b g = g
or_left_false false b g = refl

or_right_false : (a b : Bool) → (a || b) ≡ false → b ≡ false
or_right_false true b g = absurd (false≢true (sym g))
or_right_false false b g = g

-- two names of which neither stands before the other
neither : (m n : Name) → is_before m n ≡ false → is_before n m ≡ false → m ≡ n
neither [] [] e f = refl
neither [] (y ∷ n) e f = absurd (false≢true (sym e))
neither (x ∷ m) [] e f = absurd (false≢true (sym f))
neither (x ∷ m) (y ∷ n) e f =
    let up : y ≤ x = ltb-false x y (or_left_false (nat_lt x y) ((x == y) && is_before m n) e) in
    let down : x ≤ y = ltb-false y x (or_left_false (nat_lt y x) ((y == x) && is_before n m) f) in
    let same : x ≡ y = omega (arith, up, down) in
    let e' : is_before m n ≡ false = tail x y m n same (or_right_false (nat_lt x y) ((x == y) && is_before m n) e) in
    let f' : is_before n m ≡ false = tail y x n m (sym same) (or_right_false (nat_lt y x) ((y == x) && is_before n m) f) in
    let rest : m ≡ n = neither m n e' f' in
    λ i. same i ∷ rest i
  where
    tail : (a b : ℕ) (k l : Name) → a ≡ b → ((a == b) && is_before k l) ≡ false → is_before k l ≡ false
    tail a b k l same g = subst (λ t. (t && is_before k l) ≡ false) (eq-eqb a b same) g

same_is : (m n : Name) → same_name m n ≡ true → m ≡ n
same_is m n h = (bytes_eq-Decides m n).0 h

same_itself : (n : Name) → same_name n n ≡ true
same_itself n = (bytes_eq-Decides n n).1 refl

-- ---- lists in order

abbrev AreFrom : Name → List Name → Type 0
AreFrom k [] = ⊤
AreFrom k (n ∷ ns) = (is_before n k ≡ false) × AreFrom k ns

abbrev Rises : List Name → Type 0
Rises [] = ⊤
Rises (n ∷ ns) = AreFrom n ns × Rises ns

from_lower : (n k : Name) (ks : List Name) → is_before n k ≡ true → AreFrom k ks → AreFrom n ks
from_lower n k [] e h = tt
from_lower n k (m ∷ ms) e h = (by (is_before m n) refl, from_lower n k ms e h.1)
  where
    by : (t : Bool) → is_before m n ≡ t → is_before m n ≡ false
    by true f = absurd (false≢true (sym h.0 ∙ onward m n k f e))
    by false f = f

from_with : (k n : Name) (ks : List Name) → is_before n k ≡ false → AreFrom k ks → AreFrom k (with_key n ks)
from_with k n [] e h = (e, tt)
from_with k n (m ∷ ms) e h = by (is_before n m) (from_with k n ms e h.1)
  where
    by : (t : Bool) → AreFrom k (with_key n ms) → AreFrom k (cond t (n ∷ m ∷ ms) (m ∷ with_key n ms))
    by true later = (e, h)
    by false later = (h.0, later)

rises_with : (n : Name) (ks : List Name) → Rises ks → Rises (with_key n ks)
rises_with n [] h = (tt, tt)
rises_with n (k ∷ ks) h = by (is_before n k) refl (rises_with n ks h.1)
  where
    by : (t : Bool) → is_before n k ≡ t → Rises (with_key n ks) → Rises (cond t (n ∷ k ∷ ks) (k ∷ with_key n ks))
    by true e later = ((not_back n k e, from_lower n k ks e h.0), h)
    by false e later = (from_with k n ks e h.0, later)

rises_in_order : (ns : List Name) → Rises (in_byte_order ns)
rises_in_order [] = tt
rises_in_order (n ∷ ns) = rises_with n (in_byte_order ns) (rises_in_order ns)

-- ---- how often a name stands in a list

abbrev one_if : Bool → ℕ
one_if t = cond t 1 0

abbrev count : Name → List Name → ℕ
count n [] = 0
count n (k ∷ ks) = one_if (same_name n k) + count n ks

count_with : (z n : Name) (ks : List Name) → count z (with_key n ks) ≡ one_if (same_name z n) + count z ks
count_with z n [] = refl
count_with z n (k ∷ ks) = by (is_before n k) (count_with z n ks)
  where
    by : (t : Bool) → count z (with_key n ks) ≡ one_if (same_name z n) + count z ks
        → count z (cond t (n ∷ k ∷ ks) (k ∷ with_key n ks)) ≡ one_if (same_name z n) + (one_if (same_name z k) + count z ks)
    by true later = refl
    by false later = omega (arith, later)

count_in_order : (z : Name) (ns : List Name) → count z (in_byte_order ns) ≡ count z ns
count_in_order z [] = refl
count_in_order z (n ∷ ns) = count_with z n (in_byte_order ns) ∙ ap (λ c. one_if (same_name z n) + c) (count_in_order z ns)

count_sum : (z : Name) (ns : List Name) → count z ns ≡ sum_by (λ n. one_if (same_name z n)) ns
count_sum z [] = refl
count_sum z (n ∷ ns) =
    ap (λ c. one_if (same_name z n) + c) (count_sum z ns) ∙ sym (sum_by-cons (λ n. one_if (same_name z n)) n ns)

count_moved : (z : Name) (ms ns : List Name) → IsPermutation ms ns → count z ns ≡ count z ms
count_moved z ms ns p =
    count_sum z ns ∙ (sum_by-IsPermutation (λ n. one_if (same_name z n)) ms ns p ∙ sym (count_sum z ms))

-- a name below all of a list
none_of : (x y : Name) (zs : List Name) → is_before x y ≡ true → AreFrom y zs → count x zs ≡ 0
none_of x y [] e h = refl
none_of x y (z ∷ zs) e h = by (same_name x z) refl (none_of x y zs e h.1)
  where
    by : (t : Bool) → same_name x z ≡ t → count x zs ≡ 0 → one_if t + count x zs ≡ 0
    by true s later = absurd (false≢true (sym h.0 ∙ subst (λ n. is_before n y ≡ true) (same_is x z s) e))
    by false s later = omega (arith, later)

one_more : (x : Name) (xs : List Name) → count x (x ∷ xs) ≡ suc (count x xs)
one_more x xs = ap (λ t. one_if t + count x xs) (same_itself x) ∙ next (count x xs)
  where
    next : (n : ℕ) → 1 + n ≡ suc n
    next n = omega arith

-- the first of a list is not below the first of another one that has it
not_below : (x y : Name) (xs ys : List Name) → AreFrom y ys → count x (x ∷ xs) ≡ count x (y ∷ ys) → is_before x y ≡ false
not_below x y xs ys h c = by (is_before x y) refl
  where
    by : (t : Bool) → is_before x y ≡ t → is_before x y ≡ false
    by true e =
        let itself : is_before y y ≡ false = alone (is_before y y) refl in
        let none : count x (y ∷ ys) ≡ 0 = none_of x y (y ∷ ys) e (itself, h) in
        let some : count x (x ∷ xs) ≡ suc (count x xs) = one_more x xs in
        absurd (omega (arith, c, none, some))
      where
        alone : (t : Bool) → is_before y y ≡ t → is_before y y ≡ false
        alone true f = not_back y y f
        alone false f = f
    by false e = e

one_list : (xs ys : List Name) → Rises xs → Rises ys → ((z : Name) → count z xs ≡ count z ys) → xs ≡ ys
one_list [] [] r s h = refl
one_list [] (y ∷ ys) r s h = let c = h y in let some = one_more y ys in absurd (omega (arith, c, some))
one_list (x ∷ xs) [] r s h = let c = h x in let some = one_more x xs in absurd (omega (arith, c, some))
one_list (x ∷ xs) (y ∷ ys) r s h =
    let same : x ≡ y = neither x y (not_below x y xs ys s.0 (h x)) (not_below y x ys xs r.0 (sym (h y))) in
    let rest : xs ≡ ys = one_list xs ys r.1 s.1 (λ z. less_one z same (h z)) in
    λ i. same i ∷ rest i
  where
    less_one : (z : Name) → x ≡ y → one_if (same_name z x) + count z xs ≡ one_if (same_name z y) + count z ys → count z xs ≡ count z ys
    less_one z same c = let e : one_if (same_name z x) ≡ one_if (same_name z y) = ap (λ n. one_if (same_name z n)) same in omega (arith, c, e)

-- ---- borrowed names that are sorted

abbrev pub names_in : List (Bor (List ℕ)) → List Name
names_in xs = map (λ x. x.now) xs

abbrev by_bytes : Bor (List ℕ) → Bor (List ℕ) → Ordering
by_bytes x y = slice_cmp nat_cmp x.now y.now

all_from : (x : Bor (List ℕ)) (ys : List (Bor (List ℕ)))
    → ((j : ℕ) (d : Bor (List ℕ)) → j < length ys → is_lt (by_bytes (get_or ys j d) x) ≡ false) → AreFrom x.now (names_in ys)
all_from x [] h = tt
all_from x (y ∷ ys) h = (sym (is_before-cmp y.now x.now) ∙ h 0 y (omega arith), all_from x ys (λ j d l. h (suc j) d (omega (arith, l))))

rises_from : (xs : List (Bor (List ℕ)))
    → ((i j : ℕ) (d : Bor (List ℕ)) → i ≤ j → j < length xs → is_lt (by_bytes (get_or xs j d) (get_or xs i d)) ≡ false) → Rises (names_in xs)
rises_from [] h = tt
rises_from (x ∷ xs) h = (
  all_from x xs (λ j d l. h 0 (suc j) d (omega arith) (omega (arith, l))),
  rises_from xs (λ i j d a l. h (suc i) (suc j) d (omega (arith, a)) (omega (arith, l))),
)

-- what a sort makes
pub sorted_names : (old new : List (Bor (List ℕ))) → IsPermutation old new → IsSorted (λ x y. slice_cmp nat_cmp x.now y.now) new
    → names_in new ≡ in_byte_order (names_in old)
sorted_names old new p up =
    let far = sorted_far (λ x y. is_lt (by_bytes x y)) (ranks_by nat_list_cmp_total (λ (x : Bor (List ℕ)). x.now)) new up in
    one_list (names_in new) (in_byte_order (names_in old)) (rises_from new far) (rises_in_order (names_in old))
    (λ z. count_moved z (names_in old) (names_in new) (IsPermutation-map (λ x. x.now) old new p) ∙ sym (count_in_order z (names_in old)))
