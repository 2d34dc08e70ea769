-- Names in the order of their bytes.
use Rattle.std.proofs.Common.{◌≡◌, ℕ, ◌≤◌, Bool, true, false, ◌&&◌, ◌||◌, [], ◌∷◌, refl, sym, ◌∙◌, subst, arith, Ordering, Less, Equal, Greater}
use Rattle.std.specs.Prelude.{nat_lt, ◌==◌}
use Rattle.std.specs.Ordering.{nat_cmp, is_lt}
use Rattle.std.specs.Cmp.Lexicographic.{slice_cmp}
use Rattle.std.proofs.lemmas.Bool.{false≢true, ltb-false, eq-eqb}
use Rattle.std.proofs.lemmas.Bool.Decides.{nat_tests}
use Rattle.std.proofs.lemmas.Cmp.{same_from_slice_cmp}
use Rattle.wb_values.specs.Value.{Name}
use Rattle.reports.specs.Report.{is_before}

is_before-cmp : (m n : Name) → is_lt (slice_cmp nat_cmp m n) ≡ is_before m n
is_before-cmp m n =
    same_from_slice_cmp nat_cmp is_lt is_before refl (λ _ _. refl) (λ _ _. refl) (λ x y xs ys o h. grind (arith, nat_tests)) m n (slice_cmp nat_cmp m n) refl

is_less : (o : Ordering) → is_lt o ≡ true → o ≡ Less
is_less Less e = refl
is_less Equal e = absurd (false≢true e)
is_less Greater e = absurd (false≢true e)

pub less : (m n : Name) → is_before m n ≡ true → slice_cmp nat_cmp m n ≡ Less
less m n e = is_less (slice_cmp nat_cmp m n) (is_before-cmp m n ∙ e)

or_left_false : (a b : Bool) → (a || b) ≡ false → a ≡ false
or_left_false true b g = g
or_left_false false b g = refl

or_right_false : (a b : Bool) → (a || b) ≡ false → b ≡ false
or_right_false true b g = absurd (false≢true (sym g))
or_right_false false b g = g

-- two names of which neither stands before the other
pub neither : (m n : Name) → is_before m n ≡ false → is_before n m ≡ false → m ≡ n
neither [] [] e f = refl
neither [] (y ∷ n) e f = absurd (false≢true (sym e))
neither (x ∷ m) [] e f = absurd (false≢true (sym f))
neither (x ∷ m) (y ∷ n) e f =
    let up : y ≤ x = ltb-false x y (or_left_false (nat_lt x y) ((x == y) && is_before m n) e) in
    let down : x ≤ y = ltb-false y x (or_left_false (nat_lt y x) ((y == x) && is_before n m) f) in
    let same : x ≡ y = omega (arith, up, down) in
    let e' : is_before m n ≡ false = tail x y m n same (or_right_false (nat_lt x y) ((x == y) && is_before m n) e) in
    let f' : is_before n m ≡ false = tail y x n m (sym same) (or_right_false (nat_lt y x) ((y == x) && is_before n m) f) in
    let rest : m ≡ n = neither m n e' f' in
    λ i. same i ∷ rest i
  where
    tail : (a b : ℕ) (k l : Name) → a ≡ b → ((a == b) && is_before k l) ≡ false → is_before k l ≡ false
    tail a b k l same g = subst (λ t. (t && is_before k l) ≡ false) (eq-eqb a b same) g
