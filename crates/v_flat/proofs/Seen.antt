-- Names by numbers tell the module and the name. So for each valuation of dotted names there is one that has the same values under them.
use Rattle.std.proofs.Common.{◌≡◌, ◌∙◌, ℕ, zero, suc, ◌+◌, ◌≤◌, ◌<◌, ◌^◌, Bool, true, false, cond, List, [], ◌∷◌, ◌++◌, length, inl, inr, refl, sym, ap, subst, Some, arith}
use Rattle.std.specs.Prelude.{◌==◌, slice_get}
use Rattle.std.specs.Fmt.{decimal}
use Rattle.std.proofs.lemmas.Bool.{eqb-true}
use Rattle.std.proofs.lemmas.Fmt.{decimal_injective}
use Rattle.wb_values.specs.Value.{Name, same_name, Valuation}
use Rattle.verilog_meaning.specs.Hierarchy.{PathStep, Placed, dotted}
use Rattle.verilog_meaning.specs.Settled.{Design, IsPlacedIn}
use Rattle.verilog_unique.proofs.Options.{same_is, is_same, not_true}
use Rattle.verilog_exists.proofs.Dots.{Plain}
use Rattle.flat_designs.specs.Flat.{IsSeenAs}
use Rattle.v_places.specs.Below.{Spot}
use Rattle.v_places.proofs.Spots.{same_some}
use Rattle.v_flat.specs.Paths.{paths_of}
use Rattle.v_flat.specs.Numbered.{number_among, numbered}
use Rattle.v_flat.specs.Whole.{IsPlacing}
use Rattle.v_flat.proofs.Places.{paths_length}
use Rattle.v_flat.proofs.Whole.{IsFound, found}
use Rattle.v_flat.proofs.Numbers.{plain_decimal, with_dot, number_of_placed, below_all}

-- ---- the first dot

abbrev pub before_dot : List ℕ → List ℕ
before_dot [] = []
before_dot (c ∷ cs) = cond (c == 46) [] (c ∷ before_dot cs)

abbrev pub after_dot : List ℕ → List ℕ
after_dot [] = []
after_dot (c ∷ cs) = cond (c == 46) cs (after_dot cs)

no_dot : (c : ℕ) (cs : List ℕ) → Plain (c ∷ cs) → (c == 46) ≡ false
no_dot c cs p = not_true (c == 46) (λ t. p (inl (eqb-true c 46 t)))

pub before_is : (ds n : List ℕ) → Plain ds → before_dot (ds ++ 46 ∷ n) ≡ ds
before_is [] n p = refl
before_is (d ∷ ds) n p =
    ap (λ t. cond t [] (d ∷ before_dot (ds ++ 46 ∷ n))) (no_dot d ds p) ∙ ap (λ xs. d ∷ xs) (before_is ds n (λ h. p (inr h)))

pub after_is : (ds n : List ℕ) → Plain ds → after_dot (ds ++ 46 ∷ n) ≡ n
after_is [] n p = refl
after_is (d ∷ ds) n p = ap (λ t. cond t (ds ++ 46 ∷ n) (after_dot (ds ++ 46 ∷ n))) (no_dot d ds p) ∙ after_is ds n (λ h. p (inr h))

-- ---- the path with a number

-- the path whose number is this text, where the first has number k
abbrev pub path_by : List (List PathStep) → (k : ℕ) → Name → List PathStep
path_by [] k ds = []
path_by (q ∷ qs) k ds = cond (same_name (decimal k) ds) q (path_by qs (k + 1) ds)

path_at : (qs : List (List PathStep)) (k j : ℕ) (q : List PathStep) → slice_get qs j ≡ Some q → k + length qs ≤ 2 ^ 64 → j < length qs
    → path_by qs k (decimal (k + j)) ≡ q
path_at [] k j q e few low = cc
path_at (p ∷ ps) k zero q e few low =
    let none : k ≡ k + 0 = omega arith in
    ap (λ t. cond t p (path_by ps (k + 1) (decimal (k + 0)))) (subst (λ i. same_name (decimal k) (decimal i) ≡ true) none (is_same (decimal k))) ∙ same_some p q e
path_at (p ∷ ps) k (suc j) q e few low =
    let next : k + 1 + j ≡ k + suc j = omega arith in
    ap (λ t. cond t p (path_by ps (k + 1) (decimal (k + suc j))))
    (not_true (same_name (decimal k) (decimal (k + suc j)))
    (λ t. let z = decimal_injective k (k + suc j) (omega (arith, few, low)) (omega (arith, few, low)) (same_is (decimal k) (decimal (k + suc j)) t) in absurd (omega (arith, z))))
    ∙ ap (λ i. path_by ps (k + 1) (decimal i)) (sym next)
    ∙ path_at ps (k + 1) j q e (omega (arith, few)) (omega (arith, low))

-- the dotted name of what has this name by a number
abbrev pub told : List (List PathStep) → Name → Name
told qs m = dotted (path_by qs 0 (before_dot m)) (after_dot m)

module _ (d : Design) (spots : List Spot) (h : IsPlacing d spots) (few : length spots < 2 ^ 64) where
  abbrev number : Placed → ℕ
  number p = number_among (paths_of spots) p.path

  number_tells : (p : Placed) → IsPlacedIn d p → path_by (paths_of spots) 0 (decimal (number p)) ≡ p.path
  number_tells p at =
      let f : IsFound d spots p = found d spots h p at in
      let e : number p ≡ f.number = number_of_placed false d spots h few p at in
      let there : slice_get (paths_of spots) (number p) ≡ Some f.path = subst (λ k. slice_get (paths_of spots) k ≡ Some f.path) (sym e) f.stands.is_at.is_there in
      let many : length (paths_of spots) ≡ 0 + length spots = paths_length [] spots in
      let none : number p ≡ 0 + number p = omega arith in
      ap (λ i. path_by (paths_of spots) 0 (decimal i)) none
      ∙ path_at (paths_of spots) 0 (number p) f.path there (omega (arith, many, few)) (within (paths_of spots) (number p) f.path there)
      ∙ ap (λ (z : Placed). z.path) f.is_placed
    where
      within : (qs : List (List PathStep)) (k : ℕ) (q : List PathStep) → slice_get qs k ≡ Some q → k < length qs
      within [] k q e = cc
      within (p ∷ ps) zero q e = omega arith
      within (p ∷ ps) (suc k) q e = let r = within ps k q e in omega (arith, r)

  pub name_tells : (p : Placed) (n : Name) → IsPlacedIn d p → told (paths_of spots) (numbered false spots p.path n) ≡ dotted p.path n
  name_tells p n at =
      let plain = plain_decimal (number p) (below_all false d spots h few p at) in
      ap (told (paths_of spots)) (with_dot false (number p) n refl)
      ∙ ap (λ ds. dotted (path_by (paths_of spots) 0 ds) (after_dot (decimal (number p) ++ 46 ∷ n))) (before_is (decimal (number p)) n plain)
      ∙ ap (dotted (path_by (paths_of spots) 0 (decimal (number p)))) (after_is (decimal (number p)) n plain)
      ∙ ap (λ path. dotted path n) (number_tells p at)

  -- Under each name by a number stands what a valuation has under the dotted name.
  pub numbers_are_seen : (v : Valuation) → (w : Valuation) × IsSeenAs d (numbered false spots) v w
  numbers_are_seen v = (λ m. v (told (paths_of spots) m), λ p n at. ap v (name_tells p n at))
