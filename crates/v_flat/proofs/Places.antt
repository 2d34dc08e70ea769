-- The modules of a list of places by their numbers: their paths, and the module around each.
use Rattle.std.proofs.Common.{◌≡◌, ℕ, zero, suc, ◌+◌, ◌<◌, ◌≤◌, List, [], ◌∷◌, ◌++◌, length, ◌⊎◌, inl, inr, refl, sym, ap, ◌∙◌, subst, Option, Some, None, arith}
use Rattle.std.specs.Prelude.{slice_get}
use Rattle.std.proofs.lemmas.List.{length-append}
use Rattle.verilog_meaning.specs.Hierarchy.{PathStep, instance_step, Placed}
use Rattle.verilog_unique.proofs.Descent.{contains_among}
use Rattle.verilog_renamed.proofs.Paths.{ap2}
use Rattle.flat_designs.specs.Edge.{StandApart}
use Rattle.v_places.specs.Below.{Spot}
use Rattle.v_places.specs.Places.{placed_by}
use Rattle.v_places.proofs.Spots.{get_among, get_within, within_get, same_some}
use Rattle.v_flat.specs.Paths.{path_below, paths_after, paths_of, placed_at_paths, placed_of}

-- ---- lists

get_front : {A : Type 0} (xs ys : List A) (k : ℕ) (x : A) → slice_get xs k ≡ Some x → slice_get (xs ++ ys) k ≡ Some x
get_front [] ys k x e = cc
get_front (y ∷ xs) ys zero x e = e
get_front (y ∷ xs) ys (suc k) x e = get_front xs ys k x e

get_here : {A : Type 0} (xs ys : List A) (y : A) → slice_get (xs ++ y ∷ ys) (length xs) ≡ Some y
get_here [] ys y = refl
get_here (x ∷ xs) ys y = get_here xs ys y

get_past : {A : Type 0} (xs : List A) (k : ℕ) → slice_get xs k ≡ None → length xs ≤ k
get_past [] k e = omega arith
get_past (x ∷ xs) zero e = cc
get_past (x ∷ xs) (suc k) e = let f = get_past xs k e in omega (arith, f)

-- ---- paths

path_kept : (before : List (List PathStep)) (xs : List Spot) (k : ℕ) (q : List PathStep) → slice_get before k ≡ Some q → slice_get (paths_after before xs) k ≡ Some q
path_kept before [] k q e = e
path_kept before (x ∷ xs) k q e =
    path_kept (before ++ path_below (slice_get before x.parent) x.instance ∷ []) xs k q
    (get_front before (path_below (slice_get before x.parent) x.instance ∷ []) k q e)

-- The module around it comes before it, and it stands a step below that; or none comes before it, and it stands at the top.
pub record IsIn (paths : List (List PathStep)) (k : ℕ) (x : Spot) (q : List PathStep) : Type 0 where
  pub around : List PathStep
  pub is_around : slice_get paths x.parent ≡ Some around
  pub before : x.parent < k
  pub is_path : q ≡ instance_step x.instance ∷ around

pub record IsOnTop (k : ℕ) (x : Spot) (q : List PathStep) : Type 0 where
  pub first : k ≤ x.parent
  pub is_path : q ≡ []

abbrev pub IsPath : List (List PathStep) → ℕ → Spot → List PathStep → Type 0
IsPath paths k x q = IsIn paths k x q ⊎ IsOnTop k x q

record PathAt (paths : List (List PathStep)) (k : ℕ) (x : Spot) : Type 0 where
  path : List PathStep
  is_there : slice_get paths k ≡ Some path
  is_path : IsPath paths k x path

path_here : (before : List (List PathStep)) (y : Spot) (xs : List Spot) (o : Option (List PathStep)) → slice_get before y.parent ≡ o
    → IsPath (paths_after (before ++ path_below (slice_get before y.parent) y.instance ∷ []) xs) (length before) y (path_below o y.instance)
path_here before y xs None e = inr (record { first = get_past before y.parent e; is_path = refl })
path_here before y xs (Some around) e =
    inl (record {
      around = around;
      is_around = path_kept (before ++ path_below (slice_get before y.parent) y.instance ∷ []) xs y.parent around
          (get_front before (path_below (slice_get before y.parent) y.instance ∷ []) y.parent around e);
      before = get_within before y.parent around e;
      is_path = refl;
    })

path_at : (before : List (List PathStep)) (xs : List Spot) (k : ℕ) (x : Spot) → slice_get xs k ≡ Some x → PathAt (paths_after before xs) (length before + k) x
path_at before [] k x e = cc
path_at before (y ∷ xs) zero x e =
    let p : List PathStep = path_below (slice_get before y.parent) y.instance in
    let number : length before ≡ length before + 0 = omega arith in
    subst (λ j. PathAt (paths_after (before ++ p ∷ []) xs) j x) number
    (subst (PathAt (paths_after (before ++ p ∷ []) xs) (length before)) (same_some y x e)
    (record {
      path = p;
      is_there = path_kept (before ++ p ∷ []) xs (length before) p (get_here before [] p);
      is_path = path_here before y xs (slice_get before y.parent) refl;
    }))
path_at before (y ∷ xs) (suc k) x e =
    let p : List PathStep = path_below (slice_get before y.parent) y.instance in
    let one : length (before ++ p ∷ []) ≡ length before + 1 = length-append before (p ∷ []) in
    let number : length (before ++ p ∷ []) + k ≡ length before + suc k = omega (arith, one) in
    subst (λ j. PathAt (paths_after (before ++ p ∷ []) xs) j x) number (path_at (before ++ p ∷ []) xs k x e)

-- ---- the modules at their paths

abbrev some_placed : Placed → Option Placed
some_placed p = Some p

get_placed : (qs : List (List PathStep)) (xs : List Spot) (k : ℕ) (q : List PathStep) (x : Spot) → slice_get qs k ≡ Some q → slice_get xs k ≡ Some x
    → slice_get (placed_at_paths qs xs) k ≡ Some (placed_by q x)
get_placed [] xs k q x e g = cc
get_placed (r ∷ qs) [] k q x e g = cc
get_placed (r ∷ qs) (y ∷ xs) zero q x e g = ap2 (λ a b. some_placed (placed_by a b)) (same_some r q e) (same_some y x g)
get_placed (r ∷ qs) (y ∷ xs) (suc k) q x e g = get_placed qs xs k q x e g

record IsPair (qs : List (List PathStep)) (xs : List Spot) (k : ℕ) (p : Placed) : Type 0 where
  path : List PathStep
  spot : Spot
  is_path : slice_get qs k ≡ Some path
  is_spot : slice_get xs k ≡ Some spot
  is_placed : placed_by path spot ≡ p

placed_pair : (qs : List (List PathStep)) (xs : List Spot) (k : ℕ) (p : Placed) → slice_get (placed_at_paths qs xs) k ≡ Some p → IsPair qs xs k p
placed_pair [] xs k p e = cc
placed_pair (r ∷ qs) [] k p e = cc
placed_pair (r ∷ qs) (y ∷ xs) zero p e = record { path = r; spot = y; is_path = refl; is_spot = refl; is_placed = same_some (placed_by r y) p e }
placed_pair (r ∷ qs) (y ∷ xs) (suc k) p e =
    let f = placed_pair qs xs k p e in
    record { path = f.path; spot = f.spot; is_path = f.is_path; is_spot = f.is_spot; is_placed = f.is_placed }

pub paths_length : (before : List (List PathStep)) (xs : List Spot) → length (paths_after before xs) ≡ length before + length xs
paths_length before [] = omega arith
paths_length before (x ∷ xs) =
    let p : List PathStep = path_below (slice_get before x.parent) x.instance in
    let one : length (before ++ p ∷ []) ≡ length before + 1 = length-append before (p ∷ []) in
    let rest = paths_length (before ++ p ∷ []) xs in
    omega (arith, one, rest)

-- the module with a number, at its path
pub record IsAt (spots : List Spot) (k : ℕ) (x : Spot) (q : List PathStep) : Type 0 where
  pub is_spot : slice_get spots k ≡ Some x
  pub is_there : slice_get (paths_of spots) k ≡ Some q
  pub is_listed : slice_get (placed_of spots) k ≡ Some (placed_by q x)
  pub is_path : IsPath (paths_of spots) k x q

pub record IsThere (spots : List Spot) (k : ℕ) (x : Spot) : Type 0 where
  pub path : List PathStep
  pub is_at : IsAt spots k x path

pub record IsOne (spots : List Spot) (k : ℕ) (p : Placed) : Type 0 where
  pub spot : Spot
  pub path : List PathStep
  pub is_at : IsAt spots k spot path
  pub is_placed : placed_by path spot ≡ p

module _ (spots : List Spot) where
  pub at_number : (k : ℕ) (x : Spot) → slice_get spots k ≡ Some x → IsThere spots k x
  at_number k x e =
      let number : 0 + k ≡ k = omega arith in
      let f : PathAt (paths_of spots) k x = subst (λ j. PathAt (paths_of spots) j x) number (path_at [] spots k x e) in
      record {
        path = f.path;
        is_at = record { is_spot = e; is_there = f.is_there; is_listed = get_placed (paths_of spots) spots k f.path x f.is_there e; is_path = f.is_path };
      }

  pub number_at : (k : ℕ) (p : Placed) → slice_get (placed_of spots) k ≡ Some p → IsOne spots k p
  number_at k p e =
      let g : IsPair (paths_of spots) spots k p = placed_pair (paths_of spots) spots k p e in
      let f = at_number k g.spot g.is_spot in
      record { spot = g.spot; path = f.path; is_at = f.is_at; is_placed = same_some (placed_by f.path g.spot) p (sym f.is_at.is_listed ∙ e) }

  pub at_path_number : (k : ℕ) (q : List PathStep) → slice_get (paths_of spots) k ≡ Some q → (x : Spot) × IsAt spots k x q
  at_path_number k q e =
      let l : k < length (paths_of spots) = get_within (paths_of spots) k q e in
      let same : length (paths_of spots) ≡ 0 + length spots = paths_length [] spots in
      let x = within_get spots k (omega (arith, l, same)) in
      let f = at_number k x.0 x.1 in
      (x.0, subst (IsAt spots k x.0) (same_some f.path q (sym f.is_at.is_there ∙ e)) f.is_at)

-- no two numbers have one path
pub apart_numbers : (ps : List Placed) → StandApart ps → (i j : ℕ) (p r : Placed) → slice_get ps i ≡ Some p → slice_get ps j ≡ Some r → p.path ≡ r.path → i ≡ j
apart_numbers [] a i j p r e g h = cc
apart_numbers (y ∷ ps) a zero zero p r e g h = refl
apart_numbers (y ∷ ps) a zero (suc j) p r e g h =
    absurd (a.0 r (contains_among ps r (get_among ps j r g)) (sym (ap (λ (z : Placed). z.path) (same_some y p e) ∙ h)))
apart_numbers (y ∷ ps) a (suc i) zero p r e g h =
    absurd (a.0 p (contains_among ps p (get_among ps i p e)) (h ∙ sym (ap (λ (z : Placed). z.path) (same_some y r g))))
apart_numbers (y ∷ ps) a (suc i) (suc j) p r e g h = ap suc (apart_numbers ps a.1 i j p r e g h)
