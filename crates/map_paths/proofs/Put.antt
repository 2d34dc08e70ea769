-- The tables of instances, where places are added one after the other.
use Rattle.std.proofs.Common.{◌≡◌, ◌∙◌, ℕ, zero, suc, ◌+◌, ◌<◌, ◌≤◌, Bool, true, false, cond, ◌&&◌, ◌==◌, refl, ap, sym, subst, List, [], ◌∷◌, ◌++◌, length, get_or, take, Bor, Some, slice_set, eqb-true, lt-ltb, ◌≢◌, arith}
use Rattle.std.specs.Prelude.{slice_get, option_and_then}
use Rattle.std.specs.Ordering.{nat_cmp}
use Rattle.std.specs.Cmp.Lexicographic.{slice_cmp}
use Rattle.std.specs.BTreeMap as tree
use Rattle.std.specs.BTreeMap.{BTreeMap}
use Rattle.std.proofs.lemmas.Bool.{eqb-false}
use Rattle.std.proofs.lemmas.Map.Text.{btree_map_updates_str}
use Rattle.wb_values.specs.Value.{Name, same_name}
use Rattle.v_places.specs.Below.{Spot}
use Rattle.v_places.specs.declared.place.Place.{Place}
use Rattle.v_places.specs.Views.{spot_of, spots_of}
use Rattle.map_paths.specs.Located.{Below, IsBelow, AreBelow}
use Rattle.map_paths.specs.Tables.{under_name, below_in, with_child}
use Rattle.map_paths.proofs.Adding.{child_added, none_below}
use Rattle.map_paths.proofs.Taken.{taken_one, taken_all, taken_length}

abbrev Tables : Type 0
Tables = List (BTreeMap (Bor (List ℕ)) ℕ)

get_set : {A : Type 0} (xs : List A) (p : ℕ) (y : A) → p < length xs → slice_get (slice_set xs p y) p ≡ Some y
get_set [] p y l = absurd (omega (arith, l))
get_set (x ∷ xs) zero y l = refl
get_set (x ∷ xs) (suc p) y l = get_set xs p y (omega (arith, l))

get_other : {A : Type 0} (xs : List A) (p k : ℕ) (y : A) → p ≢ k → slice_get (slice_set xs p y) k ≡ slice_get xs k
get_other [] p k y n = refl
get_other (x ∷ xs) zero zero y n = absurd (n refl)
get_other (x ∷ xs) zero (suc k) y n = refl
get_other (x ∷ xs) (suc p) zero y n = refl
get_other (x ∷ xs) (suc p) (suc k) y n = get_other xs p k y (λ e. n (ap suc e))

get_there : {A : Type 0} (xs : List A) (p : ℕ) (y d : A) → p < length xs → y ≡ get_or xs p d → slice_get xs p ≡ Some y
get_there [] p y d l e = absurd (omega (arith, l))
get_there (x ∷ xs) zero y d l e = ap Some (sym e)
get_there (x ∷ xs) (suc p) y d l e = get_there xs p y d (omega (arith, l)) e

-- an instance in the table of the module around it
pub child_put : (ts : Tables) (x : Spot) (old new d : BTreeMap (Bor (List ℕ)) ℕ) (name : Bor (List ℕ)) (j : ℕ) → x.parent < length ts → old ≡ get_or ts x.parent d
    → tree.Updates (λ a b. slice_cmp nat_cmp a.now b.now) old new name (Some j) → name.now ≡ x.instance → j ≡ length ts
    → (k : ℕ) (u : Name) → below_in (slice_set ts x.parent new) k u ≡ with_child x (length ts) (below_in ts) k u
child_put ts x old new d name j l e changed called number k u =
    by (x.parent == k) refl ∙ ap (λ b. cond (b && (x.parent == k && same_name x.instance u)) (Some (length ts)) (below_in ts k u)) (sym (lt-ltb x.parent (length ts) l))
  where
    in_table : x.parent ≡ k → under_name new u ≡ cond (same_name x.instance u) (Some (length ts)) (below_in ts k u)
    in_table same =
        btree_map_updates_str name.now old new (Some j) changed u
        ∙ (λ i. cond (same_name (called i) u) (Some (number i))
        (ap (option_and_then (λ t. under_name t u)) (sym (get_there ts x.parent old d l e) ∙ ap (slice_get ts) same) i))

    by : (b : Bool) → (x.parent == k) ≡ b → below_in (slice_set ts x.parent new) k u ≡ cond (b && same_name x.instance u) (Some (length ts)) (below_in ts k u)
    by true f =
        let same : x.parent ≡ k = eqb-true x.parent k f in
        ap (option_and_then (λ t. under_name t u)) (ap (slice_get (slice_set ts x.parent new)) (sym same) ∙ get_set ts x.parent new l) ∙ in_table same
    by false f = ap (option_and_then (λ t. under_name t u)) (get_other ts x.parent k new (eqb-false x.parent k f))

alike : (spots : List Spot) (f g : Below) → ((k : ℕ) (u : Name) → g k u ≡ f k u) → AreBelow spots f → AreBelow spots g
alike spots f g same h k u = subst (IsBelow spots k u) (sym (same k u)) (h k u)

-- one place more
pub place_added : (ps : List Place) (i : ℕ) (p d : Place) (before middle after : Tables) → i < length ps → p ≡ get_or ps i d → length before ≡ i
    → AreBelow (spots_of (take i ps)) (below_in before)
    → ((k : ℕ) (u : Name) → below_in middle k u ≡ with_child (spot_of p) (length before) (below_in before) k u)
    → ((k : ℕ) (u : Name) → below_in after k u ≡ below_in middle k u) → AreBelow (spots_of (take (i + 1) ps)) (below_in after)
place_added ps i p d before middle after l e many h first second =
    let more : length (spots_of (take i ps)) ≡ length before = taken_length spot_of ps i (omega (arith, l)) ∙ sym many in
    let added : AreBelow (spots_of (take i ps) ++ spot_of p ∷ []) (with_child (spot_of p) (length before) (below_in before))
    = subst (λ n. AreBelow (spots_of (take i ps) ++ spot_of p ∷ []) (with_child (spot_of p) n (below_in before))) more (child_added (spots_of (take i ps)) (spot_of p) (below_in before) h) in
    subst (λ xs. AreBelow xs (below_in after)) (sym (taken_one spot_of ps i p d l e))
    (alike (spots_of (take i ps) ++ spot_of p ∷ []) (with_child (spot_of p) (length before) (below_in before)) (below_in after) (λ k u. second k u ∙ first k u) added)

-- all of them
pub places_added : (ps : List Place) (i : ℕ) (ts : Tables) → length ps ≤ i → AreBelow (spots_of (take i ps)) (below_in ts) → AreBelow (spots_of ps) (below_in ts)
places_added ps i ts l h = subst (λ xs. AreBelow (spots_of xs) (below_in ts)) (taken_all ps i l) h

-- none yet
pub no_places : (ts : Tables) → ts ≡ [] → AreBelow [] (below_in ts)
no_places ts e = subst (λ xs. AreBelow [] (below_in xs)) (sym e) none_below
