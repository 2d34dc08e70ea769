-- What is so at one of the places, by its number; and which names of a module are nets, in its scope.
use Rattle.std.proofs.Common.{◌≡◌, ◌∙◌, ℕ, zero, suc, refl, ap, sym, subst, true, List, [], ◌∷◌, inl, inr, Option, Some, None, option_map, is_some, is_none}
use Rattle.std.specs.Prelude.{slice_get, Contains, IsTrue}
use Rattle.std.proofs.lemmas.Bool.{false≢true}
use Rattle.wb_values.specs.Value.{Name, entry_of}
use Rattle.wb_values.specs.Choice.{first_of}
use Rattle.verilog_meaning.specs.Expression.{Object, object_or_undeclared, scope_of}
use Rattle.verilog_meaning.specs.Hierarchy.{Declaration, declarations, declaration_of, declared_object, Placed, placed_scope}
use Rattle.verilog_meaning.specs.Settled.{Design, IsPlacedIn, IsDeclared}
use Rattle.verilog_unique.proofs.Descent.{contains_among, among_contains}
use Rattle.verilog_unique.proofs.Parameters.{HasNumber, placed_constants}
use Rattle.v_undriven.proofs.Declaring.{declared-so}
use Rattle.v_places.specs.Below.{Spot}
use Rattle.v_places.specs.Places.{placed_by, IsPlaceAt}
use Rattle.v_places.proofs.Spots.{get_among, among_get, same_some}
use Rattle.place_kinds.specs.Places.{SomeSpot, SomeWith, spot_scope}
use Rattle.place_kinds.specs.Known.{HasSoundPlaces, AreNumbered}
use Rattle.place_kinds.proofs.Known.{are_numbered}

-- ---- lists

pub some_spot : (IsSo : Spot → Type 0) (xs : List Spot) (k : ℕ) (x : Spot) → slice_get xs k ≡ Some x → IsSo x → SomeSpot IsSo xs
some_spot IsSo [] k x e h = cc
some_spot IsSo (y ∷ xs) zero x e h = inl (subst IsSo (sym (same_some y x e)) h)
some_spot IsSo (y ∷ xs) (suc k) x e h = inr (some_spot IsSo xs k x e h)

pub spot_some : (IsSo : Spot → Type 0) (xs : List Spot) → SomeSpot IsSo xs → (k : ℕ) × (x : Spot) × (slice_get xs k ≡ Some x) × IsSo x
spot_some IsSo [] h = absurd h
spot_some IsSo (x ∷ xs) (inl h) = (0, x, refl, h)
spot_some IsSo (x ∷ xs) (inr h) = let r = spot_some IsSo xs h in (suc r.0, r.1, r.2, r.3)

pub some_with : {A : Type 0} (IsSo : A → Spot → Type 0) (more : List A) (xs : List Spot) (k : ℕ) (a : A) (x : Spot) → slice_get more k ≡ Some a → slice_get xs k ≡ Some x
    → IsSo a x → SomeWith IsSo more xs
some_with IsSo [] xs k a x f e h = cc
some_with IsSo (b ∷ more) [] k a x f e h = cc
some_with IsSo (b ∷ more) (y ∷ xs) zero a x f e h = inl (subst (λ z. IsSo z y) (sym (same_some b a f)) (subst (IsSo a) (sym (same_some y x e)) h))
some_with IsSo (b ∷ more) (y ∷ xs) (suc k) a x f e h = inr (some_with IsSo more xs k a x f e h)

pub record WithAt {A : Type 0} (IsSo : A → Spot → Type 0) (more : List A) (xs : List Spot) : Type 0 where
  pub number : ℕ
  pub beside : A
  pub spot : Spot
  pub is_beside : slice_get more number ≡ Some beside
  pub is_spot : slice_get xs number ≡ Some spot
  pub is_so : IsSo beside spot

pub with_some : {A : Type 0} (IsSo : A → Spot → Type 0) (more : List A) (xs : List Spot) → SomeWith IsSo more xs → WithAt IsSo more xs
with_some IsSo [] xs h = absurd h
with_some IsSo (a ∷ more) [] h = absurd h
with_some IsSo (a ∷ more) (x ∷ xs) (inl h) = record { number = 0; beside = a; spot = x; is_beside = refl; is_spot = refl; is_so = h }
with_some IsSo (a ∷ more) (x ∷ xs) (inr h) =
    let r = with_some IsSo more xs h in
    record { number = suc r.number; beside = r.beside; spot = r.spot; is_beside = r.is_beside; is_spot = r.is_spot; is_so = r.is_so }

pub get_contains : {A : Type 0} (xs : List A) (k : ℕ) (x : A) → slice_get xs k ≡ Some x → Contains xs x
get_contains xs k x e = contains_among xs x (get_among xs k x e)

pub contains_get : {A : Type 0} (xs : List A) (x : A) → Contains xs x → (k : ℕ) × (slice_get xs k ≡ Some x)
contains_get xs x c = among_get xs x (among_contains xs x c)

-- ---- one place

-- A module that stands in the design, by its number.
pub record AtNumber (d : Design) (spots : List Spot) (p : Placed) : Type 0 where
  pub number : ℕ
  pub spot : Spot
  pub is_spot : slice_get spots number ≡ Some spot
  pub is_place : IsPlaceAt spots number p.path p
  pub is_placed : p ≡ placed_by p.path spot
  pub scope : spot_scope spot ≡ placed_scope p

-- A number of the list, by the module that stands there.
pub record OfNumber (d : Design) (spots : List Spot) (k : ℕ) (x : Spot) : Type 0 where
  pub place : Placed
  pub is_place : IsPlaceAt spots k place.path place
  pub stands : IsPlacedIn d place
  pub is_placed : place ≡ placed_by place.path x
  pub scope : spot_scope x ≡ placed_scope place

module _ (d : Design) (spots : List Spot) (h : HasSoundPlaces d spots) where
  numbers : AreNumbered d spots
  numbers = are_numbered d spots h.places h.sound

  pub of_number : (k : ℕ) (x : Spot) → slice_get spots k ≡ Some x → OfNumber d spots k x
  of_number k x e =
      let f = numbers.each k x e in
      record {
        place = placed_by f.0 x;
        is_place = f.1;
        stands = numbers.stands k f.0 (placed_by f.0 x) f.1;
        is_placed = refl;
        scope = numbers.scope k f.0 x f.1;
      }

  pub at_number : (p : Placed) → IsPlacedIn d p → AtNumber d spots p
  at_number p at =
      let f = numbers.number p at in
      let place : IsPlaceAt spots f.0 p.path (placed_by p.path f.1.spot) = subst (IsPlaceAt spots f.0 p.path) f.1.is_placed f.1 in
      record {
        number = f.0;
        spot = f.1.spot;
        is_spot = f.1.is_spot;
        is_place = f.1;
        is_placed = f.1.is_placed;
        scope = numbers.scope f.0 p.path f.1.spot place ∙ ap placed_scope (sym f.1.is_placed);
      }

-- ---- nets of a module

-- what the scope of a module knows without a value as a constant is a net or a variable
pub net_of_scope : (d : Design) (p : Placed) (n : Name) → IsPlacedIn d p → IsTrue ((placed_scope p n).is_declared) → IsTrue (is_none (placed_scope p n).constant)
    → IsDeclared p n
net_of_scope d p n at known plain =
    sym (declared-so n (declarations p.of_module))
    ∙ found (entry_of p.constants n) ((placed_constants d p.path p at).numbers n) (declaration_of (declarations p.of_module) n) known plain
  where
    object : Option Object → Option Declaration → Object
    object x y = object_or_undeclared (first_of x (option_map (declared_object (scope_of p.constants)) y))

    found : (x : Option Object) → ((o : Object) → x ≡ Some o → HasNumber o) → (y : Option Declaration) → IsTrue ((object x y).is_declared) → IsTrue (is_none (object x y).constant)
        → is_some y ≡ true
    found (Some o) f y a b = absurd (apart o.constant (f o refl).0 b)
      where
        apart : (z : Option ℕ) → IsTrue (is_some z) → IsTrue (is_none z) → ⊥
        apart None g i = false≢true g
        apart (Some k) g i = false≢true i
    found None f (Some y) a b = refl
    found None f None a b = absurd (false≢true a)
