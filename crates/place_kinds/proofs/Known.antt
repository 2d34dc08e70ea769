-- The modules of a list of places by their numbers are those that stand in the design.
use Rattle.std.proofs.Common.{◌≡◌, ◌∙◌, ℕ, zero, suc, ◌<◌, ◌≤◌, refl, ap, sym, subst, arith, Bool, true, false, List, [], ◌∷◌, length, inl, inr, Some, None}
use Rattle.std.specs.Prelude.{◌≢◌, ◌||◌, slice_get, Contains, IsTrue}
use Rattle.std.specs.List.{list_any}
use Rattle.std.proofs.lemmas.Bool.{false≢true, or_left, or_right}
use mathlib.Core.Path.{fun_ext}
use Rattle.verilog_trees.specs.Syntax.{by_order, Module}
use Rattle.verilog_meaning.specs.Hierarchy.{PathStep, instance_step, Placed, module_named}
use Rattle.verilog_meaning.specs.Settled.{Design, IsPlacedIn}
use Rattle.verilog_designs.specs.Known.{known_constants, known_at}
use Rattle.verilog_designs.specs.Accepted.{SomeModule}
use Rattle.verilog_unique.proofs.Options.{from_map}
use Rattle.verilog_unique.proofs.Descent.{contains_among, among_contains}
use Rattle.verilog_unique.proofs.Paths.{stands_at, placed_in}
use Rattle.verilog_exists.specs.Exists.{NamesHaveNoDots}
use Rattle.flat_designs.specs.Edge.{StandApart}
use Rattle.flat_rules.specs.Sound.{HasSoundModules}
use Rattle.flat_rules.proofs.Placed.{modules_are_known}
use Rattle.v_places.specs.Below.{Spot, top_spot}
use Rattle.v_places.specs.Places.{IsPathOf, placed_by, IsPlaceAt, Standing, ArePlaces}
use Rattle.v_places.proofs.Spots.{get_among, among_get, get_within, within_get, same_some}
use Rattle.v_places.proofs.AtPaths.{placed_there}
use Rattle.v_flat.specs.Paths.{paths_of, placed_of}
use Rattle.v_flat.specs.Whole.{IsPlacing}
use Rattle.v_flat.proofs.Places.{IsThere, IsOne, at_number, number_at}
use Rattle.place_kinds.specs.Known.{KnownModulesAreSpots, PlacesArePlaced, AreNumbered, PlacedAreNumbered}

-- ---- lists

pub one_passes : {A : Type 0} (p : A → Bool) (xs : List A) (k : ℕ) (x : A) → slice_get xs k ≡ Some x → p x ≡ true → list_any p xs ≡ true
one_passes p [] k x e h = cc
one_passes p (y ∷ xs) zero x e h = or_left (p y) (list_any p xs) (ap p (same_some y x e) ∙ h)
one_passes p (y ∷ xs) (suc k) x e h = or_right (p y) (list_any p xs) (one_passes p xs k x e h)

pub passing : {A : Type 0} (p : A → Bool) (xs : List A) → list_any p xs ≡ true → (k : ℕ) × (x : A) × (slice_get xs k ≡ Some x) × (p x ≡ true)
passing {A = A} p [] h = absurd (false≢true h)
passing {A = A} p (y ∷ xs) h = one (p y) refl (λ g. passing p xs g) h
  where
    one : (b : Bool) → p y ≡ b → (list_any p xs ≡ true → (k : ℕ) × (x : A) × (slice_get xs k ≡ Some x) × (p x ≡ true)) → (b || list_any p xs) ≡ true
        → (k : ℕ) × (x : A) × (slice_get (y ∷ xs) k ≡ Some x) × (p x ≡ true)
    one true e f g = (0, y, refl, e)
    one false e f g = let r = f g in (suc r.0, r.1, r.2, r.3)

-- ---- known constants

pub known_modules_are_spots : KnownModulesAreSpots
known_modules_are_spots d spots is_so passes places same = (there, back)
  where
    there : IsTrue (list_any passes spots) → SomeModule d is_so
    there h =
        let r = passing passes spots h in
        let s : Standing d spots r.0 = places.each r.0 (get_within spots r.0 r.1 r.2) in
        let x : s.is_place.spot ≡ r.1 = same_some s.is_place.spot r.1 (sym s.is_place.is_spot ∙ r.2) in
        record {
          path = s.path;
          place = s.place;
          is_placed = s.is_known;
          is_so = ap is_so s.is_place.is_placed ∙ (same s.path s.is_place.spot ∙ (ap passes x ∙ r.3));
        }

    back : SomeModule d is_so → IsTrue (list_any passes spots)
    back s =
        let f = places.all s.path s.place s.is_placed in
        one_passes passes spots f.0 f.1.spot f.1.is_spot (sym (same s.path f.1.spot) ∙ (ap is_so (sym f.1.is_placed) ∙ s.is_so))

-- ---- paths by their numbers

module _ (spots : List Spot) where
  -- the path of a module is the one with its number
  path_is : (q : List PathStep) (k : ℕ) (x : Spot) → slice_get spots k ≡ Some x → IsPathOf spots k q → slice_get (paths_of spots) k ≡ Some q
  path_is [] k x e h =
      let f : IsThere spots k x = at_number spots k x e in
      elim f.is_at.is_path as (λ _. slice_get (paths_of spots) k ≡ Some []) [
        | inl i ↦ let b : x.parent < k = i.before in absurd (omega (arith, b, h))
        | inr i ↦ f.is_at.is_there ∙ ap Some i.is_path
      ]
  path_is (u ∷ around) k x e h =
      let same : h.0 ≡ x = same_some h.0 x (sym h.1 ∙ e) in
      let below : x.parent < k = subst (λ (z : Spot). z.parent < k) same h.2 in
      let within : k < length spots = get_within spots k x e in
      let outer = within_get spots x.parent (omega (arith, below, within)) in
      let rest : slice_get (paths_of spots) x.parent ≡ Some around =
      path_is around x.parent outer.0 outer.1 (subst (λ (z : Spot). IsPathOf spots z.parent around) same h.4) in
      let step : u ≡ instance_step x.instance = subst (λ (z : Spot). u ≡ instance_step z.instance) same h.3 in
      let f : IsThere spots k x = at_number spots k x e in
      elim f.is_at.is_path as (λ _. slice_get (paths_of spots) k ≡ Some (u ∷ around)) [
        | inl i ↦
            let a : i.around ≡ around = same_some i.around around (sym i.is_around ∙ rest) in
            f.is_at.is_there ∙ (ap Some i.is_path ∙ (ap (λ z. Some (instance_step x.instance ∷ z)) a ∙ ap (λ z. Some (z ∷ around)) (sym step)))
        | inr i ↦ let g : k ≤ x.parent = i.first in absurd (omega (arith, below, g))
      ]

  pub listed : (k : ℕ) (path : List PathStep) (p : Placed) → IsPlaceAt spots k path p → slice_get (placed_of spots) k ≡ Some p
  listed k path p h =
      let f : IsThere spots k h.spot = at_number spots k h.spot h.is_spot in
      let same : f.path ≡ path = same_some f.path path (sym f.is_at.is_there ∙ path_is path k h.spot h.is_spot h.stands) in
      f.is_at.is_listed ∙ (ap (λ q. Some (placed_by q h.spot)) same ∙ ap Some (sym h.is_placed))

-- the first one stands at the top
pub top_path : (spots : List Spot) (path : List PathStep) → IsPathOf spots 0 path → path ≡ []
top_path spots [] h = refl
top_path spots (u ∷ around) h = let b : h.0.parent < 0 = h.2 in absurd (omega (arith, b))

-- no two stand at one path where no two numbers have one
apart_by : (ps : List Placed) → ((i j : ℕ) (p r : Placed) → slice_get ps i ≡ Some p → slice_get ps j ≡ Some r → p.path ≡ r.path → i ≡ j) → StandApart ps
apart_by [] h = tt
apart_by (p ∷ ps) h = (first, apart_by ps (λ i j q r e g s. let n : suc i ≡ suc j = h (suc i) (suc j) q r e g s in omega (arith, n)))
  where
    first : (q : Placed) → Contains ps q → q.path ≢ p.path
    first q c s =
        let f = among_get ps q (among_contains ps q c) in
        let n : 0 ≡ suc f.0 = h 0 (suc f.0) p q refl f.1 (sym s) in
        omega (arith, n)

-- ---- known and placed

module _ (d : Design) (spots : List Spot) (places : ArePlaces d spots) where
  record AtItsPath (k : ℕ) (p : Placed) : Type 0 where
    is_place : IsPlaceAt spots k p.path p
    is_known : known_at d.source d.top p.path ≡ Some p

  at_its_path : (k : ℕ) (path : List PathStep) (p : Placed) → IsPlaceAt spots k path p → known_at d.source d.top path ≡ Some p → AtItsPath k p
  at_its_path k path p h e =
      let same : path ≡ p.path = sym (ap (λ (z : Placed). z.path) h.is_placed) in
      record { is_place = subst (λ q. IsPlaceAt spots k q p) same h; is_known = subst (λ q. known_at d.source d.top q ≡ Some p) same e }

  numbered : (k : ℕ) (p : Placed) → slice_get (placed_of spots) k ≡ Some p → AtItsPath k p
  numbered k p e =
      let f : IsOne spots k p = number_at spots k p e in
      let s : Standing d spots k = places.each k (get_within spots k f.spot f.is_at.is_spot) in
      subst (AtItsPath k) (same_some s.place p (sym (listed spots k s.path s.place s.is_place) ∙ e)) (at_its_path k s.path s.place s.is_place s.is_known)

  -- nothing is connected to the top
  alone : (x : Spot) → slice_get spots 0 ≡ Some x → x.connections ≡ by_order []
  alone x e =
      let s : Standing d spots 0 = places.each 0 (get_within spots 0 x e) in
      at s.path s.place s.is_place.stands s.is_known
    where
      at : (path : List PathStep) (p : Placed) → IsPathOf spots 0 path → known_at d.source d.top path ≡ Some p → x.connections ≡ by_order []
      at [] p h g =
          let f = from_map (λ (m : Module). record { path = []; of_module = m; constants = known_constants m (λ n. None) }) (module_named d.source d.top) p g in
          sym (ap (λ (z : Spot). z.connections) (same_some (top_spot f.0) x (sym (places.first f.0 f.1) ∙ e)))
      at (u ∷ around) p h g = let b : h.0.parent < 0 = h.2 in absurd (omega (arith, b))

  module _ (sound : HasSoundModules d) where
    -- what is known at a path stands there
    known_placed : (p : Placed) → known_at d.source d.top p.path ≡ Some p → IsPlacedIn d p
    known_placed p e =
        let f = placed_there d.source d.top p.path p e in
        let at : IsPlacedIn d f.0 = placed_in d p.path f.0 f.1 in
        let path : f.0.path ≡ p.path = stands_at d p.path f.0 f.1 in
        let known : known_at d.source d.top f.0.path ≡ Some f.0 = (modules_are_known d f.0 sound at).is_known in
        subst (IsPlacedIn d) (same_some f.0 p (sym known ∙ (ap (known_at d.source d.top) path ∙ e))) at

    pub place_stands : (k : ℕ) (path : List PathStep) (p : Placed) → IsPlaceAt spots k path p → IsPlacedIn d p
    place_stands k path p h = known_placed p (numbered k p (listed spots k path p h)).is_known

    pub number_of : (p : Placed) → IsPlacedIn d p → (k : ℕ) × IsPlaceAt spots k p.path p
    number_of p at = places.all p.path p (modules_are_known d p sound at).is_known

    pub are_numbered : AreNumbered d spots
    are_numbered =
        record {
          number = number_of;
          stands = place_stands;
          each = λ k x e.
              let s : Standing d spots k = places.each k (get_within spots k x e) in
              let same : s.is_place.spot ≡ x = same_some s.is_place.spot x (sym s.is_place.is_spot ∙ e) in
              (s.path, subst (IsPlaceAt spots k s.path) (s.is_place.is_placed ∙ ap (placed_by s.path) same) s.is_place);
          scope = λ k path x h. fun_ext (modules_are_known d (placed_by path x) sound (place_stands k path (placed_by path x) h)).scope;
        }

    pub is_placing : NamesHaveNoDots d.source → IsPlacing d spots
    is_placing dots =
        record {
          no_undeclared = sound.names_declared;
          no_duplicate = sound.names_once;
          no_dots = dots;
          placed =
              record {
                are_placed = λ p. (
                  (λ c. let f = among_get (placed_of spots) p (among_contains (placed_of spots) p c) in known_placed p (numbered f.0 p f.1).is_known),
                  (λ at.
                      let f = number_of p at in
                      contains_among (placed_of spots) p (get_among (placed_of spots) f.0 p (listed spots f.0 p.path p f.1))),
                );
                apart = apart_by (placed_of spots)
                    (λ i j p r e g s.
                    places.once i j p.path p r (numbered i p e).is_place (subst (λ q. IsPlaceAt spots j q r) (sym s) (numbered j r g).is_place));
              };
          connected = places.connected;
          alone = alone;
          scopes = λ p n at. (modules_are_known d p sound at).scope n;
        }

pub places_are_placed : PlacesArePlaced
places_are_placed d spots sound dots places = is_placing d spots places sound dots

pub placed_are_numbered : PlacedAreNumbered
placed_are_numbered d spots sound places = are_numbered d spots places sound
