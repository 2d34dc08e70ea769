-- What is known of the modules of an accepted design by the list of them.
use Rattle.std.proofs.Common.{◌≡◌, ◌∙◌, ℕ, ◌<◌, Bool, true, false, refl, ap, sym, subst, List, [], ◌∷◌, Option, Some, None, arith}
use Rattle.std.specs.Prelude.{slice_get, not}
use Rattle.std.proofs.lemmas.Bool.{false≢true, or_left, and_parts}
use mathlib.Core.Path.{fun_ext}
use Rattle.wb_values.specs.Value.{entry_of}
use Rattle.verilog_trees.specs.Syntax.{Direction, input, output}
use Rattle.verilog_meaning.specs.Hierarchy.{PathStep, instance_step, Placed, placed_scope}
use Rattle.verilog_meaning.specs.Settled.{Design, IsPlacedIn, at_path, HasPort, port_directions, port_order}
use Rattle.verilog_designs.specs.Known.{known_at}
use Rattle.verilog_designs.specs.Names.{is_among}
use Rattle.verilog_designs.specs.Ports.{is_input}
use Rattle.verilog_designs.specs.Accepted.{no_top, undeclared, duplicate_name, has_xz, bad_constant, width_over_128, bad_select, memory_use, HasNoTop, is_input_port, is_wide_clock}
use Rattle.verilog_unique.proofs.Paths.{stands_at, placed_in}
use Rattle.flat_rules.specs.Sound.{HasSoundModules, ModulesAreKnown, ObjectsAreInBounds}
use Rattle.v_value.specs.Narrow.{IsNarrowObject, HasNarrowObjects}
use Rattle.v_places.specs.Below.{Spot}
use Rattle.v_places.specs.Places.{IsPathOf, placed_by, IsPlaceAt, Standing}
use Rattle.v_places.proofs.Spots.{get_within, same_some}
use Rattle.v_places.proofs.AtPaths.{placed_there}
use Rattle.v_clocks.specs.Whole.{AreKnownPlaces}
use Rattle.map_paths.specs.Located.{AreStanding, scope_there}
use Rattle.map_judged.specs.Known.{StandsAt}

-- a number has one path
one_path : (spots : List Spot) (k : ℕ) (p q : List PathStep) → IsPathOf spots k p → IsPathOf spots k q → p ≡ q
one_path spots k [] [] h g = refl
one_path spots k [] (v ∷ q) h g = let before : g.0.parent < k = g.2 in absurd (omega (arith, before, h))
one_path spots k (u ∷ p) [] h g = let before : h.0.parent < k = h.2 in absurd (omega (arith, before, g))
one_path spots k (u ∷ p) (v ∷ q) h g =
    let same : g.0 ≡ h.0 = same_some g.0 h.0 (sym g.1 ∙ h.1) in
    let step : u ≡ v = h.3 ∙ (ap (λ (x : Spot). instance_step x.instance) (sym same) ∙ sym g.3) in
    let rest : p ≡ q = one_path spots h.0.parent p q h.4 (subst (λ (x : Spot). IsPathOf spots x.parent q) same g.4) in
    λ i. step i ∷ rest i

-- the whole of a direction that is an input
input_is : (o : Option Direction) → is_input o ≡ true → o ≡ Some input
input_is None h = absurd (false≢true h)
input_is (Some input) h = refl
input_is (Some output) h = absurd (false≢true h)

module _ (d : Design) (spots : List Spot) (h : StandsAt d spots) where
  pub sound_modules : HasSoundModules d
  sound_modules =
      record {
        names_declared = h.is_accepted undeclared;
        names_once = h.is_accepted duplicate_name;
        digits = h.is_accepted has_xz;
        constants = h.is_accepted bad_constant;
        widths = h.is_accepted width_over_128;
        selects = h.is_accepted bad_select;
        memories = h.is_accepted memory_use;
        shapely = h.of_text.shapely;
      }

  module _ (law : ModulesAreKnown) where
    pub known_places : AreKnownPlaces d spots
    known_places =
        record {
          no_undeclared = h.is_accepted undeclared;
          no_duplicate = h.is_accepted duplicate_name;
          places = h.places;
          known = λ p at. (law d p sound_modules at).is_known;
        }

    -- what is known at a path stands there
    known_placed : (path : List PathStep) (p : Placed) → p.path ≡ path → known_at d.source d.top path ≡ Some p → IsPlacedIn d p
    known_placed path p same e =
        let f = placed_there d.source d.top path p e in
        let at : IsPlacedIn d f.0 = placed_in d path f.0 f.1 in
        let there : f.0.path ≡ path = stands_at d path f.0 f.1 in
        let known : known_at d.source d.top f.0.path ≡ Some f.0 = (law d f.0 sound_modules at).is_known in
        subst (IsPlacedIn d) (same_some f.0 p (sym known ∙ (ap (known_at d.source d.top) there ∙ e))) at

    pub place_stands : (k : ℕ) (path : List PathStep) (p : Placed) → IsPlaceAt spots k path p → IsPlacedIn d p
    place_stands k path p g =
        let s : Standing d spots k = h.places.each k (get_within spots k g.spot g.is_spot) in
        let spot : s.is_place.spot ≡ g.spot = same_some s.is_place.spot g.spot (sym s.is_place.is_spot ∙ g.is_spot) in
        let way : s.path ≡ path = one_path spots k s.path path s.is_place.stands g.stands in
        let same : s.place ≡ p = s.is_place.is_placed ∙ ((λ i. placed_by (way i) (spot i)) ∙ sym g.is_placed) in
        known_placed path p (ap (λ (z : Placed). z.path) g.is_placed) (ap (known_at d.source d.top) (sym way) ∙ (s.is_known ∙ ap Some same))

    spot_scope : (k : ℕ) (path : List PathStep) (x : Spot) → IsPlaceAt spots k path (placed_by path x) → scope_there x ≡ placed_scope (placed_by path x)
    spot_scope k path x g = fun_ext (law d (placed_by path x) sound_modules (place_stands k path (placed_by path x) g)).scope

    pub standing : AreStanding d spots
    standing =
        record {
          number = λ p at. h.places.all p.path p (law d p sound_modules at).is_known;
          stands = place_stands;
          scope = spot_scope;
          once = h.places.once;
        }

    -- what the modules name fits words
    pub narrow_there : ObjectsAreInBounds → (k : ℕ) (x : Spot) → slice_get spots k ≡ Some x → HasNarrowObjects (scope_there x)
    narrow_there bounds k x e = λ n.
        let s : Standing d spots k = h.places.each k (get_within spots k x e) in
        let spot : s.is_place.spot ≡ x = same_some s.is_place.spot x (sym s.is_place.is_spot ∙ e) in
        let place : IsPlaceAt spots k s.path (placed_by s.path x) = subst (IsPlaceAt spots k s.path) (s.is_place.is_placed ∙ ap (placed_by s.path) spot) s.is_place in
        subst IsNarrowObject (λ i. sym (spot_scope k s.path x place) i n)
        (bounds d (placed_by s.path x) n sound_modules (place_stands k s.path (placed_by s.path x) place)).narrow

    -- the clock is an input of the top
    pub clock_is_input : (p : Placed) → at_path d [] ≡ Some p → HasPort p.of_module d.clock input
    clock_is_input p at =
        by (is_input_port p.of_module d.clock) refl
      where
        top : known_at d.source d.top [] ≡ Some p
        top = ap (known_at d.source d.top) (sym (stands_at d [] p at)) ∙ (law d p sound_modules (placed_in d [] p at)).is_known

        by : (b : Bool) → is_input_port p.of_module d.clock ≡ b → HasPort p.of_module d.clock input
        by true e =
            input_is (entry_of (port_directions p.of_module) d.clock) ((and_parts (is_among (port_order p.of_module) d.clock) (is_input (entry_of (port_directions p.of_module) d.clock)) e).1)
        by false e =
            absurd (h.is_accepted no_top (HasNoTop.no_clock p top (or_left (not (is_input_port p.of_module d.clock)) (is_wide_clock p d.clock) (ap not e))))
