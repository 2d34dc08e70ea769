-- What the laws on places ask for holds where none of the kinds on names and rules refuses the design.
use Rattle.std.proofs.Common.{◌≡◌, ◌∙◌, ◌<◌, arith, refl, ap, sym, get_or, subst, Bool, List, [], ◌∷◌, length, slice_get, Option, Some, None, map}
use Rattle.std.specs.Prelude.{◌↔◌, IsTrue}
use Rattle.std.specs.List.{list_any}
use Rattle.wb_values.specs.Value.{Name}
use Rattle.verilog_trees.specs.Syntax.{Item, Module}
use Rattle.verilog_meaning.specs.Hierarchy.{module_named}
use Rattle.verilog_meaning.specs.Settled.{Design}
use Rattle.verilog_designs.specs.Clocks.{HasClockAsData}
use Rattle.verilog_designs.specs.Paths.{HasBadEventList, HasBlockingInClocked, HasNonblockingInComb, HasLatch}
use Rattle.verilog_designs.specs.Drivers.{HasBadDriver}
use Rattle.verilog_designs.specs.Accepted.{no_top, undeclared, duplicate_name, has_xz, bad_port, bad_constant, width_over_128, bad_select, memory_use, HasNoTop}
use Rattle.flat_rules.specs.Sound.{HasSoundModules, ModulesAreKnown}
use Rattle.v_scopes.proofs.Parts.{none_some}
use Rattle.v_instances.specs.declared.interface.Interfaces.{Interfaces}
use Rattle.v_places.specs.Below.{Spot, top_spot}
use Rattle.v_flat.specs.Outputs.{with_outputs}
use Rattle.v_flat.specs.Whole.{IsPlacing}
use Rattle.v_clocks.specs.Whole.{AreKnownPlaces, AreClockNets}
use Rattle.place_kinds.specs.Places.{SomeSpot, SomeWith, HasBadEventListAt, HasLatchAt, HasBadDriverAt, has_blocking_in_clocked, has_nonblocking_in_combinational}
use Rattle.place_kinds.specs.Known.{HasSoundPlaces, PlacesArePlaced}
use Rattle.place_kinds.specs.Blocks.{EventListsAreAtPlaces, BlockingIsAtPlaces, NonblockingIsAtPlaces, LatchesAreAtPlaces}
use Rattle.place_kinds.specs.Drivers.{AreAllDriven, ListsAreAllDriven, BadDriversAreAtPlaces}
use Rattle.v_judged.specs.First.{name_kinds, rule_kinds}
use Rattle.v_judged.specs.Standing.{IsSoundDesign}
use Rattle.v_judged.proofs.First.{none_at, Decides, decided}

-- a list of which something is seen has a first element
pub some_first : {A B : Type 0} (view : A → B) (xs : List A) → (map view xs ≡ [] → ⊥) → 0 < length xs
some_first view [] h = absurd (h refl)
some_first view (x ∷ xs) h = omega arith

pub first_is : {A B : Type 0} (view : A → B) (xs : List A) (r d : A) → 0 < length xs → r ≡ get_or xs 0 d → slice_get (map view xs) 0 ≡ Some (view r)
first_is view [] r d lt is = absurd (omega (arith, lt))
first_is view (x ∷ xs) r d lt is = ap (λ y. Some (view y)) (sym is)

some_top : (d : Design) (o : Option Module) → module_named d.source d.top ≡ o → ¬ HasNoTop d → (m : Module) × (module_named d.source d.top ≡ Some m)
some_top d None e h = absurd (h (HasNoTop.no_module e))
some_top d (Some m) e h = (m, e)

module _ (t : Interfaces) (spots : List Spot) (d : Design) (h : IsSoundDesign t spots d) where
  pub sound_modules : HasSoundModules d
  sound_modules =
      record {
        names_declared = none_at d name_kinds 1 undeclared h.named.names refl;
        names_once = none_at d name_kinds 2 duplicate_name h.named.names refl;
        digits = none_at d rule_kinds 0 has_xz h.rules refl;
        constants = none_at d rule_kinds 2 bad_constant h.rules refl;
        widths = none_at d rule_kinds 3 width_over_128 h.rules refl;
        selects = none_at d rule_kinds 4 bad_select h.rules refl;
        memories = none_at d rule_kinds 5 memory_use h.rules refl;
        shapely = h.named.of_text.shapely;
      }

  pub sound_places : HasSoundPlaces d spots
  sound_places =
      record {
        has_top = none_at d name_kinds 0 no_top h.named.names refl;
        ports = none_at d rule_kinds 1 bad_port h.rules refl;
        sound = sound_modules;
        no_dots = h.named.of_text.no_dots;
        places = h.named.places;
      }

  pub placing : PlacesArePlaced → IsPlacing d spots
  placing law = law d spots sound_modules h.named.of_text.no_dots h.named.places

  pub known_places : ModulesAreKnown → AreKnownPlaces d spots
  known_places law =
      record {
        no_undeclared = sound_modules.names_declared;
        no_duplicate = sound_modules.names_once;
        places = h.named.places;
        known = λ p at. (law d p sound_modules at).is_known;
      }

  pub all_driven : ListsAreAllDriven → PlacesArePlaced → (lists : List (List Item)) → lists ≡ with_outputs spots → AreAllDriven d spots lists
  all_driven law placed lists e = subst (AreAllDriven d spots) (sym e) (law d spots (placing placed))

  -- the list has the top
  pub not_empty : spots ≡ [] → ⊥
  not_empty e =
      let m = some_top d (module_named d.source d.top) refl (none_at d name_kinds 0 no_top h.named.names refl) in
      none_some (top_spot m.0) (subst (λ xs. slice_get xs 0 ≡ Some (top_spot m.0)) e (h.named.places.first m.0 m.1))

  -- ---- what an answer says of the design

  pub clock_so : (b : Bool) → (IsTrue b ↔ HasClockAsData d) → Decides b (HasClockAsData d)
  clock_so b told = decided b (HasClockAsData d) (HasClockAsData d) told ((λ x. x), (λ x. x))

  pub events_so : EventListsAreAtPlaces → (nets : List (Name → Bool)) → AreClockNets d spots nets → (b : Bool) → (IsTrue b ↔ SomeWith HasBadEventListAt nets spots)
      → Decides b (HasBadEventList d)
  events_so law nets own b told =
      decided b (SomeWith HasBadEventListAt nets spots) (HasBadEventList d) told
      (law d spots nets sound_places (record { as_many = own.as_many; each = own.each }))

  pub blocked_so : BlockingIsAtPlaces → (b : Bool) → b ≡ list_any has_blocking_in_clocked spots → Decides b (HasBlockingInClocked d)
  blocked_so law b e =
      decided b (IsTrue (list_any has_blocking_in_clocked spots)) (HasBlockingInClocked d) ((λ x. sym e ∙ x), (λ x. e ∙ x)) (law d spots sound_places)

  pub waiting_so : NonblockingIsAtPlaces → (b : Bool) → b ≡ list_any has_nonblocking_in_combinational spots → Decides b (HasNonblockingInComb d)
  waiting_so law b e =
      decided b (IsTrue (list_any has_nonblocking_in_combinational spots)) (HasNonblockingInComb d) ((λ x. sym e ∙ x), (λ x. e ∙ x)) (law d spots sound_places)

  pub latch_so : LatchesAreAtPlaces → (b : Bool) → (IsTrue b ↔ SomeSpot HasLatchAt spots) → Decides b (HasLatch d)
  latch_so law b told = decided b (SomeSpot HasLatchAt spots) (HasLatch d) told (law d spots sound_places)

  pub driver_so : BadDriversAreAtPlaces → (lists : List (List Item)) → AreAllDriven d spots lists → (b : Bool) → (IsTrue b ↔ SomeWith HasBadDriverAt lists spots)
      → Decides b (HasBadDriver d)
  driver_so law lists all b told = decided b (SomeWith HasBadDriverAt lists spots) (HasBadDriver d) told (law d spots lists sound_places all)
