-- The rules on blocks, place by place.
use Rattle.std.proofs.Common.{◌≡◌, ◌∙◌, ℕ, suc, ◌<◌, refl, ap, sym, subst, Bool, List, [], ◌∷◌, inl, Some, Contains}
use Rattle.std.specs.Prelude.{slice_get, IsTrue}
use Rattle.std.specs.List.{list_any}
use Rattle.wb_values.specs.Value.{Name}
use Rattle.verilog_trees.specs.Syntax.{Statement, Event, Events, Item, always, Module}
use Rattle.verilog_meaning.specs.Expression.{Scope}
use Rattle.verilog_meaning.specs.Register.{clocked_blocks, combinational_blocks}
use Rattle.verilog_meaning.specs.Hierarchy.{Placed, placed_scope}
use Rattle.verilog_meaning.specs.Settled.{Design, IsPlacedIn, assignments}
use Rattle.verilog_designs.specs.Clocks.{IsClockNet}
use Rattle.verilog_designs.specs.Paths.{IsClockEdge, IsBitEdge, IsEventList, HasBadEventList, has_blocking, has_nonblocking, HasBlockingInClocked, HasNonblockingInComb, HasLatch}
use Rattle.verilog_unique.proofs.Descent.{among_contains}
use Rattle.v_value.specs.Narrow.{HasNarrowObjects}
use Rattle.v_blocks.specs.Blocks.{is_blocking_in_clocked, is_nonblocking_in_combinational}
use Rattle.v_blocks.proofs.Blocks.{clocked, combinational}
use Rattle.v_paths.specs.Events.{IsClockEdgeIn, IsBitEdgeIn, IsEventListIn}
use Rattle.v_paths.specs.Modules.{AreFitItems, HasLatchIn, HasBadEventListIn}
use Rattle.flat_rules.proofs.Placed.{objects_are_in_bounds}
use Rattle.flat_rules.proofs.Drivers.{declared_name, link_unbroken, block_unbroken, clocked_unbroken}
use Rattle.flat_drivers.proofs.Reading.{net_without}
use Rattle.flat_fitting.specs.Fitting.{AreFitForAll}
use Rattle.flat_fitting.proofs.Fitting.{unbroken_drivers_are_fit}
use Rattle.v_places.specs.Below.{Spot}
use Rattle.v_places.proofs.Spots.{get_within, within_get}
use Rattle.place_kinds.specs.Places.{SomeSpot, SomeWith, spot_scope, IsReadySpot, AreReadySpots, HasBadEventListAt, HasLatchAt, has_blocking_in_clocked, has_nonblocking_in_combinational}
use Rattle.place_kinds.specs.Known.{HasSoundPlaces}
use Rattle.place_kinds.specs.Blocks.{PlacesAreReady, TellClockNets, EventListsAreAtPlaces, BlockingIsAtPlaces, NonblockingIsAtPlaces, LatchesAreAtPlaces}
use Rattle.place_kinds.proofs.Known.{one_passes, passing}
use Rattle.place_kinds.proofs.Places.{some_spot, spot_some, some_with, with_some, get_contains, contains_get, AtNumber, OfNumber, of_number, at_number, net_of_scope}

-- ---- what is asked of the blocks

pub placed_narrow : (d : Design) (spots : List Spot) → HasSoundPlaces d spots → (p : Placed) → IsPlacedIn d p → HasNarrowObjects (placed_scope p)
placed_narrow d spots h p at n = (objects_are_in_bounds d p n h.sound at).narrow

pub placed_fit : (d : Design) (spots : List Spot) → HasSoundPlaces d spots → (p : Placed) → IsPlacedIn d p → AreFitForAll (placed_scope p) p.of_module.items
placed_fit d spots h p at =
    unbroken_drivers_are_fit (placed_scope p) p.of_module.items (placed_narrow d spots h p at)
    (record {
      each_link = λ a c. link_unbroken d h.sound p at a (among_contains (assignments p.of_module.items) a c);
      each_block = λ x c. block_unbroken d h.sound p at x (among_contains (combinational_blocks p.of_module.items) x c);
      each_clocked = λ x c. clocked_unbroken d h.sound p at x (among_contains (clocked_blocks p.of_module.items) x c);
    })

ready_by : (xs : List Spot) → ((k : ℕ) (x : Spot) → slice_get xs k ≡ Some x → IsReadySpot x) → AreReadySpots xs
ready_by [] f = tt
ready_by (x ∷ xs) f = (f 0 x refl, ready_by xs (λ k y e. f (suc k) y e))

pub places_are_ready : PlacesAreReady
places_are_ready d spots h = ready_by spots (λ k x e. one k x (of_number d spots h k x e))
  where
    one : (k : ℕ) (x : Spot) → OfNumber d spots k x → IsReadySpot x
    one k x f =
        subst (λ (s : Scope). HasNarrowObjects s × AreFitItems s x.of_module.items) (sym f.scope) (
          placed_narrow d spots h f.place f.stands,
          subst (λ (m : Module). AreFitItems (placed_scope f.place) m.items) (ap (λ (z : Placed). z.of_module) f.is_placed) (placed_fit d spots h f.place f.stands).for_paths,
        )

-- ---- latches

module _ (d : Design) (spots : List Spot) (h : HasSoundPlaces d spots) where
  -- what is so in the scope and of the module of a place
  pub to_spot : (R : Scope → Module → Type 0) (p : Placed) (f : AtNumber d spots p) → R (placed_scope p) p.of_module → R (spot_scope f.spot) f.spot.of_module
  to_spot R p f r =
      subst (λ (s : Scope). R s f.spot.of_module) (sym f.scope) (subst (λ (m : Module). R (placed_scope p) m) (ap (λ (z : Placed). z.of_module) f.is_placed) r)

  pub of_spot : (R : Scope → Module → Type 0) (k : ℕ) (x : Spot) (f : OfNumber d spots k x) → R (spot_scope x) x.of_module → R (placed_scope f.place) f.place.of_module
  of_spot R k x f r =
      subst (λ (m : Module). R (placed_scope f.place) m) (sym (ap (λ (z : Placed). z.of_module) f.is_placed)) (subst (λ (s : Scope). R s x.of_module) f.scope r)

  latch_of : (p : Placed) → IsPlacedIn d p → HasLatchIn (placed_scope p) p.of_module.items → HasLatch d
  latch_of p at l =
      record {
        place = p;
        statement = l.statement;
        name = l.latched.name;
        word = l.latched.word;
        bit = l.latched.bit;
        is_placed = at;
        stands = l.stands;
        is_variable = l.latched.is_variable;
        is_bit = l.latched.is_bit;
        is_assigned = l.latched.is_assigned;
        latched = l.latched.latched;
      }

  latch_in : (l : HasLatch d) → HasLatchIn (placed_scope l.place) l.place.of_module.items
  latch_in l =
      record {
        statement = l.statement;
        stands = l.stands;
        latched = record { name = l.name; word = l.word; bit = l.bit; is_variable = l.is_variable; is_bit = l.is_bit; is_assigned = l.is_assigned; latched = l.latched };
      }

  pub latches : SomeSpot HasLatchAt spots → HasLatch d
  latches s =
      let r = spot_some HasLatchAt spots s in
      let f = of_number d spots h r.0 r.1 r.2 in
      latch_of f.place f.stands (of_spot (λ t m. HasLatchIn t m.items) r.0 r.1 f r.3)

  pub latches_back : HasLatch d → SomeSpot HasLatchAt spots
  latches_back l =
      let f = at_number d spots h l.place l.is_placed in
      some_spot HasLatchAt spots f.number f.spot f.is_spot (to_spot (λ t m. HasLatchIn t m.items) l.place f (latch_in l))

  -- ---- blocks with assignments of the wrong kind

  module _ (test : Statement → Bool) (item_test : Item → Bool) (blocks : List Item → List Statement)
      (same : (items : List Item) → list_any test (blocks items) ≡ list_any item_test items) where
    record HasBlock : Type 0 where
      pub place : Placed
      pub statement : Statement
      pub is_placed : IsPlacedIn d place
      pub stands : Contains (blocks place.of_module.items) statement
      pub is_so : IsTrue (test statement)

    block_there : IsTrue (list_any (λ (x : Spot). list_any item_test x.of_module.items) spots) → HasBlock
    block_there t =
        let r = passing (λ (x : Spot). list_any item_test x.of_module.items) spots t in
        let f = of_number d spots h r.0 r.1 r.2 in
        let module_is : r.1.of_module ≡ f.place.of_module = sym (ap (λ (z : Placed). z.of_module) f.is_placed) in
        let q = passing test (blocks r.1.of_module.items) (same r.1.of_module.items ∙ r.3) in
        record {
          place = f.place;
          statement = q.1;
          is_placed = f.stands;
          stands = subst (λ (m : Module). Contains (blocks m.items) q.1) module_is (get_contains (blocks r.1.of_module.items) q.0 q.1 q.2);
          is_so = q.3;
        }

    block_back : HasBlock → IsTrue (list_any (λ (x : Spot). list_any item_test x.of_module.items) spots)
    block_back b =
        let f = at_number d spots h b.place b.is_placed in
        let c : Contains (blocks f.spot.of_module.items) b.statement =
        subst (λ (m : Module). Contains (blocks m.items) b.statement) (ap (λ (z : Placed). z.of_module) f.is_placed) b.stands in
        let q = contains_get (blocks f.spot.of_module.items) b.statement c in
        one_passes (λ (x : Spot). list_any item_test x.of_module.items) spots f.number f.spot f.is_spot
        (sym (same f.spot.of_module.items) ∙ one_passes test (blocks f.spot.of_module.items) q.0 b.statement q.1 b.is_so)

  pub blocking_there : IsTrue (list_any has_blocking_in_clocked spots) → HasBlockingInClocked d
  blocking_there t =
      let b = block_there has_blocking is_blocking_in_clocked clocked_blocks clocked t in
      record { place = b.place; statement = b.statement; is_placed = b.is_placed; stands = b.stands; blocks = b.is_so }

  pub blocking_back : HasBlockingInClocked d → IsTrue (list_any has_blocking_in_clocked spots)
  blocking_back b =
      block_back has_blocking is_blocking_in_clocked clocked_blocks clocked
      (record { place = b.place; statement = b.statement; is_placed = b.is_placed; stands = b.stands; is_so = b.blocks })

  pub waiting_there : IsTrue (list_any has_nonblocking_in_combinational spots) → HasNonblockingInComb d
  waiting_there t =
      let b = block_there has_nonblocking is_nonblocking_in_combinational combinational_blocks combinational t in
      record { place = b.place; statement = b.statement; is_placed = b.is_placed; stands = b.stands; waits = b.is_so }

  pub waiting_back : HasNonblockingInComb d → IsTrue (list_any has_nonblocking_in_combinational spots)
  waiting_back b =
      block_back has_nonblocking is_nonblocking_in_combinational combinational_blocks combinational
      (record { place = b.place; statement = b.statement; is_placed = b.is_placed; stands = b.stands; is_so = b.waits })

  -- ---- lists of events

  module _ (p : Placed) (at : IsPlacedIn d p) (is_clock : Name → Bool) (tells : (n : Name) → (IsTrue (is_clock n) → IsClockNet d p n) × (IsClockNet d p n → IsTrue (is_clock n))) where
    clock_edge : (e : Event) → IsClockEdgeIn is_clock e → IsClockEdge d p e
    clock_edge e k = (k.0, (tells e.signal).0 k.1)

    edge_clock : (e : Event) → IsClockEdge d p e → IsClockEdgeIn is_clock e
    edge_clock e k = (k.0, (tells e.signal).1 k.1)

    bit_edge : (e : Event) → IsBitEdgeIn (placed_scope p) e → IsBitEdge p e
    bit_edge e k =
        record { edge = k.edge; is_declared = net_of_scope d p e.signal at k.is_declared k.no_constant; no_memory = k.no_memory; one_bit = k.one_bit }

    edge_bit : (e : Event) → IsBitEdge p e → IsBitEdgeIn (placed_scope p) e
    edge_bit e k =
        record {
          edge = k.edge;
          is_declared = declared_name d h.sound p at e.signal (inl k.is_declared);
          no_constant = net_without d h.sound.names_declared h.sound.names_once h.ports p e.signal at k.is_declared;
          no_memory = k.no_memory;
          one_bit = k.one_bit;
        }

    in_design : (x : Statement) (es : Events) → IsEventListIn (placed_scope p) is_clock x es → IsEventList d p x es
    in_design x _ IsEventListIn.star = IsEventList.star
    in_design x _ (IsEventListIn.one_clock c k) = IsEventList.one_clock c (clock_edge c k)
    in_design x _ (IsEventListIn.clock_first c f k b a) = IsEventList.clock_first c f (clock_edge c k) (bit_edge f b) a
    in_design x _ (IsEventListIn.clock_second c f k b a) = IsEventList.clock_second c f (clock_edge c k) (bit_edge f b) a
    in_design x _ (IsEventListIn.names es c) = IsEventList.names es (record { plain = c.plain; covers = c.covers })

    in_module : (x : Statement) (es : Events) → IsEventList d p x es → IsEventListIn (placed_scope p) is_clock x es
    in_module x _ IsEventList.star = IsEventListIn.star
    in_module x _ (IsEventList.one_clock c k) = IsEventListIn.one_clock c (edge_clock c k)
    in_module x _ (IsEventList.clock_first c f k b a) = IsEventListIn.clock_first c f (edge_clock c k) (edge_bit f b) a
    in_module x _ (IsEventList.clock_second c f k b a) = IsEventListIn.clock_second c f (edge_clock c k) (edge_bit f b) a
    in_module x _ (IsEventList.names es c) = IsEventListIn.names es (record { plain = c.plain; covers = c.covers })

    bad_of : HasBadEventListIn (placed_scope p) is_clock p.of_module.items → HasBadEventList d
    bad_of l =
        record {
          place = p;
          events = l.events;
          statement = l.statement;
          is_placed = at;
          stands = l.stands;
          bad = λ k. l.bad (in_module l.statement l.events k);
        }

    bad_in : (es : Events) (x : Statement) → Contains p.of_module.items (always es x) → (IsEventList d p x es → ⊥) → HasBadEventListIn (placed_scope p) is_clock p.of_module.items
    bad_in es x c b = record { events = es; statement = x; stands = c; bad = λ k. b (in_design x es k) }

  module _ (tests : List (Name → Bool)) (tell : TellClockNets d spots tests) where
    pub events_there : SomeWith HasBadEventListAt tests spots → HasBadEventList d
    events_there s =
        let r = with_some HasBadEventListAt tests spots s in
        let f = of_number d spots h r.number r.spot r.is_spot in
        bad_of f.place f.stands r.beside (tell.each r.number f.place.path f.place r.beside f.is_place r.is_beside)
        (of_spot (λ t m. HasBadEventListIn t r.beside m.items) r.number r.spot f r.is_so)

    pub events_back : HasBadEventList d → SomeWith HasBadEventListAt tests spots
    events_back l =
        let f = at_number d spots h l.place l.is_placed in
        let within = get_within spots f.number f.spot f.is_spot in
        let test = within_get tests f.number (subst (λ n. f.number < n) (sym tell.as_many) within) in
        some_with HasBadEventListAt tests spots f.number test.0 f.spot test.1 f.is_spot
        (to_spot (λ t m. HasBadEventListIn t test.0 m.items) l.place f
        (bad_in l.place l.is_placed test.0 (tell.each f.number l.place.path l.place test.0 f.is_place test.1) l.events l.statement l.stands l.bad))

pub event_lists_are_at_places : EventListsAreAtPlaces
event_lists_are_at_places d spots tests h tell = (events_there d spots h tests tell, events_back d spots h tests tell)

pub blocking_is_at_places : BlockingIsAtPlaces
blocking_is_at_places d spots h = (blocking_there d spots h, blocking_back d spots h)

pub nonblocking_is_at_places : NonblockingIsAtPlaces
nonblocking_is_at_places d spots h = (waiting_there d spots h, waiting_back d spots h)

pub latches_are_at_places : LatchesAreAtPlaces
latches_are_at_places d spots h = (latches d spots h, latches_back d spots h)
