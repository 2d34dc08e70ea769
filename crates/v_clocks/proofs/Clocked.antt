-- The sets have the clock nets of the modules where they stand.
use Rattle.std.proofs.Common.{◌≡◌, ◌∙◌, ℕ, ◌+◌, true, List, [], ◌∷◌, length, refl, sym, ap, subst, Some, arith}
use Rattle.std.specs.Prelude.{slice_get}
use Rattle.wb_values.specs.Value.{Name}
use Rattle.verilog_trees.specs.Syntax.{input}
use Rattle.verilog_meaning.specs.Hierarchy.{PathStep, instance_step, Placed}
use Rattle.verilog_meaning.specs.Settled.{Design, at_path, IsPlacedIn, Connection, instance_connections, port_connections, port_meant, HasPort}
use Rattle.verilog_designs.specs.Clocks.{IsClockNet}
use Rattle.verilog_unique.proofs.Options.{same_is, is_same}
use Rattle.verilog_unique.proofs.Descent.{IsAmong, contains_among}
use Rattle.verilog_unique.proofs.Paths.{stands_at}
use Rattle.v_places.specs.Below.{Spot}
use Rattle.v_places.specs.Places.{IsPathOf, placed_by, IsPlaceAt}
use Rattle.v_places.proofs.Spots.{same_some}
use Rattle.v_clocks.specs.Nets.{nets_at, nets_of}
use Rattle.v_clocks.specs.Whole.{AreKnownPlaces, AreClockNets}
use Rattle.v_clocks.proofs.Nexts.{Nets, sets_length, set_is, set_there}
use Rattle.v_clocks.proofs.Belonging.{instance_of, connected_listed}
use Rattle.v_clocks.proofs.Given.{IsGiven, given_by, by_given}
use Rattle.v_clocks.proofs.Standing.{place_path, place_there, place_placed, below_by}

module _ (d : Design) (spots : List Spot) (h : AreKnownPlaces d spots) where
  abbrev nets : List Nets
  nets = nets_of d.clock spots

  -- what is in a set is a clock net
  given_clock : (path : List PathStep) (k : ℕ) (p : Placed) (own : Nets) → IsPlaceAt spots k path p → slice_get nets k ≡ Some own → (n : Name) → own n ≡ true → IsClockNet d p n
  given_clock [] k p own at g n t =
      let is = (set_is d.clock spots k at.spot own at.is_spot g).top at.stands in
      let clock : d.clock ≡ n = same_is d.clock n (sym (λ i. is i n) ∙ t) in
      subst (IsClockNet d p) clock (IsClockNet.at_top p (place_placed d spots h k [] p at) (place_path d spots h k [] p at))
  given_clock (u ∷ around) k p own at g n t = by_step (given_clock around) at.stands
    where
      by_step : ((i : ℕ) (q : Placed) (nets_there : Nets) → IsPlaceAt spots i around q → slice_get nets i ≡ Some nets_there → (m : Name) → nets_there m ≡ true → IsClockNet d q m)
          → IsPathOf spots k (u ∷ around) → IsClockNet d p n
      by_step outwards (x, is_x, before, step, rest) =
          let j = h.places.connected k x (omega (arith, before)) is_x in
          let is = (set_is d.clock spots k x own is_x g).below (omega (arith, before)) before in
          let outer : Placed = placed_by around j.outer in
          let at_outer : IsPlaceAt spots x.parent around outer = record { stands = rest; spot = j.outer; is_spot = j.is_outer; is_placed = refl } in
          let f = given_by (nets_at nets x.parent) x.of_module (instance_connections x.instance x.connections) n (sym (λ i. is i n) ∙ t) in
          let c : Connection = f.0 in
          let net : IsClockNet d outer f.2.net
          = outwards x.parent outer (nets_at nets x.parent) at_outer (set_there d.clock spots x.parent j.outer j.is_outer) f.2.net f.2.is_net in
          let name : x.instance ≡ c.of_instance = instance_of x.instance x.connections c f.1 in
          let listed : IsAmong (port_connections j.outer.of_module.items) c
          = connected_listed j.outer.of_module x.instance j.instance c j.is_instance
          (subst (λ cs. IsAmong (instance_connections x.instance cs) c) j.are_connections f.1) in
          let is_path : instance_step c.of_instance ∷ around ≡ u ∷ around = λ i. (ap instance_step (sym name) ∙ sym step) i ∷ around in
          let same : p.of_module ≡ x.of_module
          = ap (λ (z : Placed). z.of_module) at.is_placed ∙ ap (λ (z : Spot). z.of_module) (same_some at.spot x (sym at.is_spot ∙ is_x)) in
          IsClockNet.at_input outer p c f.2.net n net (contains_among (port_connections j.outer.of_module.items) c listed)
          (record {
            is_below = ap (at_path d) is_path ∙ place_there d spots h k (u ∷ around) p at;
            is_meant = subst (λ m. port_meant m c.to_port ≡ Some n) (sym same) f.2.is_meant;
            is_port = subst (λ m. HasPort m n input) (sym same) f.2.is_port;
          })
          f.2.is_whole

  -- a clock net is one of a module that stands in the design
  clock_placed : (p : Placed) (n : Name) → IsClockNet d p n → IsPlacedIn d p
  clock_placed p n (IsClockNet.at_top q at path) = at
  clock_placed p n (IsClockNet.at_input around below c m q net stands to is) =
      ap (at_path d) (stands_at d (instance_step c.of_instance ∷ around.path) below to.is_below) ∙ to.is_below

  -- a clock net is in the set
  clock_given : (p : Placed) (n : Name) → IsClockNet d p n → (k : ℕ) (path : List PathStep) (own : Nets) → IsPlaceAt spots k path p → slice_get nets k ≡ Some own → own n ≡ true
  clock_given p n (IsClockNet.at_top q placed top) k path own at g =
      let first : IsPathOf spots k [] = subst (IsPathOf spots k) (sym (place_path d spots h k path q at) ∙ top) at.stands in
      let is = (set_is d.clock spots k at.spot own at.is_spot g).top first in
      (λ i. is i d.clock) ∙ is_same d.clock
  clock_given p n (IsClockNet.at_input around below c m q net stands to is) k path own at g =
      let placed : IsPlacedIn d around = clock_placed around m net in
      let b = below_by d spots h k path around below c placed stands to.is_below at in
      let x : Spot = b.spot in
      let made = (set_is d.clock spots k x own b.is_spot g).below (let l = b.before in omega (arith, l)) b.before in
      let given : IsGiven (nets_at nets x.parent) x.of_module c q
      = record {
        net = m;
        is_net = clock_given around m net x.parent around.path (nets_at nets x.parent) b.is_around (set_there d.clock spots x.parent b.is_around.spot b.is_around.is_spot);
        is_whole = is;
        is_meant = subst (λ z. port_meant z c.to_port ≡ Some q) b.is_module to.is_meant;
        is_port = subst (λ z. HasPort z q input) b.is_module to.is_port;
      } in
      (λ i. made i q) ∙ by_given (nets_at nets x.parent) x.of_module (instance_connections x.instance x.connections) c q b.is_connected given

  pub are_clock_nets : AreClockNets d spots nets
  are_clock_nets =
      record {
        as_many = let l : length nets ≡ 0 + length spots = sets_length d.clock [] spots in omega (arith, l);
        each = λ k path p own at g n. (given_clock path k p own at g n, λ net. clock_given p n net k path own at g);
      }
