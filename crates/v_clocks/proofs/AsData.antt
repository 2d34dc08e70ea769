-- A clock net stands as data in some module of the list, or in what is connected to its instance, exactly where the design has one so.
use Rattle.std.proofs.Common.{◌≡◌, ◌∙◌, ℕ, zero, suc, ◌+◌, true, false, List, [], ◌∷◌, inl, inr, refl, sym, ap, subst, Some, None, arith}
use Rattle.std.specs.Prelude.{◌↔◌, slice_get, Contains, IsTrue}
use Rattle.std.specs.List.{list_any}
use Rattle.std.proofs.lemmas.Bool.{false≢true}
use Rattle.wb_values.specs.Value.{Name}
use Rattle.verilog_trees.specs.Syntax.{input, Module}
use Rattle.verilog_meaning.specs.Hierarchy.{PathStep, instance_step, Placed, module_named, constants_of}
use Rattle.verilog_meaning.specs.Settled.{Design, at_path, Connection, instance_connections, port_connections, port_meant, HasPort, whole_name}
use Rattle.verilog_designs.specs.Names.{names_in}
use Rattle.verilog_designs.specs.Clocks.{IsClockNet, names_in_module, HasClockAsData}
use Rattle.verilog_unique.proofs.Options.{either_true, left_true, right_true, from_map}
use Rattle.verilog_unique.proofs.Descent.{IsAmong, contains_among, among_contains}
use Rattle.verilog_unique.proofs.Paths.{stands_at}
use Rattle.v_places.specs.Below.{Spot, top_spot}
use Rattle.v_places.specs.Places.{IsPathOf, placed_by, IsPlaceAt}
use Rattle.v_places.proofs.Spots.{get_within, within_get, same_some}
use Rattle.v_clocks.specs.Uses.{is_whole_name, spot_uses}
use Rattle.v_clocks.specs.Nets.{nets_at}
use Rattle.v_clocks.specs.Data.{is_data, has_data_at, has_data_from, has_data}
use Rattle.v_clocks.specs.Whole.{AreKnownPlaces, AreClockNets}
use Rattle.v_clocks.proofs.Nexts.{Nets, get_there}
use Rattle.v_clocks.proofs.Belonging.{instance_of, connected_listed}
use Rattle.v_clocks.proofs.Given.{any_among, among_any, mentioned, mentions_it, name_of_whole, whole_is, one_name, input_port, port_input, as_given, data_by, by_data, data_mentions, mentioned_data}
use Rattle.v_clocks.proofs.Standing.{place_there, place_placed, found, below_by, leads}

-- ---- one of the places

some_place : (nets : List Nets) (k : ℕ) (xs : List Spot) → has_data_from nets k xs ≡ true → (j : ℕ) × (x : Spot) × (slice_get xs j ≡ Some x) × (has_data_at nets (k + j) x ≡ true)
some_place nets k [] h = absurd (false≢true h)
some_place nets k (x ∷ xs) h =
    elim (either_true (has_data_at nets k x) (has_data_from nets (k + 1) xs) h)
    as (λ _. (j : ℕ) × (y : Spot) × (slice_get (x ∷ xs) j ≡ Some y) × (has_data_at nets (k + j) y ≡ true)) [
      | inl e ↦ (0, x, refl, (let z : k + 0 ≡ k = omega arith in subst (λ m. has_data_at nets m x ≡ true) (sym z) e))
      | inr e ↦
          let r = some_place nets (k + 1) xs e in
          let z : k + 1 + r.0 ≡ k + suc r.0 = omega arith in
          (suc r.0, r.1, r.2, subst (λ m. has_data_at nets m r.1 ≡ true) z r.3)
    ]

place_some : (nets : List Nets) (k : ℕ) (xs : List Spot) (j : ℕ) (x : Spot) → slice_get xs j ≡ Some x → has_data_at nets (k + j) x ≡ true → has_data_from nets k xs ≡ true
place_some nets k [] j x e h = cc
place_some nets k (y ∷ xs) zero x e h =
    let z : k + 0 ≡ k = omega arith in
    left_true (has_data_at nets k y) (has_data_from nets (k + 1) xs)
    (subst (λ (s : Spot). has_data_at nets k s ≡ true) (sym (same_some y x e)) (subst (λ m. has_data_at nets m x ≡ true) z h))
place_some nets k (y ∷ xs) (suc j) x e h =
    let z : k + suc j ≡ k + 1 + j = omega arith in
    right_true (has_data_at nets k y) (has_data_from nets (k + 1) xs)
    (place_some nets (k + 1) xs j x e (subst (λ m. has_data_at nets m x ≡ true) z h))

-- ---- and the rule

module _ (d : Design) (spots : List Spot) (h : AreKnownPlaces d spots) (nets : List Nets) (are : AreClockNets d spots nets) where
  net_there : (k : ℕ) (x : Spot) → slice_get spots k ≡ Some x → slice_get nets k ≡ Some (nets_at nets k)
  net_there k x e =
      let l = get_within spots k x e in
      let n = are.as_many in
      let f = within_get nets k (omega (arith, l, n)) in
      f.1 ∙ ap Some (sym (get_there nets k f.0 (λ n. false) f.1))

  clock_net : (k : ℕ) (path : List PathStep) (p : Placed) → IsPlaceAt spots k path p → (n : Name) → nets_at nets k n ≡ true → IsClockNet d p n
  clock_net k path p at n t = (are.each k path p (nets_at nets k) at (net_there k at.spot at.is_spot) n).0 t

  net_clock : (k : ℕ) (path : List PathStep) (p : Placed) → IsPlaceAt spots k path p → (n : Name) → IsClockNet d p n → nets_at nets k n ≡ true
  net_clock k path p at n t = (are.each k path p (nets_at nets k) at (net_there k at.spot at.is_spot) n).1 t

  -- nothing is connected to the top
  unconnected : (k : ℕ) (path : List PathStep) (p : Placed) (x : Spot) → path ≡ [] → IsPlaceAt spots k path p → slice_get spots k ≡ Some x
      → list_any is_data (spot_uses (nets_at nets x.parent) x) ≡ true → ⊥
  unconnected k path p x none at e t =
      let first : k ≡ 0 = subst (IsPathOf spots k) none at.stands in
      let top = from_map (λ (m : Module). record { path = []; of_module = m; constants = constants_of m (λ n. None) }) (module_named d.source d.top) p
      (sym (ap (at_path d) none) ∙ place_there d spots h k path p at) in
      let same : x ≡ top_spot top.0 = same_some x (top_spot top.0) (sym e ∙ ap (slice_get spots) first ∙ h.places.first top.0 top.1) in
      false≢true (subst (λ (s : Spot). list_any is_data (spot_uses (nets_at nets x.parent) s) ≡ true) same t)

  as_data_below : (k : ℕ) (path : List PathStep) (p : Placed) (x : Spot) → IsPlaceAt spots k path p → slice_get spots k ≡ Some x
      → list_any is_data (spot_uses (nets_at nets x.parent) x) ≡ true → HasClockAsData d
  as_data_below k [] p x at e t = absurd (unconnected k [] p x refl at e t)
  as_data_below k (u ∷ around) p x at e t = by_step at.stands
    where
      by_step : IsPathOf spots k (u ∷ around) → HasClockAsData d
      by_step (y, is_y, before, step, rest) =
          let same : x ≡ y = same_some x y (sym e ∙ is_y) in
          let j = h.places.connected k y (omega (arith, before)) is_y in
          let outer : Placed = placed_by around j.outer in
          let at_outer : IsPlaceAt spots y.parent around outer = record { stands = rest; spot = j.outer; is_spot = j.is_outer; is_placed = refl } in
          let f = data_by (nets_at nets y.parent) y.of_module (instance_connections y.instance y.connections)
          (subst (λ (s : Spot). list_any is_data (spot_uses (nets_at nets s.parent) s) ≡ true) same t) in
          let c : Connection = f.0 in
          let m = data_mentions (nets_at nets y.parent) y.of_module c f.2 in
          let n = mentioned (nets_at nets y.parent) c.expression m in
          let name : y.instance ≡ c.of_instance = instance_of y.instance y.connections c f.1 in
          let listed : IsAmong (port_connections j.outer.of_module.items) c
          = connected_listed j.outer.of_module y.instance j.instance c j.is_instance
          (subst (λ cs. IsAmong (instance_connections y.instance cs) c) j.are_connections f.1) in
          let is_path : instance_step c.of_instance ∷ around ≡ u ∷ around = λ i. (ap instance_step (sym name) ∙ sym step) i ∷ around in
          let is_module : p.of_module ≡ y.of_module
          = ap (λ (z : Placed). z.of_module) at.is_placed ∙ ap (λ (z : Spot). z.of_module) (same_some at.spot y (sym at.is_spot ∙ is_y)) in
          HasClockAsData.in_connection outer n.0 c (place_placed d spots h y.parent around outer at_outer) (clock_net y.parent around outer at_outer n.0 n.2)
          (contains_among (port_connections j.outer.of_module.items) c listed) (contains_among (names_in c.expression) n.0 n.1)
          (λ w.
          let below : w.1 ≡ p
          = same_some w.1 p (sym w.3.is_below ∙ ap (at_path d) is_path ∙ place_there d spots h k (u ∷ around) p at) in
          let own : w.1.of_module ≡ y.of_module = ap (λ (z : Placed). z.of_module) below ∙ is_module in
          let stands = as_given (nets_at nets y.parent) y.of_module c w.2 (subst (λ z. port_meant z c.to_port ≡ Some w.2) own w.3.is_meant)
          (port_input y.of_module w.2 (subst (λ z. HasPort z w.2 input) own w.3.is_port)) (ap is_whole_name w.0 ∙ whole_is n.0) m in
          false≢true (sym (ap is_data stands) ∙ f.2))

  there : has_data nets spots ≡ true → HasClockAsData d
  there t =
      let f = some_place nets 0 spots t in
      let k : ℕ = f.0 in
      let x : Spot = f.1 in
      let same : 0 + k ≡ k = omega arith in
      let s = h.places.each k (get_within spots k x f.2) in
      elim (either_true (list_any (nets_at nets k) (names_in_module x.of_module)) (list_any is_data (spot_uses (nets_at nets x.parent) x))
      (subst (λ m. has_data_at nets m x ≡ true) same f.3)) as (λ _. HasClockAsData d) [
        | inl e ↦
            let n = any_among (nets_at nets k) (names_in_module x.of_module) e in
            let own : x.of_module ≡ s.place.of_module
            = ap (λ (z : Spot). z.of_module) (same_some x s.is_place.spot (sym f.2 ∙ s.is_place.is_spot)) ∙ ap (λ (z : Placed). z.of_module) (sym s.is_place.is_placed) in
            HasClockAsData.in_module s.place n.0 (place_placed d spots h k s.path s.place s.is_place) (clock_net k s.path s.place s.is_place n.0 n.2)
            (subst (λ m. Contains (names_in_module m) n.0) own (contains_among (names_in_module x.of_module) n.0 n.1))
        | inr e ↦ as_data_below k s.path s.place x s.is_place f.2 e
      ]

  at_place : (k : ℕ) (x : Spot) → slice_get spots k ≡ Some x → has_data_at nets k x ≡ true → has_data nets spots ≡ true
  at_place k x e t = let same : k ≡ 0 + k = omega arith in place_some nets 0 spots k x e (subst (λ m. has_data_at nets m x ≡ true) same t)

  back : HasClockAsData d → has_data nets spots ≡ true
  back (HasClockAsData.in_module p n at net stands) =
      let f = found d spots h p at in
      let x : Spot = f.is_place.spot in
      let own : p.of_module ≡ x.of_module = ap (λ (z : Placed). z.of_module) f.is_place.is_placed in
      at_place f.number x f.is_place.is_spot
      (left_true (list_any (nets_at nets f.number) (names_in_module x.of_module)) (list_any is_data (spot_uses (nets_at nets x.parent) x))
      (among_any (nets_at nets f.number) (names_in_module x.of_module) n
      (among_contains (names_in_module x.of_module) n (subst (λ m. Contains (names_in_module m) n) own stands))
      (net_clock f.number p.path p f.is_place n net)))
  back (HasClockAsData.in_connection p n c at net stands inside none) =
      let l = leads d spots h p c at stands in
      let below : Placed = l.0 in
      let f = found d spots h below (ap (at_path d) (place_path_of below l.1) ∙ l.1) in
      let b = below_by d spots h f.number below.path p below c at stands l.1 f.is_place in
      let x : Spot = b.spot in
      let around : Nets = nets_at nets x.parent in
      let is_net : around n ≡ true = net_clock x.parent p.path p b.is_around n net in
      let names = among_contains (names_in c.expression) n inside in
      at_place f.number x b.is_spot
      (right_true (list_any (nets_at nets f.number) (names_in_module x.of_module)) (list_any is_data (spot_uses around x))
      (by_data around x.of_module (instance_connections x.instance x.connections) c b.is_connected
      (mentioned_data around x.of_module c (mentions_it around c.expression n names is_net)
      (λ m meant is_in whole.
      let w = name_of_whole c.expression whole in
      let same : w.0 ≡ n = one_name w.0 n (subst (λ z. IsAmong (names_in z) n) w.1 names) in
      none (
        w.1 ∙ ap whole_name same,
        below,
        m,
        record {
          is_below = l.1;
          is_meant = subst (λ z. port_meant z c.to_port ≡ Some m) (sym b.is_module) meant;
          is_port = subst (λ z. HasPort z m input) (sym b.is_module) (input_port x.of_module m is_in);
        },
      )))))
    where
      place_path_of : (below : Placed) → at_path d (instance_step c.of_instance ∷ p.path) ≡ Some below → below.path ≡ instance_step c.of_instance ∷ p.path
      place_path_of below e = stands_at d (instance_step c.of_instance ∷ p.path) below e

  pub as_the_rule : IsTrue (has_data nets spots) ↔ HasClockAsData d
  as_the_rule = (there, back)
