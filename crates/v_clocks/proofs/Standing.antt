-- Where the modules of a list of places stand, and what stands below a module by one of its connections.
use Rattle.std.proofs.Common.{◌≡◌, ◌∙◌, ℕ, ◌<◌, false, List, [], ◌∷◌, inl, inr, refl, sym, ap, subst, Option, Some, None, option_map, option_and_then, arith}
use Rattle.std.specs.Prelude.{slice_get, is_none, Contains}
use Rattle.wb_values.specs.Value.{Name}
use Rattle.verilog_trees.specs.Syntax.{Item, port, parameter, wires, variables, assign, always, instances, Connections, Module}
use Rattle.verilog_meaning.specs.Hierarchy.{PathStep, instance_step, Placed, placed_scope, placed_instance, placed_below, module_named, instance_named, Instance, constants_of, overrides_of}
use Rattle.verilog_meaning.specs.Settled.{Design, at_path, IsPlacedIn, Connection, instance_connections, port_connections}
use Rattle.verilog_designs.specs.Names.{has_duplicate, has_undeclared, uses_unknown, mentions, instantiates_unknown}
use Rattle.verilog_designs.specs.Known.{known_at}
use Rattle.verilog_designs.specs.Accepted.{HasDuplicateName}
use Rattle.verilog_unique.proofs.Options.{not_true, first_false, second_false}
use Rattle.verilog_unique.proofs.Descent.{IsAmong, among_contains}
use Rattle.verilog_unique.proofs.Paths.{stands_at, placed_in}
use Rattle.verilog_unique.proofs.Standing.{stands_in}
use Rattle.verilog_unique.proofs.Instances.{belongs}
use Rattle.v_places.specs.Below.{Spot}
use Rattle.v_places.specs.Places.{IsPathOf, placed_by, IsPlaceAt}
use Rattle.v_places.proofs.Spots.{get_within, same_some}
use Rattle.v_places.proofs.AtPaths.{placed_there, known_module, found_named}
use Rattle.v_clocks.specs.Whole.{AreKnownPlaces, AreFirst}
use Rattle.v_clocks.proofs.Belonging.{listed_connected, instance_there}

-- ---- one path leads to a number

one_path : (spots : List Spot) (k : ℕ) (p q : List PathStep) → IsPathOf spots k p → IsPathOf spots k q → p ≡ q
one_path spots k [] [] e f = refl
one_path spots k [] (v ∷ q) e (x, is, before, step, rest) = absurd (omega (arith, e, before))
one_path spots k (u ∷ p) [] (x, is, before, step, rest) f = absurd (omega (arith, f, before))
one_path spots k (u ∷ p) (v ∷ q) (x, is, before, step, rest) (y, is2, before2, step2, rest2) =
    let same : x ≡ y = same_some x y (sym is ∙ is2) in
    let head : u ≡ v = step ∙ ap (λ (z : Spot). instance_step z.instance) same ∙ sym step2 in
    let tail : p ≡ q = one_path spots x.parent p q rest (subst (λ (z : Spot). IsPathOf spots z.parent q) (sym same) rest2) in
    λ i. head i ∷ tail i

-- ---- modules that stand in the design

-- a module of the design, with its number
pub record IsFound (spots : List Spot) (p : Placed) : Type 0 where
  pub number : ℕ
  pub is_place : IsPlaceAt spots number p.path p

-- a module below another one, by the instance of one of its connections
pub record IsBelowBy (spots : List Spot) (k : ℕ) (around below : Placed) (c : Connection) : Type 0 where
  pub spot : Spot
  pub is_spot : slice_get spots k ≡ Some spot
  pub before : spot.parent < k
  pub is_module : below.of_module ≡ spot.of_module
  pub is_around : IsPlaceAt spots spot.parent around.path around
  pub is_connected : IsAmong (instance_connections spot.instance spot.connections) c

module _ (d : Design) (spots : List Spot) (h : AreKnownPlaces d spots) where
  pub place_path : (k : ℕ) (path : List PathStep) (p : Placed) → IsPlaceAt spots k path p → p.path ≡ path
  place_path k path p at = ap (λ (z : Placed). z.path) at.is_placed

  place_known : (k : ℕ) (path : List PathStep) (p : Placed) → IsPlaceAt spots k path p → known_at d.source d.top path ≡ Some p
  place_known k path p at =
      let s = h.places.each k (get_within spots k at.spot at.is_spot) in
      let same : path ≡ s.path = one_path spots k path s.path at.stands s.is_place.stands in
      let spot : at.spot ≡ s.is_place.spot = same_some at.spot s.is_place.spot (sym at.is_spot ∙ s.is_place.is_spot) in
      let place : p ≡ s.place = at.is_placed ∙ (λ i. placed_by (same i) (spot i)) ∙ sym s.is_place.is_placed in
      ap (known_at d.source d.top) same ∙ s.is_known ∙ ap Some (sym place)

  pub place_there : (k : ℕ) (path : List PathStep) (p : Placed) → IsPlaceAt spots k path p → at_path d path ≡ Some p
  place_there k path p at =
      let e = place_known k path p at in
      let q = placed_there d.source d.top path p e in
      let same : q.0 ≡ p
      = same_some q.0 p (sym (h.known q.0 (placed_in d path q.0 q.1)) ∙ ap (known_at d.source d.top) (stands_at d path q.0 q.1) ∙ e) in
      q.1 ∙ ap Some same

  pub place_placed : (k : ℕ) (path : List PathStep) (p : Placed) → IsPlaceAt spots k path p → IsPlacedIn d p
  place_placed k path p at = placed_in d path p (place_there k path p at)

  pub found : (p : Placed) → IsPlacedIn d p → IsFound spots p
  found p at = let f = h.places.all p.path p (h.known p at) in record { number = f.0; is_place = f.1 }

  pub are_first : AreFirst d.source spots
  are_first k x e =
      let s = h.places.each k (get_within spots k x e) in
      let m : s.place.of_module ≡ x.of_module
      = ap (λ (z : Placed). z.of_module) s.is_place.is_placed ∙ ap (λ (z : Spot). z.of_module) (same_some s.is_place.spot x (sym s.is_place.is_spot ∙ e)) in
      let at = sym (known_module d.source d.top s.path) ∙ ap (option_map (λ (z : Placed). z.of_module)) s.is_known ∙ ap Some m in
      found_named d.source d.top s.path x.of_module at

  pub fresh : (p : Placed) → IsPlacedIn d p → has_duplicate p.of_module ≡ false
  fresh p at = not_true (has_duplicate p.of_module) (λ t. h.no_duplicate (HasDuplicateName.names p.of_module (stands_in d p.path p at) t))

  -- ---- below a module

  pub below_by : (k : ℕ) (path : List PathStep) (around below : Placed) (c : Connection) → IsPlacedIn d around → Contains (port_connections around.of_module.items) c
      → at_path d (instance_step c.of_instance ∷ around.path) ≡ Some below → IsPlaceAt spots k path below → IsBelowBy spots k around below c
  below_by k path around below c placed stands is at = by_step (subst (IsPathOf spots k) is_path at.stands)
    where
      is_path : path ≡ instance_step c.of_instance ∷ around.path
      is_path = sym (place_path k path below at) ∙ stands_at d (instance_step c.of_instance ∷ around.path) below is

      by_step : IsPathOf spots k (instance_step c.of_instance ∷ around.path) → IsBelowBy spots k around below c
      by_step (x, is_x, before, step, rest) =
          let j = h.places.connected k x (omega (arith, before)) is_x in
          let f = found around placed in
          let one : f.number ≡ x.parent
          = h.places.once f.number x.parent around.path around (placed_by around.path j.outer) f.is_place (record { stands = rest; spot = j.outer; is_spot = j.is_outer; is_placed = refl }) in
          let there : IsPlaceAt spots x.parent around.path around = subst (λ n. IsPlaceAt spots n around.path around) one f.is_place in
          let outer : j.outer.of_module ≡ around.of_module
          = ap (λ (z : Spot). z.of_module) (same_some j.outer there.spot (sym j.is_outer ∙ there.is_spot)) ∙ ap (λ (z : Placed). z.of_module) (sym there.is_placed) in
          let name : c.of_instance ≡ x.instance = ap (λ (u : PathStep). u.of_name) step in
          let instance : instance_named around.of_module.items c.of_instance ≡ Some j.instance
          = ap (λ (m : Module). instance_named m.items c.of_instance) (sym outer) ∙ ap (instance_named j.outer.of_module.items) name ∙ j.is_instance in
          let one_of : IsAmong (instance_connections c.of_instance j.instance.connections) c
          = listed_connected around.of_module c j.instance (fresh around placed) (among_contains (port_connections around.of_module.items) c stands) instance in
          record {
            spot = x;
            is_spot = is_x;
            before = before;
            is_module = ap (λ (z : Placed). z.of_module) at.is_placed ∙ ap (λ (z : Spot). z.of_module) (same_some at.spot x (sym at.is_spot ∙ is_x));
            is_around = there;
            is_connected = subst (λ u. IsAmong (instance_connections u x.connections) c) name
                (subst (λ cs. IsAmong (instance_connections c.of_instance cs) c) (sym j.are_connections) one_of);
          }

  -- ---- each connection leads to a module

  named : (items : List Item) (m : Name) (given : Connections) (each : List (Name × Connections)) → instantiates_unknown d.source items ≡ false
      → IsAmong items (instances m given each) → is_none (module_named d.source m) ≡ false
  named [] m given each e i = absurd i
  named (y ∷ items) m given each e (inl i) = first_false (is_none (module_named d.source m)) (instantiates_unknown d.source items)
      (subst (λ (z : Item). instantiates_unknown d.source (z ∷ items) ≡ false) i e)
  named (y ∷ items) m given each e (inr i) = named items m given each (later y e) i
    where
      later : (z : Item) → instantiates_unknown d.source (z ∷ items) ≡ false → instantiates_unknown d.source items ≡ false
      later (port x) g = g
      later (parameter x) g = g
      later (wires s r ws) g = g
      later (variables s r vs) g = g
      later (assign ts) g = g
      later (always es x) g = g
      later (instances o gs js) g = second_false (is_none (module_named d.source o)) (instantiates_unknown d.source items) g

  there_is : (o : Option Module) → is_none o ≡ false → (m : Module) × (o ≡ Some m)
  there_is None e = cc
  there_is (Some m) e = (m, refl)

  pub leads : (p : Placed) (c : Connection) → IsPlacedIn d p → Contains (port_connections p.of_module.items) c
      → (b : Placed) × (at_path d (instance_step c.of_instance ∷ p.path) ≡ Some b)
  leads p c at stands =
      let b = belongs p.of_module.items c (among_contains (port_connections p.of_module.items) c stands) in
      let i : Instance = record { of_module = b.of_module; parameters = b.given; connections = b.connections } in
      let reached : instance_named p.of_module.items c.of_instance ≡ Some i = instance_there p.of_module c (fresh p at) b in
      let known : instantiates_unknown d.source p.of_module.items ≡ false
      = second_false (uses_unknown p.of_module [] (mentions p.of_module)) (instantiates_unknown d.source p.of_module.items)
      (not_true (has_undeclared d.source p.of_module) (λ t. h.no_undeclared (record { within = p.of_module; stands = stands_in d p.path p at; names_unknown = t }))) in
      let m = there_is (module_named d.source b.of_module) (named p.of_module.items b.of_module b.given b.each known b.is_item) in
      let u : PathStep = instance_step c.of_instance in (
        record { path = u ∷ p.path; of_module = m.0; constants = constants_of m.0 (overrides_of (placed_scope p) i.parameters m.0) },
        ap (option_and_then (placed_below d.source u)) at
            ∙ ap (option_and_then (placed_instance d.source (u ∷ p.path) (placed_scope p))) reached
            ∙ ap (option_map (λ (z : Module). record { path = u ∷ p.path; of_module = z; constants = constants_of z (overrides_of (placed_scope p) i.parameters z) })) m.1,
      )
