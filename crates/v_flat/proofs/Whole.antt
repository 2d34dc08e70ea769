-- A list of places gives a design in one scope.
use Rattle.std.proofs.Common.{◌≡◌, Bool, true, false, cond, ℕ, zero, suc, ◌+◌, ◌<◌, List, [], ◌∷◌, ◌++◌, map, length, ◌⊎◌, inl, inr, refl, sym, ap, ◌∙◌, subst, Some, None, arith}
use Rattle.std.specs.Prelude.{◌≢◌, ◌↔◌, slice_get, Contains, IsTrue}
use Rattle.std.proofs.lemmas.List.{append-nil}
use Rattle.wb_values.specs.Value.{Name, same_name, Entries, entry_of}
use Rattle.verilog_trees.specs.Syntax.{Expression, Target, Statement, Direction, input, output, by_order, Item, assign, Module, Source}
use Rattle.verilog_meaning.specs.Expression.{Object, Scope, scope_of, undeclared, object_or_undeclared}
use Rattle.verilog_meaning.specs.Register.{clocked_blocks, combinational_blocks}
use Rattle.verilog_meaning.specs.Hierarchy.{PathStep, instance_step, Placed, placed_scope, placed_instance, placed_below, module_named, constants_of, Overrides, overrides_of, no_overrides, all_parameters, instance_reached, instance_named, Instance, declarations}
use Rattle.verilog_meaning.specs.Settled.{Design, at_path, IsPlacedIn, assignments, Connection, instance_connections, port_connections}
use Rattle.verilog_designs.specs.Names.{is_among, parameter_names, has_duplicate}
use Rattle.verilog_designs.specs.Known.{known_module_scope}
use Rattle.verilog_designs.specs.Accepted.{HasDuplicateName}
use Rattle.verilog_unique.proofs.Options.{same_is, is_same, not_true, left_true, right_true, from_map, from_chain}
use Rattle.verilog_unique.proofs.Descent.{IsAmong, among_left, among_right, among_either, contains_among, among_contains}
use Rattle.verilog_unique.proofs.Parameters.{placed_constants}
use Rattle.verilog_unique.proofs.Paths.{stands_at}
use Rattle.verilog_unique.proofs.Fitting.{module_name_of}
use Rattle.verilog_unique.proofs.Ports.{port_is_declared}
use Rattle.verilog_unique.proofs.Standing.{stands_in}
use Rattle.verilog_renamed.specs.Renamed.{renamed_assignment, renamed_assignments, renamed_statement, renamed_blocks}
use Rattle.verilog_renamed.specs.EachName.{EachInStatement}
use Rattle.verilog_renamed.proofs.EachName.{each_follows, target_follows, statement_follows}
use Rattle.verilog_renamed.proofs.Paths.{ap2}
use Rattle.flat_designs.specs.Flat.{IsNameOf, Naming, IsLink, to_input, of_output, IsFlatLink, of_module, of_connection, IsFlatBlock, of_block, IsFlatClocked}
use Rattle.flat_designs.specs.Edge.{clocked_in_turn, AreInTextOrder}
use Rattle.flat_designs.proofs.Known.{in_assigned, in_right_side, in_block, in_clocked, in_connection, one_place}
use Rattle.flat_designs.proofs.Edge.{modules_in_turn_are_in_order}
use Rattle.v_scopes.specs.Rows.{rows}
use Rattle.v_scopes.proofs.Objects.{whole_so}
use Rattle.v_places.specs.Below.{Spot}
use Rattle.v_places.specs.Places.{placed_by, IsConnected}
use Rattle.v_places.proofs.Spots.{get_among, among_get, get_within, within_get, same_some}
use Rattle.v_flat.specs.Paths.{IsRowOf, paths_of, placed_at_paths, placed_of}
use Rattle.v_flat.specs.Entries.{module_entries, spot_entries, SpotNames, spot_names, names_of, naming_of, flat_entries}
use Rattle.v_flat.specs.Links.{connection_link, connection_links}
use Rattle.v_flat.specs.Items.{own_items, naming_at, spot_links, spot_items, items_from, inputs_from, all_items}
use Rattle.v_flat.specs.Whole.{IsPlacing, AreCalled, IsFlatDesign}
use Rattle.v_flat.proofs.Alike.{Alike, statement_alike, assignment_alike}
use Rattle.v_flat.proofs.Places.{IsIn, IsAt, at_number, number_at, at_path_number, apart_numbers, paths_length}
use Rattle.v_flat.proofs.Items as items
use Rattle.v_flat.proofs.Links.{links_alike, of_one, one_of, link_found, link_listed}
use Rattle.v_flat.proofs.Instances.{instance_of, connected_listed, listed_connected}
use Rattle.v_flat.proofs.Named.{keys, HasEntry, keyed_some, declared_entry, constant_entry, entry_cases, parameters_keyed, renamed_there, naming_found, get_names, names_of_spot, scope_entries, nowhere_found, somewhere_found, own_found, others_found}

-- ---- lists made of each element of a list

map_from : {A B : Type 0} (f : A → B) (xs : List A) (y : B) → IsAmong (map f xs) y → (x : A) × IsAmong xs x × (f x ≡ y)
map_from f [] y h = absurd h
map_from f (x ∷ xs) y (inl e) = (x, inl refl, e)
map_from f (x ∷ xs) y (inr h) = let r = map_from f xs y h in (r.0, inr r.1, r.2)

map_to : {A B : Type 0} (f : A → B) (xs : List A) (x : A) → IsAmong xs x → IsAmong (map f xs) (f x)
map_to f [] x h = absurd h
map_to f (y ∷ xs) x (inl e) = inl (ap f e)
map_to f (y ∷ xs) x (inr h) = inr (map_to f xs x h)

blocks_alike : (f g : Name → Name) (xs : List Statement) → ((x : Statement) → IsAmong xs x → renamed_statement f x ≡ renamed_statement g x)
    → renamed_blocks f xs ≡ renamed_blocks g xs
blocks_alike f g [] h = refl
blocks_alike f g (x ∷ xs) h = λ i. h x (inl refl) i ∷ blocks_alike f g xs (λ y k. h y (inr k)) i

assignments_alike : (f g : Name → Name) (xs : List (Target × Expression)) → ((x : Target × Expression) → IsAmong xs x → renamed_assignment f x ≡ renamed_assignment g x)
    → renamed_assignments f xs ≡ renamed_assignments g xs
assignments_alike f g [] h = refl
assignments_alike f g (x ∷ xs) h = λ i. h x (inl refl) i ∷ assignments_alike f g xs (λ y k. h y (inr k)) i

name_among : (ns : List Name) (n : Name) → IsAmong ns n → IsTrue (is_among ns n)
name_among [] n h = absurd h
name_among (m ∷ ns) n (inl e) = left_true (same_name m n) (is_among ns n) (subst (λ k. same_name m k ≡ true) e (is_same m))
name_among (m ∷ ns) n (inr h) = right_true (same_name m n) (is_among ns n) (name_among ns n h)

-- a module has the name by which it is found
named_is : (ms : Source) (n : Name) (m : Module) → module_named ms n ≡ Some m → m.module_name ≡ n
named_is [] n m e = cc
named_is (k ∷ ms) n m e = chosen (same_name k.module_name n) (same_is k.module_name n) (named_is ms n m) e
  where
    chosen : (b : Bool) → (b ≡ true → k.module_name ≡ n) → (module_named ms n ≡ Some m → m.module_name ≡ n) → cond b (Some k) (module_named ms n) ≡ Some m
        → m.module_name ≡ n
    chosen true f g i = sym (ap (λ (z : Module). z.module_name) (same_some k m i)) ∙ f refl
    chosen false f g i = g i

-- ---- the constants of a module that stands in the design

record HasGiven (p : Placed) : Type 0 where
  given : Overrides
  is_given : constants_of p.of_module given ≡ p.constants

instance_given : (source : Source) (path : List PathStep) (s : Scope) (i : Instance) (p : Placed) → placed_instance source path s i ≡ Some p → HasGiven p
instance_given source path s i p e =
    let f = from_map (λ (m : Module). record { path = path; of_module = m; constants = constants_of m (overrides_of s i.parameters m) }) (module_named source i.of_module) p e in
    subst HasGiven f.2 (record { given = overrides_of s i.parameters f.0; is_given = refl })

placed_given : (d : Design) (path : List PathStep) (p : Placed) → at_path d path ≡ Some p → HasGiven p
placed_given d [] p e =
    let f = from_map (λ (m : Module). record { path = []; of_module = m; constants = constants_of m no_overrides }) (module_named d.source d.top) p e in
    subst HasGiven f.2 (record { given = no_overrides; is_given = refl })
placed_given d (u ∷ around) p e =
    let outer = from_chain (placed_below d.source u) (at_path d around) p e in
    let inner = from_chain (placed_instance d.source (u ∷ outer.0.path) (placed_scope outer.0)) (instance_reached outer.0.of_module.items u) p outer.2 in
    instance_given d.source (u ∷ outer.0.path) (placed_scope outer.0) inner.0 p inner.2

-- the instance that a step leads to
record IsReached (d : Design) (u : Name) (r b : Placed) : Type 0 where
  instance : Instance
  is_instance : instance_named r.of_module.items u ≡ Some instance

reached : (d : Design) (u : Name) (r b : Placed) → IsPlacedIn d r → at_path d (instance_step u ∷ r.path) ≡ Some b → IsReached d u r b
reached d u r b at e =
    let outer = from_chain (placed_below d.source (instance_step u)) (at_path d r.path) b e in
    let same : outer.0 ≡ r = same_some outer.0 r (sym outer.1 ∙ at) in
    let inner = from_chain (placed_instance d.source (instance_step u ∷ outer.0.path) (placed_scope outer.0)) (instance_reached outer.0.of_module.items (instance_step u)) b outer.2 in
    record { instance = inner.0; is_instance = subst (λ (z : Placed). instance_named z.of_module.items u ≡ Some inner.0) same inner.1 }

-- ---- the names of a module

module _ (d : Design) (p : Placed) (at : IsPlacedIn d p) where
  name_keyed : (n : Name) → IsNameOf p n → IsAmong (keys (module_entries p.of_module p.constants)) n
  name_keyed n (inl h) = declared_entry p.of_module p.constants n h
  name_keyed n (inr h) = constant_entry p.of_module p.constants n ((placed_constants d p.path p at).all n h)

  keyed_name : (n : Name) → IsAmong (keys (module_entries p.of_module p.constants)) n → IsNameOf p n
  keyed_name n h =
      let g = placed_given d p.path p at in
      elim (entry_cases p.of_module p.constants n h) as (λ _. IsNameOf p n) [
        | inl k ↦ inl k
        | inr k ↦ inr (name_among (parameter_names (all_parameters p.of_module)) n
            (subst (λ ns. IsAmong ns n) (parameters_keyed (all_parameters p.of_module) g.given [])
            (subst (λ (es : Entries Object). IsAmong (keys es) n) (sym g.is_given) k)))
      ]

-- ---- items of all modules

plus-none : (k : ℕ) → k + 0 ≡ k
plus-none k = omega arith

-- blocks of items: clocked ones, or combinational ones
module _ (called : Naming) (sel : List Item → List Statement) (appended : (xs ys : List Item) → sel (xs ++ ys) ≡ sel xs ++ sel ys)
    (owned : (f : Name → Name) (xs : List Item) → sel (own_items f xs) ≡ renamed_blocks f (sel xs)) (empty : sel [] ≡ []) (none : (ts : List (Target × Expression)) → sel (assign ts ∷ []) ≡ []) where
  abbrev in_turn : List Placed → List Statement
  in_turn [] = []
  in_turn (p ∷ ps) = renamed_blocks (called p.path) (sel p.of_module.items) ++ in_turn ps

  one_spot : (f g : Name → Name) (x : Spot) → sel (spot_items f g x) ≡ renamed_blocks g (sel x.of_module.items)
  one_spot f g x =
      appended (own_items g x.of_module.items) (assign (spot_links output f g x) ∷ [])
      ∙ ap (λ ys. sel (own_items g x.of_module.items) ++ ys) (none (spot_links output f g x))
      ∙ append-nil (sel (own_items g x.of_module.items)) ∙ owned g x.of_module.items

  turn_from : (fs : List (Name → Name)) (qs : List (List PathStep)) (xs : List Spot) (k : ℕ) → length qs ≡ length xs
      → ((j : ℕ) (q : List PathStep) (x : Spot) → slice_get qs j ≡ Some q → slice_get xs j ≡ Some x
      → renamed_blocks (naming_at fs (k + j)) (sel x.of_module.items) ≡ renamed_blocks (called q) (sel x.of_module.items))
      → sel (items_from fs k xs) ≡ in_turn (placed_at_paths qs xs)
  turn_from fs [] [] k l h = empty
  turn_from fs [] (x ∷ xs) k l h = absurd (omega (arith, l))
  turn_from fs (q ∷ qs) [] k l h = absurd (omega (arith, l))
  turn_from fs (q ∷ qs) (x ∷ xs) k l h =
      let f = naming_at fs x.parent in
      let g = naming_at fs k in
      let here : renamed_blocks g (sel x.of_module.items) ≡ renamed_blocks (called q) (sel x.of_module.items)
      = subst (λ m. renamed_blocks (naming_at fs m) (sel x.of_module.items) ≡ renamed_blocks (called q) (sel x.of_module.items)) (plus-none k) (h 0 q x refl refl) in
      let rest : sel (items_from fs (k + 1) xs) ≡ in_turn (placed_at_paths qs xs)
      = turn_from fs qs xs (k + 1) (omega (arith, l)) (λ j r y e i.
      let number : k + suc j ≡ k + 1 + j = omega arith in
      subst (λ m. renamed_blocks (naming_at fs m) (sel y.of_module.items) ≡ renamed_blocks (called r) (sel y.of_module.items)) number (h (suc j) r y e i)) in
      appended (spot_items f g x) (items_from fs (k + 1) xs) ∙ ap2 (λ as_ bs. as_ ++ bs) (one_spot f g x ∙ here) rest

-- ---- the assignments of all modules

-- an assignment of the module with a number, or of the outputs of its instance
record IsDriven (fs : List (Name → Name)) (k : ℕ) (xs : List Spot) (a : Target × Expression) : Type 0 where
  number : ℕ
  spot : Spot
  is_spot : slice_get xs number ≡ Some spot
  is_one : IsAmong (renamed_assignments (naming_at fs (k + number)) (assignments spot.of_module.items)) a
      ⊎ IsAmong (spot_links output (naming_at fs spot.parent) (naming_at fs (k + number)) spot) a

spot_assigned : (f g : Name → Name) (x : Spot) → assignments (spot_items f g x) ≡ renamed_assignments g (assignments x.of_module.items) ++ spot_links output f g x
spot_assigned f g x =
    items.assigned_append (own_items g x.of_module.items) (assign (spot_links output f g x) ∷ [])
    ∙ ap2 (λ as_ bs. as_ ++ bs) (items.own_assigned g x.of_module.items) (append-nil (spot_links output f g x))

driven_from : (fs : List (Name → Name)) (k : ℕ) (xs : List Spot) (a : Target × Expression) → IsAmong (assignments (items_from fs k xs)) a → IsDriven fs k xs a
driven_from fs k [] a h = absurd h
driven_from fs k (x ∷ xs) a h =
    let f = naming_at fs x.parent in
    let g = naming_at fs k in
    elim (among_either (assignments (spot_items f g x)) (assignments (items_from fs (k + 1) xs)) a
    (subst (λ ys. IsAmong ys a) (items.assigned_append (spot_items f g x) (items_from fs (k + 1) xs)) h)) as (λ _. IsDriven fs k (x ∷ xs) a) [
      | inl i ↦ record {
        number = 0;
        spot = x;
        is_spot = refl;
        is_one = subst (λ m. IsAmong (renamed_assignments (naming_at fs m) (assignments x.of_module.items)) a ⊎ IsAmong (spot_links output f (naming_at fs m) x) a)
            (sym (plus-none k))
            (among_either (renamed_assignments g (assignments x.of_module.items)) (spot_links output f g x) a (subst (λ ys. IsAmong ys a) (spot_assigned f g x) i));
      }
      | inr i ↦
          let r = driven_from fs (k + 1) xs a i in
          let number : k + 1 + r.number ≡ k + suc r.number = omega arith in
          record {
            number = suc r.number;
            spot = r.spot;
            is_spot = r.is_spot;
            is_one = subst (λ m. IsAmong (renamed_assignments (naming_at fs m) (assignments r.spot.of_module.items)) a
                ⊎ IsAmong (spot_links output (naming_at fs r.spot.parent) (naming_at fs m) r.spot) a) number r.is_one;
          }
    ]

from_driven : (fs : List (Name → Name)) (k : ℕ) (xs : List Spot) (j : ℕ) (x : Spot) (a : Target × Expression) → slice_get xs j ≡ Some x
    → IsAmong (assignments (spot_items (naming_at fs x.parent) (naming_at fs (k + j)) x)) a → IsAmong (assignments (items_from fs k xs)) a
from_driven fs k [] j x a e h = cc
from_driven fs k (y ∷ xs) zero x a e h =
    let f = naming_at fs y.parent in
    let g = naming_at fs k in
    subst (λ ys. IsAmong ys a) (sym (items.assigned_append (spot_items f g y) (items_from fs (k + 1) xs)))
    (among_left (assignments (spot_items f g y)) (assignments (items_from fs (k + 1) xs)) a
    (subst (λ (z : Spot). IsAmong (assignments (spot_items (naming_at fs z.parent) g z)) a) (sym (same_some y x e))
    (subst (λ m. IsAmong (assignments (spot_items (naming_at fs x.parent) (naming_at fs m) x)) a) (plus-none k) h)))
from_driven fs k (y ∷ xs) (suc j) x a e h =
    let f = naming_at fs y.parent in
    let g = naming_at fs k in
    let number : k + suc j ≡ k + 1 + j = omega arith in
    subst (λ ys. IsAmong ys a) (sym (items.assigned_append (spot_items f g y) (items_from fs (k + 1) xs)))
    (among_right (assignments (spot_items f g y)) (assignments (items_from fs (k + 1) xs)) a
    (from_driven fs (k + 1) xs j x a e (subst (λ m. IsAmong (assignments (spot_items (naming_at fs x.parent) (naming_at fs m) x)) a) number h)))

-- what drives the inputs of a module with a number
record IsInput (fs : List (Name → Name)) (k : ℕ) (xs : List Spot) (a : Target × Expression) : Type 0 where
  number : ℕ
  spot : Spot
  is_spot : slice_get xs number ≡ Some spot
  is_one : IsAmong (spot_links input (naming_at fs spot.parent) (naming_at fs (k + number)) spot) a

input_from : (fs : List (Name → Name)) (k : ℕ) (xs : List Spot) (a : Target × Expression) → IsAmong (inputs_from fs k xs) a → IsInput fs k xs a
input_from fs k [] a h = absurd h
input_from fs k (x ∷ xs) a h =
    elim (among_either (spot_links input (naming_at fs x.parent) (naming_at fs k) x) (inputs_from fs (k + 1) xs) a h) as (λ _. IsInput fs k (x ∷ xs) a) [
      | inl i ↦ record {
        number = 0;
        spot = x;
        is_spot = refl;
        is_one = subst (λ m. IsAmong (spot_links input (naming_at fs x.parent) (naming_at fs m) x) a) (sym (plus-none k)) i;
      }
      | inr i ↦
          let r = input_from fs (k + 1) xs a i in
          let number : k + 1 + r.number ≡ k + suc r.number = omega arith in
          record {
            number = suc r.number;
            spot = r.spot;
            is_spot = r.is_spot;
            is_one = subst (λ m. IsAmong (spot_links input (naming_at fs r.spot.parent) (naming_at fs m) r.spot) a) number r.is_one;
          }
    ]

from_input : (fs : List (Name → Name)) (k : ℕ) (xs : List Spot) (j : ℕ) (x : Spot) (a : Target × Expression) → slice_get xs j ≡ Some x
    → IsAmong (spot_links input (naming_at fs x.parent) (naming_at fs (k + j)) x) a → IsAmong (inputs_from fs k xs) a
from_input fs k [] j x a e h = cc
from_input fs k (y ∷ xs) zero x a e h =
    among_left (spot_links input (naming_at fs y.parent) (naming_at fs k) y) (inputs_from fs (k + 1) xs) a
    (subst (λ (z : Spot). IsAmong (spot_links input (naming_at fs z.parent) (naming_at fs k) z) a) (sym (same_some y x e))
    (subst (λ m. IsAmong (spot_links input (naming_at fs x.parent) (naming_at fs m) x) a) (plus-none k) h))
from_input fs k (y ∷ xs) (suc j) x a e h =
    let number : k + suc j ≡ k + 1 + j = omega arith in
    among_right (spot_links input (naming_at fs y.parent) (naming_at fs k) y) (inputs_from fs (k + 1) xs) a
    (from_input fs (k + 1) xs j x a e (subst (λ m. IsAmong (spot_links input (naming_at fs x.parent) (naming_at fs m) x) a) number h))

-- ---- one design

-- the module with a number stands in the design, at its path
pub record Stands (d : Design) (spots : List Spot) (k : ℕ) (x : Spot) (q : List PathStep) : Type 0 where
  pub is_at : IsAt spots k x q
  pub in_design : IsPlacedIn d (placed_by q x)

pub record IsFound (d : Design) (spots : List Spot) (p : Placed) : Type 0 where
  pub number : ℕ
  pub spot : Spot
  pub path : List PathStep
  pub stands : Stands d spots number spot path
  pub is_placed : placed_by path spot ≡ p

pub record IsAround (d : Design) (spots : List Spot) (k : ℕ) (x : Spot) (q : List PathStep) : Type 0 where
  pub spot : Spot
  pub path : List PathStep
  pub stands : Stands d spots x.parent spot path
  pub before : x.parent < k
  pub is_path : q ≡ instance_step x.instance ∷ path
  pub instance : Instance
  pub is_instance : instance_named spot.of_module.items x.instance ≡ Some instance
  pub are_connections : x.connections ≡ instance.connections

module _ (d : Design) (spots : List Spot) (h : IsPlacing d spots) where
  pub listed : (k : ℕ) (x : Spot) (q : List PathStep) → IsAt spots k x q → Stands d spots k x q
  listed k x q i =
      record {
        is_at = i;
        in_design = (h.placed.are_placed (placed_by q x)).0 (contains_among (placed_of spots) (placed_by q x) (get_among (placed_of spots) k (placed_by q x) i.is_listed));
      }

  pub found : (p : Placed) → IsPlacedIn d p → IsFound d spots p
  found p at =
      let f = among_get (placed_of spots) p (among_contains (placed_of spots) p ((h.placed.are_placed p).1 at)) in
      let i = number_at spots f.0 p f.1 in
      record { number = f.0; spot = i.spot; path = i.path; stands = listed f.0 i.spot i.path i.is_at; is_placed = i.is_placed }

  pub one_number : (i j : ℕ) (x y : Spot) (q r : List PathStep) → Stands d spots i x q → Stands d spots j y r → q ≡ r → i ≡ j
  one_number i j x y q r s t e = apart_numbers (placed_of spots) h.placed.apart i j (placed_by q x) (placed_by r y) s.is_at.is_listed t.is_at.is_listed e

  -- ---- the module around one

  pub around : (k : ℕ) (x : Spot) (q : List PathStep) → Stands d spots k x q → IsIn (paths_of spots) k x q → IsAround d spots k x q
  around k x q s i =
      let f = at_path_number spots x.parent i.around i.is_around in
      let less : x.parent < k = i.before in
      let c : IsConnected spots x = h.connected k x (omega (arith, less)) s.is_at.is_spot in
      let same : c.outer ≡ f.0 = same_some c.outer f.0 (sym c.is_outer ∙ f.1.is_spot) in
      record {
        spot = f.0;
        path = i.around;
        stands = listed x.parent f.0 i.around f.1;
        before = i.before;
        is_path = i.is_path;
        instance = c.instance;
        is_instance = subst (λ (z : Spot). instance_named z.of_module.items x.instance ≡ Some c.instance) same c.is_instance;
        are_connections = c.are_connections;
      }

  pub top_number : (k : ℕ) (x : Spot) (q : List PathStep) → Stands d spots k x q → q ≡ [] → k ≡ 0
  top_number k x q s e =
      let l = get_within spots k x s.is_at.is_spot in
      let y = within_get spots 0 (omega (arith, l)) in
      let f = at_number spots 0 y.0 y.1 in
      let t : Stands d spots 0 y.0 f.path = listed 0 y.0 f.path f.is_at in
      let zero-path : f.path ≡ [] = elim f.is_at.is_path as (λ _. f.path ≡ []) [ inl i ↦ (let b : y.0.parent < 0 = i.before in absurd (omega (arith, b))) | inr i ↦ i.is_path ] in
      one_number k 0 x y.0 q f.path s t (e ∙ sym zero-path)

  on_top : (k : ℕ) (x : Spot) (q : List PathStep) → Stands d spots k x q → q ≡ [] → x.connections ≡ by_order []
  on_top k x q s e = h.alone x (subst (λ j. slice_get spots j ≡ Some x) (top_number k x q s e) s.is_at.is_spot)

  pub fresh : (p : Placed) → IsPlacedIn d p → has_duplicate p.of_module ≡ false
  fresh p at = not_true (has_duplicate p.of_module) (λ t. h.no_duplicate (HasDuplicateName.names p.of_module (stands_in d p.path p at) t))

  -- ---- rows

  pub row_of : (k : ℕ) (x : Spot) → slice_get spots k ≡ Some x → IsRowOf d.source (length spots) x
  row_of k x e =
      let f = at_number spots k x e in
      let s : Stands d spots k x f.path = listed k x f.path f.is_at in
      let l = get_within spots k x e in
      let m = module_name_of d f.path (placed_by f.path x) s.in_design in (
        subst (λ n. module_named d.source n ≡ Some x.of_module) (sym (named_is d.source m.0 x.of_module m.1)) m.1,
        elim f.is_at.is_path as (λ _. (x.connections ≡ by_order []) ⊎ (x.parent < length spots)) [
          | inl i ↦ inr (let b : x.parent < k = i.before in omega (arith, l, b))
          | inr i ↦ inl (on_top k x f.path s i.is_path)
        ],
      )

  -- ---- under a naming

  module _ (called : Naming) (names : List SpotNames) (are : AreCalled d called spots names) where
    abbrev fs : List (Name → Name)
    fs = map naming_of (names_of called spots)

    names_there : (k : ℕ) (x : Spot) (q : List PathStep) → Stands d spots k x q → slice_get (names_of called spots) k ≡ Some (spot_names (called q []) x)
    names_there k x q s = get_names called (paths_of spots) spots k q x s.is_at.is_there s.is_at.is_spot

    -- the new name of a module's name is what it is called
    named : (k : ℕ) (x : Spot) (q : List PathStep) → Stands d spots k x q → (n : Name) → IsNameOf (placed_by q x) n → naming_at fs k n ≡ called q n
    named k x q s n is =
        ap (λ f. f n) (naming_found (names_of called spots) k (spot_names (called q []) x) (names_there k x q s))
        ∙ renamed_there (called q []) n (spot_entries x) (name_keyed d (placed_by q x) s.in_design n is)
        ∙ are.fronts q n

    -- ---- connections

    module _ (k : ℕ) (x : Spot) (q : List PathStep) (s : Stands d spots k x q) (r : IsAround d spots k x q) where
      outer : Placed
      outer = placed_by r.path r.spot

      spot_connections : List Connection
      spot_connections = instance_connections x.instance x.connections

      is_ported : (c : Connection) → IsAmong (instance_connections x.instance x.connections) c → IsAmong (port_connections r.spot.of_module.items) c
      is_ported c i =
          connected_listed r.spot.of_module x.instance r.instance c r.is_instance (subst (λ cs. IsAmong (instance_connections x.instance cs) c) r.are_connections i)

      same_links : (way : Direction) → spot_links way (naming_at fs x.parent) (naming_at fs k) x
          ≡ connection_links way (called r.path) (called q) x.of_module (instance_connections x.instance x.connections)
      same_links way =
          links_alike (naming_at fs x.parent) (called r.path) (naming_at fs k) (called q) x.of_module
          (λ n w i. named k x q s n (inl (port_is_declared (placed_by q x) n w i))) way (instance_connections x.instance x.connections)
          (λ c i. each_follows (IsNameOf (placed_by r.path r.spot)) (Alike (naming_at fs x.parent) (called r.path)) (named x.parent r.spot r.path r.stands) c.expression
          (in_connection d h.no_undeclared (placed_by r.path r.spot) r.stands.in_design c (is_ported c i)))

      below_it : (c : Connection) → x.instance ≡ c.of_instance → at_path d (instance_step c.of_instance ∷ r.path) ≡ Some (placed_by q x)
      below_it c e =
          subst (λ u. at_path d (instance_step u ∷ r.path) ≡ Some (placed_by q x)) e (subst (λ p. at_path d p ≡ Some (placed_by q x)) r.is_path s.in_design)

      is_flat : (way : Direction) (a : Target × Expression) → IsAmong (spot_links way (naming_at fs x.parent) (naming_at fs k) x) a → IsFlatLink d called a
      is_flat way a i =
          let o = of_one way (called r.path) (called q) x.of_module (instance_connections x.instance x.connections) a (subst (λ as_. IsAmong as_ a) (same_links way) i) in
          let c : Connection = o.one in
          let e : x.instance ≡ c.of_instance = instance_of x.instance x.connections c o.is_one in
          of_connection (placed_by r.path r.spot) c a r.stands.in_design (contains_among (port_connections r.spot.of_module.items) c (is_ported c o.is_one))
          (link_found d called (placed_by r.path r.spot) (placed_by q x) c (below_it c e) a way o.is_link)

      is_listed : (way : Direction) (c : Connection) (a : Target × Expression) → IsAmong (instance_connections x.instance x.connections) c
          → IsAmong (connection_link way (called r.path) (called q) x.of_module c) a → IsAmong (spot_links way (naming_at fs x.parent) (naming_at fs k) x) a
      is_listed way c a i j =
          subst (λ as_. IsAmong as_ a) (sym (same_links way)) (one_of way (called r.path) (called q) x.of_module (instance_connections x.instance x.connections) c a i j)

    none_on_top : (way : Direction) (k : ℕ) (x : Spot) (f g : Name → Name) (a : Target × Expression) → x.connections ≡ by_order []
        → IsAmong (spot_links way f g x) a → IsFlatLink d called a
    none_on_top way k x f g a e i =
        absurd (subst (λ cs. IsAmong (connection_links way f g x.of_module (instance_connections x.instance cs)) a) e i)

    links_flat : (way : Direction) (k : ℕ) (x : Spot) (a : Target × Expression) → slice_get spots k ≡ Some x
        → IsAmong (spot_links way (naming_at fs x.parent) (naming_at fs k) x) a → IsFlatLink d called a
    links_flat way k x a e i =
        let f = at_number spots k x e in
        let s : Stands d spots k x f.path = listed k x f.path f.is_at in
        elim f.is_at.is_path as (λ _. IsFlatLink d called a) [
          | inl j ↦ is_flat k x f.path s (around k x f.path s j) way a i
          | inr j ↦ none_on_top way k x (naming_at fs x.parent) (naming_at fs k) a (on_top k x f.path s j.is_path) i
        ]

    -- ---- assignments and blocks of modules

    module _ (k : ℕ) (x : Spot) (q : List PathStep) (s : Stands d spots k x q) where
      same_assigned : renamed_assignments (naming_at fs k) (assignments x.of_module.items) ≡ renamed_assignments (called q) (assignments x.of_module.items)
      same_assigned =
          assignments_alike (naming_at fs k) (called q) (assignments x.of_module.items)
          (λ a i. assignment_alike (naming_at fs k) (called q) a
          (target_follows (IsNameOf (placed_by q x)) (Alike (naming_at fs k) (called q)) (named k x q s) a.0 (in_assigned d h.no_undeclared (placed_by q x) s.in_design a i))
          (each_follows (IsNameOf (placed_by q x)) (Alike (naming_at fs k) (called q)) (named k x q s) a.1 (in_right_side d h.no_undeclared (placed_by q x) s.in_design a i)))

      same_block : (y : Statement) → EachInStatement (IsNameOf (placed_by q x)) y → renamed_statement (naming_at fs k) y ≡ renamed_statement (called q) y
      same_block y i = statement_alike (naming_at fs k) (called q) y (statement_follows (IsNameOf (placed_by q x)) (Alike (naming_at fs k) (called q)) (named k x q s) y i)

    assigned_flat : (k : ℕ) (x : Spot) (a : Target × Expression) → slice_get spots k ≡ Some x
        → IsAmong (renamed_assignments (naming_at fs k) (assignments x.of_module.items)) a → IsFlatLink d called a
    assigned_flat k x a e i =
        let f = at_number spots k x e in
        let s : Stands d spots k x f.path = listed k x f.path f.is_at in
        let r = map_from (renamed_assignment (called f.path)) (assignments x.of_module.items) a (subst (λ as_. IsAmong as_ a) (same_assigned k x f.path s) i) in
        subst (IsFlatLink d called) r.2 (of_module (placed_by f.path x) r.0 s.in_design (contains_among (assignments x.of_module.items) r.0 r.1))

    -- ---- all assignments

    abbrev links : List (Target × Expression)
    links = assignments (all_items fs spots)

    links_parts : links ≡ assignments (items_from fs 0 spots) ++ (inputs_from fs 0 spots ++ [])
    links_parts = items.assigned_append (items_from fs 0 spots) (assign (inputs_from fs 0 spots) ∷ [])

    from_zero : (k : ℕ) → 0 + k ≡ k
    from_zero k = omega arith

    link_is_flat : (a : Target × Expression) → IsAmong links a → IsFlatLink d called a
    link_is_flat a i =
        elim (among_either (assignments (items_from fs 0 spots)) (inputs_from fs 0 spots ++ []) a (subst (λ as_. IsAmong as_ a) links_parts i)) as (λ _. IsFlatLink d called a) [
          | inl j ↦ driven (driven_from fs 0 spots a j)
          | inr j ↦ fed (input_from fs 0 spots a (subst (λ as_. IsAmong as_ a) (append-nil (inputs_from fs 0 spots)) j))
        ]
      where
        driven : IsDriven fs 0 spots a → IsFlatLink d called a
        driven r =
            elim r.is_one as (λ _. IsFlatLink d called a) [
              | inl j ↦ assigned_flat r.number r.spot a r.is_spot (subst (λ m. IsAmong (renamed_assignments (naming_at fs m) (assignments r.spot.of_module.items)) a) (from_zero r.number) j)
              | inr j ↦ links_flat output r.number r.spot a r.is_spot (subst (λ m. IsAmong (spot_links output (naming_at fs r.spot.parent) (naming_at fs m) r.spot) a) (from_zero r.number) j)
            ]

        fed : IsInput fs 0 spots a → IsFlatLink d called a
        fed r = links_flat input r.number r.spot a r.is_spot (subst (λ m. IsAmong (spot_links input (naming_at fs r.spot.parent) (naming_at fs m) r.spot) a) (from_zero r.number) r.is_one)

    -- an assignment of the module with a number, or of its outputs
    module _ (k : ℕ) (x : Spot) (e : slice_get spots k ≡ Some x) (a : Target × Expression) where
      own_there : IsAmong (assignments (spot_items (naming_at fs x.parent) (naming_at fs k) x)) a → IsAmong links a
      own_there i =
          subst (λ as_. IsAmong as_ a) (sym links_parts)
          (among_left (assignments (items_from fs 0 spots)) (inputs_from fs 0 spots ++ []) a
          (from_driven fs 0 spots k x a e (subst (λ m. IsAmong (assignments (spot_items (naming_at fs x.parent) (naming_at fs m) x)) a) (sym (from_zero k)) i)))

      input_there : IsAmong (spot_links input (naming_at fs x.parent) (naming_at fs k) x) a → IsAmong links a
      input_there i =
          subst (λ as_. IsAmong as_ a) (sym links_parts)
          (among_right (assignments (items_from fs 0 spots)) (inputs_from fs 0 spots ++ []) a
          (subst (λ as_. IsAmong as_ a) (sym (append-nil (inputs_from fs 0 spots)))
          (from_input fs 0 spots k x a e (subst (λ m. IsAmong (spot_links input (naming_at fs x.parent) (naming_at fs m) x) a) (sym (from_zero k)) i))))

      assigned_there : IsAmong (renamed_assignments (naming_at fs k) (assignments x.of_module.items)) a → IsAmong links a
      assigned_there i =
          own_there (subst (λ as_. IsAmong as_ a) (sym (spot_assigned (naming_at fs x.parent) (naming_at fs k) x))
          (among_left (renamed_assignments (naming_at fs k) (assignments x.of_module.items)) (spot_links output (naming_at fs x.parent) (naming_at fs k) x) a i))

      output_there : IsAmong (spot_links output (naming_at fs x.parent) (naming_at fs k) x) a → IsAmong links a
      output_there i =
          own_there (subst (λ as_. IsAmong as_ a) (sym (spot_assigned (naming_at fs x.parent) (naming_at fs k) x))
          (among_right (renamed_assignments (naming_at fs k) (assignments x.of_module.items)) (spot_links output (naming_at fs x.parent) (naming_at fs k) x) a i))

    below_of : (r : Placed) (c : Connection) (a : Target × Expression) → IsLink d called r c a → (b : Placed) × (at_path d (instance_step c.of_instance ∷ r.path) ≡ Some b)
    below_of r c _ (to_input b n to) = (b, to.is_below)
    below_of r c _ (of_output b n t to e) = (b, to.is_below)

    head_is : (u v : PathStep) (q r : List PathStep) → u ∷ q ≡ v ∷ r → (u ≡ v) × (q ≡ r)
    head_is u v q r e = (cc, cc)

    connection_there : (r : Placed) (c : Connection) (a : Target × Expression) → IsPlacedIn d r → IsAmong (port_connections r.of_module.items) c → IsLink d called r c a
        → IsAmong links a
    connection_there r c a at i l = by_below (below_of r c a l)
      where
        -- y is the module below, and z the one around it, which is r
        by_around : (k : ℕ) (y : Spot) (q : List PathStep) (s : Stands d spots k y q) → at_path d (instance_step c.of_instance ∷ r.path) ≡ Some (placed_by q y)
            → q ≡ instance_step c.of_instance ∷ r.path → (z : IsAround d spots k y q) → IsAmong links a
        by_around k y q s e g z =
            let both = head_is (instance_step y.instance) (instance_step c.of_instance) z.path r.path (sym z.is_path ∙ g) in
            let name : y.instance ≡ c.of_instance = ap (λ (u : PathStep). u.of_name) both.0 in
            let same : placed_by z.path z.spot ≡ r = same_some (placed_by z.path z.spot) r (sym z.stands.in_design ∙ ap (at_path d) both.1 ∙ at) in
            let link : IsLink d called (placed_by z.path z.spot) c a = subst (λ p. IsLink d called p c a) (sym same) l in
            let ported : IsAmong (port_connections z.spot.of_module.items) c = subst (λ (p : Placed). IsAmong (port_connections p.of_module.items) c) (sym same) i in
            let instance : instance_named z.spot.of_module.items c.of_instance ≡ Some z.instance
            = subst (λ u. instance_named z.spot.of_module.items u ≡ Some z.instance) name z.is_instance in
            let one : IsAmong (instance_connections y.instance y.connections) c
            = subst (λ u. IsAmong (instance_connections u y.connections) c) (sym name)
            (subst (λ cs. IsAmong (instance_connections c.of_instance cs) c) (sym z.are_connections)
            (listed_connected z.spot.of_module c z.instance (fresh (placed_by z.path z.spot) z.stands.in_design) ported instance)) in
            elim (link_listed d called (placed_by z.path z.spot) (placed_by q y) c (below_it k y q s z c name) a link) as (λ _. IsAmong links a) [
              | inl j ↦ input_there k y s.is_at.is_spot a (is_listed k y q s z input c a one j)
              | inr j ↦ output_there k y s.is_at.is_spot a (is_listed k y q s z output c a one j)
            ]

        by_found : (b : Placed) → at_path d (instance_step c.of_instance ∷ r.path) ≡ Some b → IsFound d spots b → IsAmong links a
        by_found b e f =
            let path : f.path ≡ instance_step c.of_instance ∷ r.path
            = ap (λ (z : Placed). z.path) f.is_placed ∙ stands_at d (instance_step c.of_instance ∷ r.path) b e in
            let there : at_path d (instance_step c.of_instance ∷ r.path) ≡ Some (placed_by f.path f.spot)
            = subst (λ z. at_path d (instance_step c.of_instance ∷ r.path) ≡ Some z) (sym f.is_placed) e in
            elim f.stands.is_at.is_path as (λ _. IsAmong links a) [
              | inl j ↦ by_around f.number f.spot f.path f.stands there path (around f.number f.spot f.path f.stands j)
              | inr j ↦ absurd (no_path (sym j.is_path ∙ path))
            ]
          where
            no_path : [] ≡ instance_step c.of_instance ∷ r.path → ⊥
            no_path k = cc

        by_below : (b : Placed) × (at_path d (instance_step c.of_instance ∷ r.path) ≡ Some b) → IsAmong links a
        by_below b =
            by_found b.0 b.1 (found b.0 (subst (λ z. at_path d z ≡ Some b.0) (sym (stands_at d (instance_step c.of_instance ∷ r.path) b.0 b.1)) b.1))

    flat_is_link : (a : Target × Expression) → IsFlatLink d called a → IsAmong links a
    flat_is_link _ (of_module p a at i) =
        let f = found p at in
        let moved : IsAmong (assignments f.spot.of_module.items) a
        = subst (λ (z : Placed). IsAmong (assignments z.of_module.items) a) (sym f.is_placed) (among_contains (assignments p.of_module.items) a i) in
        subst (λ (z : Placed). IsAmong links (renamed_assignment (called z.path) a)) f.is_placed
        (assigned_there f.number f.spot f.stands.is_at.is_spot (renamed_assignment (called f.path) a)
        (subst (λ as_. IsAmong as_ (renamed_assignment (called f.path) a)) (sym (same_assigned f.number f.spot f.path f.stands))
        (map_to (renamed_assignment (called f.path)) (assignments f.spot.of_module.items) a moved)))
    flat_is_link _ (of_connection p c a at i l) = connection_there p c a at (among_contains (port_connections p.of_module.items) c i) l

    -- ---- blocks

    abbrev blocks : List Statement
    blocks = combinational_blocks (all_items fs spots)

    abbrev clocked : List Statement
    clocked = clocked_blocks (all_items fs spots)

    as_many : length (paths_of spots) ≡ length spots
    as_many = let l : length (paths_of spots) ≡ 0 + length spots = paths_length [] spots in omega (arith, l)

    at_paths : (j : ℕ) (q : List PathStep) (x : Spot) → slice_get (paths_of spots) j ≡ Some q → slice_get spots j ≡ Some x → Stands d spots (0 + j) x q
    at_paths j q x e g =
        let f = at_number spots j x g in
        subst (λ r. Stands d spots (0 + j) x r) (same_some f.path q (sym f.is_at.is_there ∙ e))
        (subst (λ m. Stands d spots m x f.path) (sym (from_zero j)) (listed j x f.path f.is_at))

    clocked_turns : clocked ≡ in_turn called clocked_blocks items.clocked_append items.own_clocked refl (λ ts. refl) (placed_of spots)
    clocked_turns =
        items.clocked_append (items_from fs 0 spots) (assign (inputs_from fs 0 spots) ∷ []) ∙ append-nil (clocked_blocks (items_from fs 0 spots))
        ∙ turn_from called clocked_blocks items.clocked_append items.own_clocked refl (λ ts. refl) fs (paths_of spots) spots 0 as_many
        (λ j q x e g. let s = at_paths j q x e g in
        blocks_alike (naming_at fs (0 + j)) (called q) (clocked_blocks x.of_module.items)
        (λ y i. same_block (0 + j) x q s y (in_clocked d h.no_undeclared (placed_by q x) s.in_design y i)))

    combinational_turns : blocks ≡ in_turn called combinational_blocks items.combinational_append items.own_combinational refl (λ ts. refl) (placed_of spots)
    combinational_turns =
        items.combinational_append (items_from fs 0 spots) (assign (inputs_from fs 0 spots) ∷ []) ∙ append-nil (combinational_blocks (items_from fs 0 spots))
        ∙ turn_from called combinational_blocks items.combinational_append items.own_combinational refl (λ ts. refl) fs (paths_of spots) spots 0 as_many
        (λ j q x e g. let s = at_paths j q x e g in
        blocks_alike (naming_at fs (0 + j)) (called q) (combinational_blocks x.of_module.items)
        (λ y i. same_block (0 + j) x q s y (in_block d h.no_undeclared (placed_by q x) s.in_design y i)))

    same_turns : (ps : List Placed) → in_turn called clocked_blocks items.clocked_append items.own_clocked refl (λ ts. refl) ps ≡ clocked_in_turn called ps
    same_turns [] = refl
    same_turns (p ∷ ps) = ap (λ xs. renamed_blocks (called p.path) (clocked_blocks p.of_module.items) ++ xs) (same_turns ps)

    clocked_are : clocked ≡ clocked_in_turn called (placed_of spots)
    clocked_are = clocked_turns ∙ same_turns (placed_of spots)

    abbrev turns : List Placed → List Statement
    turns ps = in_turn called combinational_blocks items.combinational_append items.own_combinational refl (λ ts. refl) ps

    turns_flat : (ps : List Placed) → ((p : Placed) → IsAmong ps p → IsPlacedIn d p) → (y : Statement) → IsAmong (turns ps) y → IsFlatBlock d called y
    turns_flat [] f y i = absurd i
    turns_flat (p ∷ ps) f y i =
        elim (among_either (renamed_blocks (called p.path) (combinational_blocks p.of_module.items)) (turns ps) y i) as (λ _. IsFlatBlock d called y) [
          | inl j ↦ let r = map_from (renamed_statement (called p.path)) (combinational_blocks p.of_module.items) y j in
              subst (IsFlatBlock d called) r.2 (of_block p r.0 (f p (inl refl)) (contains_among (combinational_blocks p.of_module.items) r.0 r.1))
          | inr j ↦ turns_flat ps (λ z k. f z (inr k)) y j
        ]

    flat_turns : (ps : List Placed) (p : Placed) (y : Statement) → IsAmong ps p → IsAmong (combinational_blocks p.of_module.items) y
        → IsAmong (turns ps) (renamed_statement (called p.path) y)
    flat_turns [] p y i k = absurd i
    flat_turns (z ∷ ps) p y (inl e) k =
        among_left (renamed_blocks (called z.path) (combinational_blocks z.of_module.items)) (turns ps) (renamed_statement (called p.path) y)
        (subst (λ (w : Placed). IsAmong (renamed_blocks (called w.path) (combinational_blocks w.of_module.items)) (renamed_statement (called p.path) y)) (sym e)
        (map_to (renamed_statement (called p.path)) (combinational_blocks p.of_module.items) y k))
    flat_turns (z ∷ ps) p y (inr i) k =
        among_right (renamed_blocks (called z.path) (combinational_blocks z.of_module.items)) (turns ps) (renamed_statement (called p.path) y) (flat_turns ps p y i k)

    block_is_flat : (y : Statement) → IsAmong blocks y → IsFlatBlock d called y
    block_is_flat y i =
        turns_flat (placed_of spots) (λ p k. (h.placed.are_placed p).0 (contains_among (placed_of spots) p k)) y (subst (λ ys. IsAmong ys y) combinational_turns i)

    flat_is_block : (y : Statement) → IsFlatBlock d called y → IsAmong blocks y
    flat_is_block _ (of_block p x at i) =
        subst (λ ys. IsAmong ys (renamed_statement (called p.path) x)) (sym combinational_turns)
        (flat_turns (placed_of spots) p x (among_contains (placed_of spots) p ((h.placed.are_placed p).1 at)) (among_contains (combinational_blocks p.of_module.items) x i))

    -- ---- names

    abbrev entries : Entries Object
    entries = flat_entries (names_of called spots)

    -- another module has no name that is called as one of this one
    other_names : (k : ℕ) (x : Spot) (q : List PathStep) → Stands d spots k x q → (n : Name) → IsNameOf (placed_by q x) n
        → (j : ℕ) (z : SpotNames) → slice_get (names_of called spots) j ≡ Some z → j ≢ k → entry_of (scope_entries z) (called q n) ≡ None
    other_names k x q s n is j z e apart =
        let f = names_of_spot called (paths_of spots) spots j z e in
        let t : Stands d spots (0 + j) f.spot f.path = at_paths j f.path f.spot f.is_path f.is_spot in
        subst (λ (w : SpotNames). entry_of (scope_entries w) (called q n) ≡ None) f.is_names
        (others_found (called f.path []) (spot_entries f.spot) (called q n)
        (λ m key i.
        let one = one_place d called are.naming (placed_by f.path f.spot) (placed_by q x) m n t.in_design s.in_design
        (keyed_name d (placed_by f.path f.spot) t.in_design m key) is (sym (are.fronts f.path m) ∙ i) in
        let number : 0 + j ≡ k = one_number (0 + j) k f.spot x f.path q t s (ap (λ (p : Placed). p.path) one.0) in
        apart (sym (from_zero j) ∙ number)))

    known_entries : (x : Spot) → scope_of (spot_entries x) ≡ known_module_scope x.of_module x.constants
    known_entries x = whole_so x.of_module x.constants (rows (scope_of x.constants) (declarations x.of_module)) (spot_entries x) refl refl

    says_at : (k : ℕ) (x : Spot) (q : List PathStep) → Stands d spots k x q → (n : Name) → IsNameOf (placed_by q x) n
        → scope_of entries (called q n) ≡ placed_scope (placed_by q x) n
    says_at k x q s n is =
        let key : IsAmong (keys (spot_entries x)) n = name_keyed d (placed_by q x) s.in_design n is in
        let v : HasEntry (spot_entries x) n = keyed_some (spot_entries x) n key in
        let own : entry_of (scope_entries (spot_names (called q []) x)) (called q n) ≡ Some v.value
        = ap (entry_of (scope_entries (spot_names (called q []) x))) (sym (are.fronts q n)) ∙ own_found (called q []) (spot_entries x) n ∙ v.is_value in
        let all : entry_of entries (called q n) ≡ Some v.value
        = somewhere_found (names_of called spots) (called q n) k (spot_names (called q []) x) v.value (names_there k x q s) own (other_names k x q s n is) in
        ap object_or_undeclared all ∙ sym (ap object_or_undeclared v.is_value) ∙ ap (λ (t : Scope). t n) (known_entries x)
        ∙ h.scopes (placed_by q x) n s.in_design

    says_the_same : (p : Placed) (n : Name) → IsPlacedIn d p → IsNameOf p n → scope_of entries (called p.path n) ≡ placed_scope p n
    says_the_same p n at is =
        let f = found p at in
        subst (λ (z : Placed). scope_of entries (called z.path n) ≡ placed_scope z n) f.is_placed
        (says_at f.number f.spot f.path f.stands n (subst (λ (z : Placed). IsNameOf z n) (sym f.is_placed) is))

    knows_no_others : (n : Name) → ((p : Placed) (m : Name) → IsPlacedIn d p → IsNameOf p m → called p.path m ≢ n) → scope_of entries n ≡ undeclared
    knows_no_others n none =
        ap object_or_undeclared
        (nowhere_found (names_of called spots) n
        (λ k z e.
        let f = names_of_spot called (paths_of spots) spots k z e in
        let t : Stands d spots (0 + k) f.spot f.path = at_paths k f.path f.spot f.is_path f.is_spot in
        subst (λ (w : SpotNames). entry_of (scope_entries w) n ≡ None) f.is_names
        (others_found (called f.path []) (spot_entries f.spot) n
        (λ m key i. none (placed_by f.path f.spot) m t.in_design (keyed_name d (placed_by f.path f.spot) t.in_design m key) (sym (are.fronts f.path m) ∙ i)))))

    pub is_flat_design : IsFlatDesign d called (scope_of entries) (all_items fs spots)
    is_flat_design =
        let turn = modules_in_turn_are_in_order d called (placed_of spots) h.placed in
        record {
          naming = are.naming;
          flat = record {
            says_the_same = says_the_same;
            are_links = λ a. ((λ c. link_is_flat a (among_contains links a c)), (λ f. contains_among links a (flat_is_link a f)));
            are_blocks = λ y. ((λ c. block_is_flat y (among_contains blocks y c)), (λ f. contains_among blocks y (flat_is_block y f)));
            are_clocked = λ y. subst (λ ys. Contains ys y ↔ IsFlatClocked d called y) (sym clocked_are) (turn.1 y);
          };
          in_order = subst (AreInTextOrder d called) (sym clocked_are) turn.0;
          no_others = knows_no_others;
        }

-- the names, the new names and the items as a program has them
pub whole_design : (d : Design) (called : Naming) (spots : List Spot) (ns : List SpotNames) (gs : List (Name → Name)) (objects : Entries Object) (own : List Item)
    → IsPlacing d spots → AreCalled d called spots ns → gs ≡ map naming_of ns → objects ≡ flat_entries ns → own ≡ all_items gs spots
    → IsFlatDesign d called (scope_of objects) own
whole_design d called spots ns gs objects own h are f o i =
    subst (λ (es : Entries Object). IsFlatDesign d called (scope_of es) own) (sym (o ∙ ap flat_entries are.names))
    (subst (IsFlatDesign d called (scope_of (flat_entries (names_of called spots)))) (sym (i ∙ ap (λ fs_. all_items fs_ spots) (f ∙ ap (map naming_of) are.names)))
    (is_flat_design d spots h called ns are))
