-- Of lists that have the names of each place, those of an instance where it stands, the top's list has all names in order.
use Rattle.std.proofs.Common.{◌≡◌, ◌∙◌, ℕ, zero, suc, ◌+◌, ◌<◌, ◌≤◌, refl, ap, sym, subst, arith, Bool, true, false, cond, List, [], ◌∷◌, ◌++◌, length, map, ◌⊎◌, inl, inr, Option, Some, None, option_map, option_and_then}
use Rattle.std.specs.Prelude.{IsTrue, ◌||◌, slice_get, is_some, is_none}
use Rattle.std.proofs.lemmas.Bool.{false≢true, true≢false}
use Rattle.std.proofs.lemmas.List.{append-nil}
use Rattle.wb_values.specs.Value.{Name, same_name, Entries}
use Rattle.wb_values.specs.Choice.{first_of}
use Rattle.verilog_trees.specs.Syntax.{Connections, Item, port, parameter, wires, variables, assign, always, instances, Module, Source}
use Rattle.verilog_meaning.specs.Expression.{Object}
use Rattle.verilog_meaning.specs.Hierarchy.{Declaration, item_declarations, port_declarations, header_ports, declarations, PathStep, instance_step, Placed, placed_scope, placed_below, placed_instance, module_named, Instance, instance_among, instance_named}
use Rattle.verilog_meaning.specs.Settled.{Design, at_path, IsPlacedIn, is_declared_among}
use Rattle.verilog_designs.specs.Names.{mentions, uses_unknown, instantiates_unknown, has_undeclared}
use Rattle.verilog_registers.specs.Order.{Member, net, instance, same_member, nets, instances_in, is_passed_over, placed_among, item_members, others, each_once, members_in}
use Rattle.verilog_unique.proofs.Options.{same_is, is_same, left_true, right_true, either_true, first_false, second_false, not_true}
use Rattle.verilog_unique.proofs.Descent.{IsAmong, among_either, contains_among, among_contains}
use Rattle.verilog_unique.proofs.Paths.{placed_of as placed_instance_of, stands_at, placed_in}
use Rattle.verilog_unique.proofs.Standing.{stands_in}
use Rattle.v_places.specs.Below.{Spot}
use Rattle.v_places.specs.Places.{placed_by}
use Rattle.v_places.proofs.Spots.{get_among, among_get, get_within, within_get, same_some}
use Rattle.flat_designs.specs.Flat.{Naming}
use Rattle.v_flat.specs.Paths.{paths_of, placed_of}
use Rattle.v_flat.specs.Entries.{spot_entries, dotted_entries, SpotNames, spot_names, names_of, named_after}
use Rattle.v_flat.specs.Whole.{IsPlacing}
use Rattle.v_flat.proofs.Places.{IsAt, at_number, number_at, at_path_number, apart_numbers}
use Rattle.v_flat.proofs.Named.{keys, declared_entry, get_names}
use Rattle.v_ordered.specs.Order.{AreNamesInOrder, end, net_of, below as below_here}
use Rattle.v_ordered.specs.Lines.{list_at, one_name, called_under, line, AreBelow}

-- ---- members of a module

among_others : (x : Member) (ys : List Member) (z : Member) → IsAmong (others x ys) z → IsAmong ys z
among_others x [] z h = h
among_others x (y ∷ ys) z h = by (same_member x y) h (among_others x ys z)
  where
    by : (t : Bool) → IsAmong (cond t (others x ys) (y ∷ others x ys)) z → (IsAmong (others x ys) z → IsAmong ys z) → (y ≡ z) ⊎ IsAmong ys z
    by true g f = inr (f g)
    by false (inl e) f = inl e
    by false (inr g) f = inr (f g)

once_among : (xs : List Member) (z : Member) → IsAmong (each_once xs) z → IsAmong xs z
once_among [] z h = h
once_among (x ∷ xs) z (inl e) = inl e
once_among (x ∷ xs) z (inr h) = inr (once_among xs z (among_others x (each_once xs) z h))

-- a member stands in the header or in an item
member_cases : (m : Module) (z : Member) → IsAmong (members_in m) z
    → IsAmong (nets (placed_among (declarations m) (port_declarations (header_ports m.ports)))) z ⊎ IsAmong (item_members (declarations m) m.items) z
member_cases m z h =
    let front : List Member = nets (placed_among (declarations m) (port_declarations (header_ports m.ports))) in
    among_either front (item_members (declarations m) m.items) z (once_among (front ++ item_members (declarations m) m.items) z h)

-- of the members of items: one of the first item, or one of the others
item_cases : (all : List Declaration) (i : Item) (items : List Item) (z : Member) → IsAmong (item_members all (i ∷ items)) z
    → IsAmong (nets (placed_among all (item_declarations (i ∷ [])))) z ⊎ (IsAmong (instances_in i) z ⊎ IsAmong (item_members all items) z)
item_cases all i items z h =
    elim (among_either (nets (placed_among all (item_declarations (i ∷ []))) ++ instances_in i) (item_members all items) z h)
    as (λ _. IsAmong (nets (placed_among all (item_declarations (i ∷ [])))) z ⊎ (IsAmong (instances_in i) z ⊎ IsAmong (item_members all items) z)) [
      | inl k ↦ elim (among_either (nets (placed_among all (item_declarations (i ∷ [])))) (instances_in i) z k)
          as (λ _. IsAmong (nets (placed_among all (item_declarations (i ∷ [])))) z ⊎ (IsAmong (instances_in i) z ⊎ IsAmong (item_members all items) z))
          [ inl g ↦ inl g | inr g ↦ inr (inl g) ]
      | inr k ↦ inr (inr k)
    ]

-- ---- nets among them are declared

abbrev name_in : Member → Name
name_in (net n) = n
name_in (instance n) = n

abbrev is_net : Member → Bool
is_net (net n) = true
is_net (instance n) = false

net_declared : (all ds : List Declaration) (n : Name) → IsAmong (nets (placed_among all ds)) (net n) → IsTrue (is_declared_among ds n)
net_declared all [] n h = absurd h
net_declared all (d ∷ ds) n h = by (is_passed_over all d) h (net_declared all ds n)
  where
    by : (t : Bool) → IsAmong (nets (cond t (placed_among all ds) (d ∷ placed_among all ds))) (net n)
        → (IsAmong (nets (placed_among all ds)) (net n) → IsTrue (is_declared_among ds n)) → IsTrue (same_name d.of_name n || is_declared_among ds n)
    by true g f = right_true (same_name d.of_name n) (is_declared_among ds n) (f g)
    by false (inl e) f =
        left_true (same_name d.of_name n) (is_declared_among ds n) (subst (λ k. same_name d.of_name k ≡ true) (ap name_in e) (is_same d.of_name))
    by false (inr g) f = right_true (same_name d.of_name n) (is_declared_among ds n) (f g)

declared_left : (ds es : List Declaration) (n : Name) → IsTrue (is_declared_among ds n) → IsTrue (is_declared_among (ds ++ es) n)
declared_left [] es n h = absurd (false≢true h)
declared_left (d ∷ ds) es n h =
    elim (either_true (same_name d.of_name n) (is_declared_among ds n) h) as (λ _. IsTrue (is_declared_among (d ∷ ds ++ es) n)) [
      | inl k ↦ left_true (same_name d.of_name n) (is_declared_among (ds ++ es) n) k
      | inr k ↦ right_true (same_name d.of_name n) (is_declared_among (ds ++ es) n) (declared_left ds es n k)
    ]

declared_right : (ds es : List Declaration) (n : Name) → IsTrue (is_declared_among es n) → IsTrue (is_declared_among (ds ++ es) n)
declared_right [] es n h = h
declared_right (d ∷ ds) es n h = right_true (same_name d.of_name n) (is_declared_among (ds ++ es) n) (declared_right ds es n h)

no_net_of : (is : List (Name × Connections)) (n : Name) → ¬ IsAmong (map (λ i. instance i.0) is) (net n)
no_net_of [] n h = h
no_net_of (i ∷ is) n (inl e) = false≢true (ap is_net e)
no_net_of (i ∷ is) n (inr h) = no_net_of is n h

no_net : (i : Item) (n : Name) → ¬ IsAmong (instances_in i) (net n)
no_net (port d) n h = h
no_net (parameter d) n h = h
no_net (wires signed r ws) n h = h
no_net (variables signed r vs) n h = h
no_net (assign ts) n h = h
no_net (always es x) n h = h
no_net (instances k given is) n h = no_net_of is n h

one_item : (i : Item) (items : List Item) → item_declarations (i ∷ items) ≡ item_declarations (i ∷ []) ++ item_declarations items
one_item (port d) items = ap (λ xs. xs ++ item_declarations items) (sym (append-nil _))
one_item (parameter d) items = refl
one_item (wires signed r ws) items = ap (λ xs. xs ++ item_declarations items) (sym (append-nil _))
one_item (variables signed r vs) items = ap (λ xs. xs ++ item_declarations items) (sym (append-nil _))
one_item (assign ts) items = refl
one_item (always es x) items = refl
one_item (instances k given is) items = refl

item_declared : (all : List Declaration) (items : List Item) (n : Name) → IsAmong (item_members all items) (net n)
    → IsTrue (is_declared_among (item_declarations items) n)
item_declared all [] n h = absurd h
item_declared all (i ∷ items) n h =
    subst (λ ds. IsTrue (is_declared_among ds n)) (sym (one_item i items))
    (elim (item_cases all i items (net n) h) as (λ _. IsTrue (is_declared_among (item_declarations (i ∷ []) ++ item_declarations items) n)) [
      | inl k ↦ declared_left (item_declarations (i ∷ [])) (item_declarations items) n (net_declared all (item_declarations (i ∷ [])) n k)
      | inr (inl k) ↦ absurd (no_net i n k)
      | inr (inr k) ↦ declared_right (item_declarations (i ∷ [])) (item_declarations items) n (item_declared all items n k)
    ])

net_is_declared : (m : Module) (n : Name) → IsAmong (members_in m) (net n) → IsTrue (is_declared_among (declarations m) n)
net_is_declared m n h =
    let ports : List Declaration = port_declarations (header_ports m.ports) in
    elim (member_cases m (net n) h) as (λ _. IsTrue (is_declared_among (declarations m) n)) [
      | inl k ↦ declared_left ports (item_declarations m.items) n (net_declared (declarations m) ports n k)
      | inr k ↦ declared_right ports (item_declarations m.items) n (item_declared (declarations m) m.items n k)
    ]

-- ---- what a name that a module has is called

module _ (front : Name) (n : Name) where
  named_kept : (es : Entries Object) (o : Option Name) → o ≡ Some (front ++ n) → named_after o (dotted_entries front es) n ≡ Some (front ++ n)
  named_kept [] o h = h
  named_kept (e ∷ es) o h = named_kept es (cond (same_name e.0 n) (Some (front ++ e.0)) o) (chosen (same_name e.0 n) (same_is e.0 n))
    where
      chosen : (b : Bool) → (b ≡ true → e.0 ≡ n) → cond b (Some (front ++ e.0)) o ≡ Some (front ++ n)
      chosen true f = ap (λ m. Some (front ++ m)) (f refl)
      chosen false f = h

  named_there : (es : Entries Object) (o : Option Name) → IsAmong (keys es) n → named_after o (dotted_entries front es) n ≡ Some (front ++ n)
  named_there [] o h = absurd h
  named_there (e ∷ es) o (inl k) =
      named_kept es (cond (same_name e.0 n) (Some (front ++ e.0)) o)
      (ap (λ b. cond b (Some (front ++ e.0)) o) (subst (λ m. same_name e.0 m ≡ true) k (is_same e.0)) ∙ ap (λ m. Some (front ++ m)) k)
  named_there (e ∷ es) o (inr h) = named_there es (cond (same_name e.0 n) (Some (front ++ e.0)) o) h

-- ---- instances among them are of modules of the source

no_instance : (ds : List Declaration) (u : Name) → ¬ IsAmong (nets ds) (instance u)
no_instance [] u h = h
no_instance (d ∷ ds) u (inl e) = true≢false (ap is_net e)
no_instance (d ∷ ds) u (inr h) = no_instance ds u h

-- the first instance of this name in one item, or none
record IsNamed (k : Name) (given : Connections) (is : List (Name × Connections)) (u : Name) : Type 0 where
  found : Instance
  is_found : instance_among k given is u ≡ Some found
  of_name : found.of_module ≡ k

record IsUnnamed (k : Name) (given : Connections) (is : List (Name × Connections)) (u : Name) : Type 0 where
  is_none : instance_among k given is u ≡ None
  lacks : ¬ IsAmong (map (λ i. instance i.0) is) (instance u)

name_cases : (k : Name) (given : Connections) (is : List (Name × Connections)) (u : Name) → IsNamed k given is u ⊎ IsUnnamed k given is u
name_cases k given [] u = inr (record { is_none = refl; lacks = λ h. h })
name_cases k given (i ∷ is) u = by (same_name i.0 u) refl (name_cases k given is u)
  where
    first : Instance
    first = record { of_module = k; parameters = given; connections = i.1 }

    chosen : (t : Bool) → same_name i.0 u ≡ t → instance_among k given (i ∷ is) u ≡ cond t (Some first) (instance_among k given is u)
    chosen t e = ap (λ b. cond b (Some first) (instance_among k given is u)) e

    by : (t : Bool) → same_name i.0 u ≡ t → IsNamed k given is u ⊎ IsUnnamed k given is u → IsNamed k given (i ∷ is) u ⊎ IsUnnamed k given (i ∷ is) u
    by true e g = inl (record { found = first; is_found = chosen true e; of_name = refl })
    by false e (inl g) = inl (record { found = g.found; is_found = chosen false e ∙ g.is_found; of_name = g.of_name })
    by false e (inr g) = inr (record { is_none = chosen false e ∙ g.is_none; lacks = lacks })
      where
        lacks : ¬ IsAmong (map (λ j. instance j.0) (i ∷ is)) (instance u)
        lacks (inl q) = true≢false (sym (is_same i.0) ∙ ap (λ n. same_name i.0 n) (ap name_in q) ∙ e)
        lacks (inr q) = g.lacks q

-- an instance of this name, and its module
record HasModule (source : Source) (items : List Item) (u : Name) : Type 0 where
  found : Instance
  its_module : Module
  is_named : instance_named items u ≡ Some found
  is_module : module_named source found.of_module ≡ Some its_module

module_there : (o : Option Module) → is_none o ≡ false → (m : Module) × (o ≡ Some m)
module_there None h = absurd (true≢false h)
module_there (Some m) h = (m, refl)

module _ (source : Source) (all : List Declaration) (u : Name) where
  -- one of an item without instances is one of the others
  not_here : (i : Item) (items : List Item) → ¬ IsAmong (instances_in i) (instance u) → IsAmong (item_members all (i ∷ items)) (instance u)
      → IsAmong (item_members all items) (instance u)
  not_here i items n h =
      elim (item_cases all i items (instance u) h) as (λ _. IsAmong (item_members all items) (instance u)) [
        | inl k ↦ absurd (no_instance (placed_among all (item_declarations (i ∷ []))) u k)
        | inr (inl k) ↦ absurd (n k)
        | inr (inr k) ↦ k
      ]

  has_module : (items : List Item) → instantiates_unknown source items ≡ false → IsAmong (item_members all items) (instance u) → HasModule source items u
  has_module [] e h = absurd h
  has_module (port d ∷ items) e h =
      let r = has_module items e (not_here (port d) items (λ k. k) h) in
      record { found = r.found; its_module = r.its_module; is_named = r.is_named; is_module = r.is_module }
  has_module (parameter d ∷ items) e h =
      let r = has_module items e (not_here (parameter d) items (λ k. k) h) in
      record { found = r.found; its_module = r.its_module; is_named = r.is_named; is_module = r.is_module }
  has_module (wires signed r ws ∷ items) e h =
      let g = has_module items e (not_here (wires signed r ws) items (λ k. k) h) in
      record { found = g.found; its_module = g.its_module; is_named = g.is_named; is_module = g.is_module }
  has_module (variables signed r vs ∷ items) e h =
      let g = has_module items e (not_here (variables signed r vs) items (λ k. k) h) in
      record { found = g.found; its_module = g.its_module; is_named = g.is_named; is_module = g.is_module }
  has_module (assign ts ∷ items) e h =
      let r = has_module items e (not_here (assign ts) items (λ k. k) h) in
      record { found = r.found; its_module = r.its_module; is_named = r.is_named; is_module = r.is_module }
  has_module (always es x ∷ items) e h =
      let r = has_module items e (not_here (always es x) items (λ k. k) h) in
      record { found = r.found; its_module = r.its_module; is_named = r.is_named; is_module = r.is_module }
  has_module (instances k given is ∷ items) e h =
      by (name_cases k given is u) (has_module items (second_false (is_none (module_named source k)) (instantiates_unknown source items) e))
    where
      there : (m : Module) × (module_named source k ≡ Some m)
      there = module_there (module_named source k) (first_false (is_none (module_named source k)) (instantiates_unknown source items) e)

      by : IsNamed k given is u ⊎ IsUnnamed k given is u → (IsAmong (item_members all items) (instance u) → HasModule source items u)
          → HasModule source (instances k given is ∷ items) u
      by (inl g) f =
          record {
            found = g.found;
            its_module = there.0;
            is_named = ap (λ o. first_of o (instance_named items u)) g.is_found;
            is_module = ap (module_named source) g.of_name ∙ there.1;
          }
      by (inr g) f =
          let r = f (not_here (instances k given is) items g.lacks h) in
          record {
            found = r.found;
            its_module = r.its_module;
            is_named = ap (λ o. first_of o (instance_named items u)) g.is_none ∙ r.is_named;
            is_module = r.is_module;
          }

instance_has_module : (source : Source) (m : Module) (u : Name) → instantiates_unknown source m.items ≡ false → IsAmong (members_in m) (instance u)
    → HasModule source m.items u
instance_has_module source m u e h =
    elim (member_cases m (instance u) h) as (λ _. HasModule source m.items u) [
      | inl k ↦ absurd (no_instance (placed_among (declarations m) (port_declarations (header_ports m.ports))) u k)
      | inr k ↦ has_module source (declarations m) u m.items e k
    ]

-- ---- paths

head_instance : (u v : Name) (q r : List PathStep) → instance_step u ∷ q ≡ instance_step v ∷ r → u ≡ v
head_instance u v q r e = ap name_of e
  where
    name_of : List PathStep → Name
    name_of [] = []
    name_of (s ∷ ss) = s.of_name

around_instance : (u v : Name) (q r : List PathStep) → instance_step u ∷ q ≡ instance_step v ∷ r → q ≡ r
around_instance u v q r e = ap around e
  where
    around : List PathStep → List PathStep
    around [] = []
    around (s ∷ ss) = ss

no_step : (u : Name) (q : List PathStep) → ¬ (instance_step u ∷ q ≡ [])
no_step u q e = cc

-- ---- places

-- the place with this number, and that it stands in the design
record Stands (d : Design) (spots : List Spot) (k : ℕ) (x : Spot) (q : List PathStep) : Type 0 where
  is_at : IsAt spots k x q
  in_design : IsPlacedIn d (placed_by q x)

-- Each list has the names of its place's module, those of an instance where it stands.
abbrev pub HaveNames : List Spot → List SpotNames → (lists : ℕ → List Name) → Type 0
HaveNames spots names lists =
    (k : ℕ) (x : Spot) (p : SpotNames) → slice_get spots k ≡ Some x → slice_get names k ≡ Some p
    → (child : Name → Option ℕ) × AreBelow spots k child × (lists k ≡ line (called_under p) child lists (members_in x.of_module))

record IsFound (d : Design) (spots : List Spot) (p : Placed) : Type 0 where
  number : ℕ
  spot : Spot
  path : List PathStep
  stands : Stands d spots number spot path
  is_placed : placed_by path spot ≡ p

-- what the table has for an instance of a place: what stands below it there
record IsBelow (d : Design) (spots : List Spot) (k : ℕ) (q : List PathStep) (child : Name → Option ℕ) (u : Name) : Type 0 where
  number : ℕ
  spot : Spot
  is_child : child u ≡ Some number
  after : k < number
  stands : Stands d spots number spot (instance_step u ∷ q)

number_there : (o : Option ℕ) → is_some o ≡ true → (c : ℕ) × (o ≡ Some c)
number_there None h = absurd (false≢true h)
number_there (Some c) h = (c, refl)

module _ (d : Design) (spots : List Spot) (h : IsPlacing d spots) where
  listed : (k : ℕ) (x : Spot) (q : List PathStep) → IsAt spots k x q → Stands d spots k x q
  listed k x q i =
      record {
        is_at = i;
        in_design = (h.placed.are_placed (placed_by q x)).0 (contains_among (placed_of spots) (placed_by q x) (get_among (placed_of spots) k (placed_by q x) i.is_listed));
      }

  found : (p : Placed) → IsPlacedIn d p → IsFound d spots p
  found p at =
      let f = among_get (placed_of spots) p (among_contains (placed_of spots) p ((h.placed.are_placed p).1 at)) in
      let i = number_at spots f.0 p f.1 in
      record { number = f.0; spot = i.spot; path = i.path; stands = listed f.0 i.spot i.path i.is_at; is_placed = i.is_placed }

  one_number : (i j : ℕ) (x y : Spot) (q r : List PathStep) → Stands d spots i x q → Stands d spots j y r → q ≡ r → i ≡ j
  one_number i j x y q r s t e = apart_numbers (placed_of spots) h.placed.apart i j (placed_by q x) (placed_by r y) s.is_at.is_listed t.is_at.is_listed e

  -- the first one stands at the top
  top_is_first : (k : ℕ) (x : Spot) (q : List PathStep) → Stands d spots k x q → q ≡ [] → k ≡ 0
  top_is_first k x q s e =
      let l = get_within spots k x s.is_at.is_spot in
      let y = within_get spots 0 (omega (arith, l)) in
      let f = at_number spots 0 y.0 y.1 in
      let first : f.path ≡ [] =
      elim f.is_at.is_path as (λ _. f.path ≡ []) [ inl i ↦ (let b : y.0.parent < 0 = i.before in absurd (omega (arith, b))) | inr i ↦ i.is_path ] in
      one_number k 0 x y.0 q f.path s (listed 0 y.0 f.path f.is_at) (e ∙ sym first)

  module _ (k : ℕ) (x : Spot) (q : List PathStep) (s : Stands d spots k x q) where
    here : Placed
    here = placed_by q x

    none_unknown : instantiates_unknown d.source x.of_module.items ≡ false
    none_unknown =
        second_false (uses_unknown x.of_module [] (mentions x.of_module)) (instantiates_unknown d.source x.of_module.items)
        (not_true (has_undeclared d.source x.of_module)
        (λ t. h.no_undeclared (record { within = x.of_module; stands = stands_in d q (placed_by q x) s.in_design; names_unknown = t })))

    -- what a net is called, where this stands before the names of its module
    its_name : (front n : Name) → IsAmong (members_in x.of_module) (net n) → called_under (spot_names front x) n ≡ Some (front ++ n)
    its_name front n g = named_there front n (spot_entries x) None (declared_entry x.of_module x.constants n (net_is_declared x.of_module n g))

    -- something stands at an instance
    stands_below : (u : Name) → IsAmong (members_in x.of_module) (instance u) → (p : Placed) × (at_path d (instance_step u ∷ q) ≡ Some p)
    stands_below u g =
        let m = instance_has_module d.source x.of_module u none_unknown g in
        let p : Placed = placed_by q x in (
          placed_instance_of (instance_step u ∷ q) (placed_scope p) m.found m.its_module,
          ap (option_and_then (placed_below d.source (instance_step u))) s.in_design
              ∙ (ap (option_and_then (placed_instance d.source (instance_step u ∷ q) (placed_scope p))) m.is_named
              ∙ ap (option_map (placed_instance_of (instance_step u ∷ q) (placed_scope p) m.found)) m.is_module),
        )

    -- a place that stands at an instance of this one is in this one
    parent_is : (c : ℕ) (z : Spot) (r : List PathStep) (u : Name) → Stands d spots c z r → r ≡ instance_step u ∷ q → (z.parent ≡ k) × (k < c) × (z.instance ≡ u)
    parent_is c z r u t e =
        elim t.is_at.is_path as (λ _. (z.parent ≡ k) × (k < c) × (z.instance ≡ u)) [
          | inl i ↦
              let same : instance_step z.instance ∷ i.around ≡ instance_step u ∷ q = sym i.is_path ∙ e in
              let f = at_path_number spots z.parent i.around i.is_around in
              let number : z.parent ≡ k =
              one_number z.parent k f.0 x i.around q (listed z.parent f.0 i.around f.1) s (around_instance z.instance u i.around q same) in
              (number, subst (λ j. j < c) number i.before, head_instance z.instance u i.around q same)
          | inr i ↦ absurd (no_step u q (sym e ∙ i.is_path))
        ]

    -- a place in this one stands at its instance
    path_is : (c : ℕ) (z : Spot) (r : List PathStep) → Stands d spots c z r → z.parent ≡ k → k < c → r ≡ instance_step z.instance ∷ q
    path_is c z r t e l =
        elim t.is_at.is_path as (λ _. r ≡ instance_step z.instance ∷ q) [
          | inl i ↦
              let same : i.around ≡ q = same_some i.around q (sym i.is_around ∙ (ap (slice_get (paths_of spots)) e ∙ s.is_at.is_there)) in
              i.is_path ∙ ap (λ a. instance_step z.instance ∷ a) same
          | inr i ↦ let f : c ≤ z.parent = i.first in absurd (omega (arith, e, l, f))
        ]

    module _ (child : Name → Option ℕ) (below : AreBelow spots k child) where
      has_child : (u : Name) → IsAmong (members_in x.of_module) (instance u) → (c : ℕ) × (child u ≡ Some c)
      has_child u g =
          let p = stands_below u g in
          let f = found p.0 (placed_in d (instance_step u ∷ q) p.0 p.1) in
          let at : f.path ≡ instance_step u ∷ q = ap (λ (y : Placed). y.path) f.is_placed ∙ stands_at d (instance_step u ∷ q) p.0 p.1 in
          let i = parent_is f.number f.spot f.path u f.stands at in
          named f.spot.instance i.2 (below.all f.number f.spot f.stands.is_at.is_spot i.0 i.1)
        where
          named : (n : Name) → n ≡ u → is_some (child n) ≡ true → (c : ℕ) × (child u ≡ Some c)
          named n same some = number_there (child u) (subst (λ m. is_some (child m) ≡ true) same some)

      child_stands : (u : Name) (c : ℕ) → child u ≡ Some c → IsBelow d spots k q child u
      child_stands u c e = let z = below.each u c e in by z.0 z.1 z.2 z.3 z.4
        where
          by : (z : Spot) → slice_get spots c ≡ Some z → z.parent ≡ k → k < c → z.instance ≡ u → IsBelow d spots k q child u
          by z is parent after same =
              let r = at_number spots c z is in
              let t : Stands d spots c z r.path = listed c z r.path r.is_at in
              record {
                number = c;
                spot = z;
                is_child = e;
                after = after;
                stands = subst (Stands d spots c z) (path_is c z r.path t parent after ∙ ap (λ n. instance_step n ∷ q) same) t;
              }

      below_it : (u : Name) → IsAmong (members_in x.of_module) (instance u) → IsBelow d spots k q child u
      below_it u g = let c = has_child u g in child_stands u c.0 c.1

  -- ---- lists

  module _ (called : Naming) (fronts : (path : List PathStep) (n : Name) → called path [] ++ n ≡ called path n) (lists : ℕ → List Name)
      (lines : HaveNames spots (names_of called spots) lists) where
    -- the members of one place, where the lists of all places behind it have their names in order
    along : (k : ℕ) (x : Spot) (q : List PathStep) (s : Stands d spots k x q) (child : Name → Option ℕ) → AreBelow spots k child
        → ((c : ℕ) (z : Spot) (r : List PathStep) → k < c → Stands d spots c z r → AreNamesInOrder d called (placed_by r z) (members_in z.of_module) (lists c))
        → (xs : List Member) → ((z : Member) → IsAmong xs z → IsAmong (members_in x.of_module) z)
        → AreNamesInOrder d called (placed_by q x) xs (line (called_under (spot_names (called q []) x)) child lists xs)
    along k x q s child below deeper [] among = end (placed_by q x)
    along k x q s child below deeper (net n ∷ xs) among =
        let f : Name → Option Name = called_under (spot_names (called q []) x) in
        subst (λ o. AreNamesInOrder d called (placed_by q x) (net n ∷ xs) (one_name o ++ line f child lists xs))
        (sym (its_name k x q s (called q []) n (among (net n) (inl refl)) ∙ ap (λ m. Some m) (fronts q n)))
        (net_of (placed_by q x) n xs (line f child lists xs) (along k x q s child below deeper xs (λ z g. among z (inr g))))
    along k x q s child below deeper (instance u ∷ xs) among =
        let f : Name → Option Name = called_under (spot_names (called q []) x) in
        let b = below_it k x q s child below u (among (instance u) (inl refl)) in
        subst (λ o. AreNamesInOrder d called (placed_by q x) (instance u ∷ xs) (list_at lists o ++ line f child lists xs)) (sym b.is_child)
        (below_here (placed_by q x) (placed_by (instance_step u ∷ q) b.spot) u xs (lists b.number) (line f child lists xs) b.stands.in_design
        (deeper b.number b.spot (instance_step u ∷ q) b.after b.stands) (along k x q s child below deeper xs (λ z g. among z (inr g))))

    -- from the last place down to the first
    in_order : (n k : ℕ) (x : Spot) (q : List PathStep) → length spots ≤ n + k → Stands d spots k x q
        → AreNamesInOrder d called (placed_by q x) (members_in x.of_module) (lists k)
    in_order zero k x q l s = let w = get_within spots k x s.is_at.is_spot in absurd (omega (arith, l, w))
    in_order (suc n) k x q l s =
        let r = lines k x (spot_names (called q []) x) s.is_at.is_spot (get_names called (paths_of spots) spots k q x s.is_at.is_there s.is_at.is_spot) in
        subst (AreNamesInOrder d called (placed_by q x) (members_in x.of_module)) (sym r.2)
        (along k x q s r.0 r.1 (λ c z w b t. in_order n c z w (omega (arith, l, b)) t) (members_in x.of_module) (λ z g. g))

    pub names_in_order : (top : Placed) → at_path d [] ≡ Some top → AreNamesInOrder d called top (members_in top.of_module) (lists 0)
    names_in_order top e =
        let f = found top (placed_in d [] top e) in
        let at : f.path ≡ [] = ap (λ (y : Placed). y.path) f.is_placed ∙ stands_at d [] top e in
        let first : f.number ≡ 0 = top_is_first f.number f.spot f.path f.stands at in
        let all : length spots ≤ length spots + f.number = omega arith in
        subst (λ (p : Placed). AreNamesInOrder d called p (members_in p.of_module) (lists 0)) f.is_placed
        (subst (λ c. AreNamesInOrder d called (placed_by f.path f.spot) (members_in f.spot.of_module) (lists c)) first
        (in_order (length spots) f.number f.spot f.path all f.stands))

-- The top's list has the names of all nets and variables of the design in their order.
pub lines_are_in_order : (d : Design) (called : Naming) (spots : List Spot) (lists : ℕ → List Name) (top : Placed) → IsPlacing d spots
    → HaveNames spots (names_of called spots) lists → ((path : List PathStep) (n : Name) → called path [] ++ n ≡ called path n) → at_path d [] ≡ Some top
    → AreNamesInOrder d called top (members_in top.of_module) (lists 0)
lines_are_in_order d called spots lists top placing lines fronts e = names_in_order d spots placing called fronts lists lines top e
