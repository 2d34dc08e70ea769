-- The lists with outputs have what each module and the outputs of its instances drive.
use Rattle.std.proofs.Common.{◌≡◌, ◌∙◌, ◌<◌, ◌≤◌, ◌+◌, ℕ, zero, suc, Bool, true, false, cond, refl, ap, sym, subst, List, [], ◌∷◌, ◌++◌, map, length, ◌⊎◌, inl, inr, Option, Some, None, eq-eqb, arith}
use Rattle.std.specs.Prelude.{◌==◌, slice_get}
use Rattle.std.proofs.lemmas.Bool.{eqb-true}
use Rattle.std.proofs.lemmas.List.{append_assoc, append-nil}
use Rattle.wb_values.specs.Value.{Name}
use Rattle.verilog_trees.specs.Syntax.{Expression, Target, Statement, Connections, by_name, by_order, output, Item, port, parameter, wires, variables, assign, always, instances}
use Rattle.verilog_meaning.specs.Register.{clocked_blocks, combinational_blocks}
use Rattle.verilog_meaning.specs.Hierarchy.{PathStep, instance_step, Placed, Instance, instance_named}
use Rattle.verilog_meaning.specs.Settled.{Design, at_path, IsPlacedIn, assignments, Connection, instance_connections, connections_of_each, port_connections}
use Rattle.verilog_unique.proofs.Descent.{IsAmong, among_left, among_right, among_either}
use Rattle.verilog_unique.proofs.Paths.{stands_at}
use Rattle.v_places.specs.Below.{Spot, each_instance, all_instances}
use Rattle.v_places.specs.Places.{IsPathOf, placed_by, IsPlaceAt}
use Rattle.v_places.proofs.Spots.{get_within, within_get, same_some, apart, there_named}
use Rattle.v_flat.specs.Links.{connection_links}
use Rattle.v_flat.specs.Items.{own_items}
use Rattle.v_flat.specs.Outputs.{same_names, outputs_of, outputs_in, with_outputs_from, with_outputs}
use Rattle.v_flat.specs.Paths.{paths_of}
use Rattle.v_flat.specs.Reordered.{AreReordered}
use Rattle.v_flat.specs.Drivers.{output_link, output_links, HasAllDrivers, AreAllDrivers, ListsHaveAllDrivers}
use Rattle.v_flat.specs.Whole.{IsPlacing}
use Rattle.v_flat.proofs.Places.{IsAt, at_number}
use Rattle.v_flat.proofs.Items as items
use Rattle.v_flat.proofs.Instances.{instance_of}
use Rattle.v_flat.proofs.Unchanged.{assignments_same, blocks_same}
use Rattle.v_flat.proofs.Reordering.{equal_lists, all_of, all_append, AreApart, HasPartner, IsMatched, matched}
use Rattle.v_flat.proofs.Whole.{Stands, IsFound, IsAround, listed, found, one_number, top_number, around, fresh}

-- ---- the instances in the module with a number

children : ℕ → List Spot → List Spot
children k [] = []
children k (x ∷ xs) = cond (x.parent == k) (x ∷ []) [] ++ children k xs

-- what their outputs drive, and nothing else
assigned_in : (k : ℕ) (xs : List Spot) → assignments (outputs_in k xs) ≡ all_of outputs_of (children k xs)
unfolding children
assigned_in k [] = refl
assigned_in k (x ∷ xs) = by_test (x.parent == k) (assigned_in k xs)
  where
    by_test : (b : Bool) → assignments (outputs_in k xs) ≡ all_of outputs_of (children k xs)
        → assignments (cond b (assign (outputs_of x) ∷ []) [] ++ outputs_in k xs) ≡ all_of outputs_of (cond b (x ∷ []) [] ++ children k xs)
    by_test true e = ap (λ zs. outputs_of x ++ zs) e
    by_test false e = e

clocked_in : (k : ℕ) (xs : List Spot) → clocked_blocks (outputs_in k xs) ≡ []
clocked_in k [] = refl
clocked_in k (x ∷ xs) = by_test (x.parent == k) (clocked_in k xs)
  where
    by_test : (b : Bool) → clocked_blocks (outputs_in k xs) ≡ [] → clocked_blocks (cond b (assign (outputs_of x) ∷ []) [] ++ outputs_in k xs) ≡ []
    by_test true e = e
    by_test false e = e

combinational_in : (k : ℕ) (xs : List Spot) → combinational_blocks (outputs_in k xs) ≡ []
combinational_in k [] = refl
combinational_in k (x ∷ xs) = by_test (x.parent == k) (combinational_in k xs)
  where
    by_test : (b : Bool) → combinational_blocks (outputs_in k xs) ≡ [] → combinational_blocks (cond b (assign (outputs_of x) ∷ []) [] ++ outputs_in k xs) ≡ []
    by_test true e = e
    by_test false e = e

same_number : (i j : ℕ) → (i == j) ≡ true → i ≡ j
same_number i j e = eqb-true i j e

-- one of them
record IsOne (k : ℕ) (xs : List Spot) (c : Spot) : Type 0 where
  number : ℕ
  is_spot : slice_get xs number ≡ Some c
  is_below : c.parent ≡ k

is_one : (k : ℕ) (xs : List Spot) (c : Spot) → IsAmong (children k xs) c → IsOne k xs c
unfolding children
is_one k [] c h = absurd h
is_one k (x ∷ xs) c h = by_test (λ g. (let r = is_one k xs c g in record { number = suc r.number; is_spot = r.is_spot; is_below = r.is_below })) (x.parent == k) refl h
  where
    by_test : (IsAmong (children k xs) c → IsOne k (x ∷ xs) c) → (b : Bool) → (x.parent == k) ≡ b → IsAmong (cond b (x ∷ []) [] ++ children k xs) c → IsOne k (x ∷ xs) c
    by_test later true t (inl e) = record { number = 0; is_spot = ap Some e; is_below = ap (λ (z : Spot). z.parent) (sym e) ∙ same_number x.parent k t }
    by_test later true t (inr g) = later g
    by_test later false t g = later g

one_is : (k : ℕ) (xs : List Spot) (j : ℕ) (c : Spot) → slice_get xs j ≡ Some c → c.parent ≡ k → IsAmong (children k xs) c
unfolding children
one_is k [] j c e p = cc
one_is k (x ∷ xs) zero c e p =
    let same : x ≡ c = same_some x c e in
    subst (λ b. IsAmong (cond b (x ∷ []) [] ++ children k xs) c) (sym (eq-eqb x.parent k (ap (λ (z : Spot). z.parent) same ∙ p))) (inl same)
one_is k (x ∷ xs) (suc j) c e p = among_right (cond (x.parent == k) (x ∷ []) []) (children k xs) c (one_is k xs j c e p)

abbrev name_of : Spot → Name
name_of x = x.instance

named_one : (k : ℕ) (xs : List Spot) (n : Name) → IsAmong (map name_of (children k xs)) n → (c : Spot) × IsAmong (children k xs) c × (c.instance ≡ n)
named_one k xs n h = in_list (children k xs) h
  where
    in_list : (cs : List Spot) → IsAmong (map name_of cs) n → (c : Spot) × IsAmong cs c × (c.instance ≡ n)
    in_list [] g = absurd g
    in_list (c ∷ cs) (inl e) = (c, inl refl, e)
    in_list (c ∷ cs) (inr g) = let r = in_list cs g in (r.0, inr r.1, r.2)

-- no two of them have one name, where two numbers do not
abbrev OneEach : ℕ → List Spot → Type 0
OneEach k xs =
    (i j : ℕ) (x y : Spot) → slice_get xs i ≡ Some x → slice_get xs j ≡ Some y → x.parent ≡ k → y.parent ≡ k → x.instance ≡ y.instance → i ≡ j

one_less : (i j : ℕ) → suc i ≡ suc j → i ≡ j
one_less i j e = omega (arith, e)

names_apart : (k : ℕ) (xs : List Spot) → OneEach k xs → AreApart (map name_of (children k xs))
unfolding children
names_apart k [] h = tt
names_apart k (x ∷ xs) h = by_test (names_apart k xs (λ i j y z e g p q n. one_less i j (h (suc i) (suc j) y z e g p q n))) (x.parent == k) refl
  where
    by_test : AreApart (map name_of (children k xs)) → (b : Bool) → (x.parent == k) ≡ b → AreApart (map name_of (cond b (x ∷ []) [] ++ children k xs))
    by_test rest true t = (
      (λ g. (let r = named_one k xs x.instance g in let o = is_one k xs r.0 r.1 in
          let e : 0 ≡ suc o.number = h 0 (suc o.number) x r.0 refl o.is_spot (same_number x.parent k t) o.is_below (sym r.2) in
          absurd (omega (arith, e)))),
      rest,
    )
    by_test rest false t = rest

-- ---- the connections of a module, instance by instance

abbrev connections_of : Name × Instance → List Connection
connections_of e = instance_connections e.0 e.1.connections

each_connected : (m : Name) (given : Connections) (is : List (Name × Connections)) → all_of connections_of (each_instance m given is) ≡ connections_of_each is
each_connected m given [] = refl
each_connected m given (i ∷ is) = ap (λ cs. instance_connections i.0 i.1 ++ cs) (each_connected m given is)

all_connected : (list : List Item) → all_of connections_of (all_instances list) ≡ port_connections list
all_connected [] = refl
all_connected (port d ∷ list) = all_connected list
all_connected (parameter d ∷ list) = all_connected list
all_connected (wires s r ws ∷ list) = all_connected list
all_connected (variables s r vs ∷ list) = all_connected list
all_connected (assign ts ∷ list) = all_connected list
all_connected (always es x ∷ list) = all_connected list
all_connected (instances m given is ∷ list) =
    all_append connections_of (each_instance m given is) (all_instances list)
    ∙ (λ i. each_connected m given is i ++ all_connected list i)

abbrev links_below : Option Placed → List Connection → List (Target × Expression)
links_below None cs = []
links_below (Some b) cs = connection_links output same_names same_names b.of_module cs

module _ (d : Design) (p : Placed) where
  links_append : (cs es : List Connection) → output_links d p (cs ++ es) ≡ output_links d p cs ++ output_links d p es
  links_append [] es = refl
  links_append (c ∷ cs) es =
      ap (λ zs. output_link (at_path d (instance_step c.of_instance ∷ p.path)) c ++ zs) (links_append cs es)
      ∙ sym (append_assoc (output_link (at_path d (instance_step c.of_instance ∷ p.path)) c) (output_links d p cs) (output_links d p es))

  -- those of one instance
  of_instance_links : (u : Name) (cs : List Connection) → ((c : Connection) → IsAmong cs c → u ≡ c.of_instance)
      → output_links d p cs ≡ links_below (at_path d (instance_step u ∷ p.path)) cs
  of_instance_links u [] h = none (at_path d (instance_step u ∷ p.path))
    where
      none : (o : Option Placed) → [] ≡ links_below o []
      none None = refl
      none (Some b) = refl
  of_instance_links u (c ∷ cs) h =
      (λ i. output_link (at_path d (instance_step (sym (h c (inl refl)) i) ∷ p.path)) c ++ of_instance_links u cs (λ e k. h e (inr k)) i)
      ∙ more (at_path d (instance_step u ∷ p.path))
    where
      more : (o : Option Placed) → output_link o c ++ links_below o cs ≡ links_below o (c ∷ cs)
      more None = refl
      more (Some b) = refl

  abbrev instance_links : Name × Instance → List (Target × Expression)
  instance_links e = links_below (at_path d (instance_step e.0 ∷ p.path)) (connections_of e)

  by_instances : (es : List (Name × Instance)) → output_links d p (all_of connections_of es) ≡ all_of instance_links es
  by_instances [] = refl
  by_instances (e ∷ es) =
      links_append (connections_of e) (all_of connections_of es)
      ∙ (λ i. of_instance_links e.0 (connections_of e) (λ c h. instance_of e.0 e.1.connections c h) i ++ by_instances es i)

  all_links : (list : List Item) → all_of instance_links (all_instances list) ≡ output_links d p (port_connections list)
  all_links list = sym (by_instances (all_instances list)) ∙ ap (output_links d p) (all_connected list)

-- ---- lists by their numbers

number_of : (all : List Spot) (k : ℕ) (xs : List Spot) (j : ℕ) (x : Spot) (list : List Item) → slice_get xs j ≡ Some x
    → slice_get (with_outputs_from all k xs) j ≡ Some list → list ≡ own_items same_names x.of_module.items ++ outputs_in (k + j) all
number_of all k [] j x list e g = cc
number_of all k (y ∷ xs) zero x list e g =
    let number : k + 0 ≡ k = omega arith in
    sym (same_some (own_items same_names y.of_module.items ++ outputs_in k all) list g)
    ∙ (λ i. own_items same_names (same_some y x e i).of_module.items ++ outputs_in (sym number i) all)
number_of all k (y ∷ xs) (suc j) x list e g =
    let number : (k + 1) + j ≡ k + suc j = omega arith in
    number_of all (k + 1) xs j x list e g ∙ ap (λ i. own_items same_names x.of_module.items ++ outputs_in i all) number

lists_length : (all : List Spot) (k : ℕ) (xs : List Spot) → length (with_outputs_from all k xs) ≡ length xs
lists_length all k [] = refl
lists_length all k (x ∷ xs) = let r = lists_length all (k + 1) xs in omega (arith, r)

-- ---- one module

some_path : (x y : List PathStep) → Some x ≡ Some y → x ≡ y
some_path x y e = cc

module _ (d : Design) (top : Spot) (rest : List Spot) (h : IsPlacing d (top ∷ rest)) where
  abbrev spots : List Spot
  spots = top ∷ rest

  -- an instance in the module that stands at a path
  record IsChild (x : Spot) (q : List PathStep) (j : ℕ) (c : Spot) : Type 0 where
    path : List PathStep
    stands : Stands d spots (suc j) c path
    is_path : path ≡ instance_step c.instance ∷ q
    instance : Instance
    is_instance : instance_named x.of_module.items c.instance ≡ Some instance
    are_connections : c.connections ≡ instance.connections

  module _ (k : ℕ) (x : Spot) (q : List PathStep) (s : Stands d spots k x q) where
    -- where the module around one has this number, it is this one
    same_around : (n : ℕ) (c : Spot) (r : List PathStep) (a : IsAround d spots n c r) → c.parent ≡ k → (a.spot ≡ x) × (a.path ≡ q)
    same_around n c r a e = (
      same_some a.spot x (sym a.stands.is_at.is_spot ∙ (ap (slice_get spots) e ∙ s.is_at.is_spot)),
      some_path a.path q (sym a.stands.is_at.is_there ∙ (ap (slice_get (paths_of spots)) e ∙ s.is_at.is_there)),
    )

    child : (j : ℕ) (c : Spot) → slice_get rest j ≡ Some c → c.parent ≡ k → IsChild x q j c
    child j c e p =
        let f = at_number spots (suc j) c e in
        let t : Stands d spots (suc j) c f.path = listed d spots h (suc j) c f.path f.is_at in
        elim f.is_at.is_path as (λ _. IsChild x q j c) [
          | inl i ↦ made f.path t (around d spots h (suc j) c f.path t i)
          | inr i ↦ let e : suc j ≡ 0 = top_number d spots h (suc j) c f.path t i.is_path in absurd (omega (arith, e))
        ]
      where
        made : (r : List PathStep) → Stands d spots (suc j) c r → IsAround d spots (suc j) c r → IsChild x q j c
        made r t a =
            let same = same_around (suc j) c r a p in
            record {
              path = r;
              stands = t;
              is_path = a.is_path ∙ ap (λ z. instance_step c.instance ∷ z) same.1;
              instance = a.instance;
              is_instance = subst (λ (z : Spot). instance_named z.of_module.items c.instance ≡ Some a.instance) same.0 a.is_instance;
              are_connections = a.are_connections;
            }

    one_each : OneEach k rest
    one_each i j c e g f a b n =
        let m = child i c g a in
        let o = child j e f b in
        let same : suc i ≡ suc j = one_number d spots h (suc i) (suc j) c e m.path o.path m.stands o.stands (m.is_path ∙ (ap (λ u. instance_step u ∷ q) n ∙ sym o.is_path)) in
        omega (arith, same)

    abbrev here : Placed
    here = placed_by q x

    partner : (c : Spot) → IsAmong (children k rest) c → HasPartner (λ (e : Name × Instance). e.0) name_of (instance_links d here) outputs_of (all_instances x.of_module.items) c
    partner c i =
        let o = is_one k rest c i in
        let m = child o.number c o.is_spot o.is_below in
        record {
          partner = (c.instance, m.instance);
          is_there = there_named x.of_module c.instance m.instance m.is_instance;
          has_name = refl;
          makes = ap (λ cs. connection_links output same_names same_names c.of_module (instance_connections c.instance cs)) m.are_connections
              ∙ ap (λ z. links_below z (instance_connections c.instance m.instance.connections))
              (sym (subst (λ z. at_path d z ≡ Some (placed_by m.path c)) m.is_path m.stands.in_design));
        }

    no_path : (u : PathStep) (r : List PathStep) → [] ≡ u ∷ r → ⊥
    no_path u r e = cc

    parts : (u v : PathStep) (r t : List PathStep) → u ∷ r ≡ v ∷ t → (u ≡ v) × (r ≡ t)
    parts u v r t e = (cc, cc)

    -- what stands below by an instance is one of them
    stands_below : (e : Name × Instance) (b : Placed) → at_path d (instance_step e.0 ∷ q) ≡ Some b → (c : Spot) × IsAmong (children k rest) c × (c.instance ≡ e.0)
    stands_below e b at = by_found (found d spots h b (subst (λ z. at_path d z ≡ Some b) (sym path) at))
      where
        path : b.path ≡ instance_step e.0 ∷ q
        path = stands_at d (instance_step e.0 ∷ q) b at

        by_number : (n : ℕ) (c : Spot) → slice_get spots n ≡ Some c → c.parent < n → c.parent ≡ k → IsAmong (children k rest) c
        by_number zero c g l p = absurd (omega (arith, l))
        by_number (suc j) c g l p = one_is k rest j c g p

        by_around : (n : ℕ) (c : Spot) (r : List PathStep) → Stands d spots n c r → r ≡ instance_step e.0 ∷ q → IsAround d spots n c r
            → (c : Spot) × IsAmong (children k rest) c × (c.instance ≡ e.0)
        by_around n c r t g a =
            let two = parts (instance_step c.instance) (instance_step e.0) a.path q (sym a.is_path ∙ g) in
            let number : c.parent ≡ k = one_number d spots h c.parent k a.spot x a.path q a.stands s two.1 in
            (c, by_number n c t.is_at.is_spot a.before number, ap (λ (u : PathStep). u.of_name) two.0)

        by_found : IsFound d spots b → (c : Spot) × IsAmong (children k rest) c × (c.instance ≡ e.0)
        by_found f =
            let g : f.path ≡ instance_step e.0 ∷ q = ap (λ (z : Placed). z.path) f.is_placed ∙ path in
            elim f.stands.is_at.is_path as (λ _. (c : Spot) × IsAmong (children k rest) c × (c.instance ≡ e.0)) [
              | inl i ↦ by_around f.number f.spot f.path f.stands g (around d spots h f.number f.spot f.path f.stands i)
              | inr i ↦ absurd (no_path (instance_step e.0) q (sym i.is_path ∙ g))
            ]

    match : (e : Name × Instance) → IsAmong (all_instances x.of_module.items) e → IsMatched (λ (e : Name × Instance). e.0) name_of (instance_links d here) outputs_of (children k rest) e
    match e i = by_place (at_path d (instance_step e.0 ∷ q)) refl
      where
        by_place : (o : Option Placed) → at_path d (instance_step e.0 ∷ q) ≡ o
            → (links_below o (connections_of e) ≡ []) ⊎ ((c : Spot) × IsAmong (children k rest) c × (c.instance ≡ e.0))
        by_place None g = inl refl
        by_place (Some b) g = inr (stands_below e b g)

    names_differ : AreApart (map (λ (e : Name × Instance). e.0) (all_instances x.of_module.items))
    names_differ = apart x.of_module (fresh d spots h here s.in_design)

    -- what is made of the top's own instance is nothing
    top_none : outputs_of top ≡ []
    top_none = ap (λ cs. connection_links output same_names same_names top.of_module (instance_connections top.instance cs)) (h.alone top refl)

    all_outputs : assignments (outputs_in k spots) ≡ all_of outputs_of (children k rest)
    all_outputs = by_test (top.parent == k)
      where
        by_test : (b : Bool) → assignments (cond b (assign (outputs_of top) ∷ []) [] ++ outputs_in k rest) ≡ all_of outputs_of (children k rest)
        by_test true = ap (λ zs. zs ++ assignments (outputs_in k rest)) top_none ∙ assigned_in k rest
        by_test false = assigned_in k rest

    are_links : AreReordered (Target × Expression) (assignments (outputs_in k spots)) (output_links d here (port_connections x.of_module.items))
    are_links =
        subst (λ zs. AreReordered (Target × Expression) zs (output_links d here (port_connections x.of_module.items))) (sym all_outputs)
        (subst (AreReordered (Target × Expression) (all_of outputs_of (children k rest))) (all_links d here x.of_module.items)
        (matched (λ (e : Name × Instance). e.0) name_of (instance_links d here) outputs_of (children k rest) (all_instances x.of_module.items)
        (names_apart k rest one_each) names_differ partner match))

    has_all : (list : List Item) → list ≡ own_items same_names x.of_module.items ++ outputs_in k spots → HasAllDrivers d here list
    has_all list e =
        let own = own_items same_names x.of_module.items in
        record {
          outputs = assignments (outputs_in k spots);
          assigned = ap assignments e ∙ (items.assigned_append own (outputs_in k spots)
              ∙ ap (λ zs. zs ++ assignments (outputs_in k spots)) (items.own_assigned same_names x.of_module.items ∙ assignments_same (assignments x.of_module.items)));
          are_outputs = are_links;
          clocked = ap clocked_blocks e ∙ (items.clocked_append own (outputs_in k spots)
              ∙ (ap (λ zs. clocked_blocks own ++ zs) (clocked_in k spots) ∙ (append-nil (clocked_blocks own)
              ∙ (items.own_clocked same_names x.of_module.items ∙ blocks_same (clocked_blocks x.of_module.items)))));
          combinational = ap combinational_blocks e ∙ (items.combinational_append own (outputs_in k spots)
              ∙ (ap (λ zs. combinational_blocks own ++ zs) (combinational_in k spots) ∙ (append-nil (combinational_blocks own)
              ∙ (items.own_combinational same_names x.of_module.items ∙ blocks_same (combinational_blocks x.of_module.items)))));
        }

  -- a number has one path
  path_of : (q : List PathStep) (k : ℕ) → IsPathOf spots k q → slice_get (paths_of spots) k ≡ Some q
  path_of [] k e =
      let f = at_number spots 0 top refl in
      let t : Stands d spots 0 top f.path = listed d spots h 0 top f.path f.is_at in
      let none : f.path ≡ [] = elim f.is_at.is_path as (λ _. f.path ≡ []) [ inl i ↦ (let b : top.parent < 0 = i.before in absurd (omega (arith, b))) | inr i ↦ i.is_path ] in
      ap (slice_get (paths_of spots)) e ∙ (f.is_at.is_there ∙ ap Some none)
  path_of (u ∷ q) k e =
      let f = at_number spots k e.0 e.1 in
      let l : e.0.parent < k = e.2 in
      elim f.is_at.is_path as (λ _. slice_get (paths_of spots) k ≡ Some (u ∷ q)) [
        | inl i ↦ f.is_at.is_there ∙ ap Some (i.is_path ∙ (λ j. sym e.3 j ∷ some_path i.around q (sym i.is_around ∙ path_of q e.0.parent e.4) j))
        | inr i ↦ let g : k ≤ e.0.parent = i.first in absurd (omega (arith, l, g))
      ]

  all_drivers : AreAllDrivers d spots (with_outputs spots)
  all_drivers =
      record {
        as_many = lists_length spots 0 spots;
        each = λ k path p list i e. (
            let f = at_number spots k i.spot i.is_spot in
            let same : f.path ≡ path = some_path f.path path (sym f.is_at.is_there ∙ path_of path k i.stands) in
            let number : 0 + k ≡ k = omega arith in
            let s : Stands d spots k i.spot path = subst (Stands d spots k i.spot) same (listed d spots h k i.spot f.path f.is_at) in
            subst (λ z. HasAllDrivers d z list) (sym i.is_placed)
            (has_all k i.spot path s list (number_of spots 0 spots k i.spot list i.is_spot e ∙ ap (λ j. own_items same_names i.spot.of_module.items ++ outputs_in j spots) number))
            );
      }

pub lists_have_all_drivers : ListsHaveAllDrivers
lists_have_all_drivers d [] h = record { as_many = refl; each = λ k path p list i e. nothing p list e }
  where
    nothing : (p : Placed) (list : List Item) → None ≡ Some list → HasAllDrivers d p list
    nothing p list e = cc
lists_have_all_drivers d (top ∷ rest) h = all_drivers d top rest h
