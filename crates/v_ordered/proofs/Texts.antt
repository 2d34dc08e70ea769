-- The members of a module, part by part, and the names that it declares as variables.
use Rattle.std.proofs.Common.{◌≡◌, ◌∙◌, ◌<◌, ◌+◌, ℕ, refl, ap, sym, Bool, true, false, cond, ◌&&◌, ◌||◌, List, [], ◌∷◌, ◌++◌, map, length, drop, get_or, Option, Some, None}
use Rattle.std.proofs.lemmas.List.{append-nil, drop_more}
use Rattle.wb_values.specs.Value.{Name, same_name}
use Rattle.verilog_trees.specs.Syntax.{Range, Expression, Connections, PortDeclaration, Item, port, parameter, wires, variables, assign, always, instances, Module}
use Rattle.verilog_meaning.specs.Hierarchy.{Declaration, each_port, port_declarations, wire_declarations, variable_declarations, item_declarations, header_ports, declarations}
use Rattle.verilog_meaning.specs.Settled.{names_of}
use Rattle.verilog_registers.specs.Order.{Member, net, instance, nets, instances_in, declares_variable, is_variable_among, is_passed_over, placed_among, item_members, each_once, members_in}
use Rattle.v_syntax.specs.declared.module.Wire.{Wire}
use Rattle.v_syntax.specs.declared.module.Variable.{Variable}
use Rattle.v_syntax.specs.declared.module.Instance.{Instance}
use Rattle.v_syntax.specs.Source.{boxed_tree_of, optional_range_of, connections_of}
use Rattle.v_ordered.specs.Membership.{nets_named, instances_named, port_nets, header_nets, item_nets, all_item_nets, unseen}

-- ---- names of the code's lists

pub wires_named : (ws : List Wire) → nets_named (map (λ w. w.name.now) ws) ≡ nets_named (names_of (map (λ w. (w.name.now, boxed_tree_of w.value)) ws))
wires_named [] = refl
wires_named (w ∷ ws) = ap (λ xs. net w.name.now ∷ xs) (wires_named ws)

pub variables_named : (vs : List Variable) → nets_named (map (λ v. v.name.now) vs) ≡ nets_named (names_of (map (λ v. (v.name.now, optional_range_of v.addresses)) vs))
variables_named [] = refl
variables_named (v ∷ vs) = ap (λ xs. net v.name.now ∷ xs) (variables_named vs)

pub instances_listed : (is : List Instance)
    → instances_named (map (λ i. i.name.now) is) ≡ instances_named (names_of (map (λ i. (i.name.now, connections_of i.connections)) is))
instances_listed [] = refl
instances_listed (i ∷ is) = ap (λ xs. instance i.name.now ∷ xs) (instances_listed is)

-- ---- variables

and_false : (b : Bool) → (b && false) ≡ false
and_false true = refl
and_false false = refl

none_or : (a b : Bool) → a ≡ false → b ≡ false → (a || b) ≡ false
none_or true b e f = e
none_or false b e f = f

or_assoc : (a b c : Bool) → ((a || b) || c) ≡ (a || (b || c))
or_assoc true b c = refl
or_assoc false b c = refl

variable_append : (xs ys : List Declaration) (q : Name) → is_variable_among (xs ++ ys) q ≡ (is_variable_among xs q || is_variable_among ys q)
variable_append [] ys q = refl
variable_append (d ∷ xs) ys q =
    ap (λ b. (same_name d.of_name q && declares_variable d) || b) (variable_append xs ys q)
    ∙ sym (or_assoc (same_name d.of_name q && declares_variable d) (is_variable_among xs q) (is_variable_among ys q))

no_port : (d : PortDeclaration) (ns : List Name) (q : Name) → is_variable_among (each_port d ns) q ≡ false
no_port d [] q = refl
no_port d (n ∷ ns) q = none_or (same_name n q && false) (is_variable_among (each_port d ns) q) (and_false (same_name n q)) (no_port d ns q)

no_header : (ds : List PortDeclaration) (q : Name) → is_variable_among (port_declarations ds) q ≡ false
no_header [] q = refl
no_header (d ∷ ds) q =
    variable_append (each_port d d.names) (port_declarations ds) q
    ∙ none_or (is_variable_among (each_port d d.names) q) (is_variable_among (port_declarations ds) q) (no_port d d.names q) (no_header ds q)

no_wire : (signed : Bool) (r : Option Range) (ws : List (Name × Option Expression)) (q : Name) → is_variable_among (wire_declarations signed r ws) q ≡ false
no_wire signed r [] q = refl
no_wire signed r (w ∷ ws) q =
    none_or (same_name w.0 q && false) (is_variable_among (wire_declarations signed r ws) q) (and_false (same_name w.0 q)) (no_wire signed r ws q)

-- what a port or a net leaves as it was
pub kept : (b t : Bool) → t ≡ false → b ≡ (b || t)
kept true t e = refl
kept false t e = sym e

pub no_port_item : (d : PortDeclaration) (q : Name) → is_variable_among (item_declarations (port d ∷ [])) q ≡ false
no_port_item d q = ap (λ xs. is_variable_among xs q) (append-nil (each_port d d.names)) ∙ no_port d d.names q

pub no_wires_item : (signed : Bool) (r : Option Range) (ws : List (Name × Option Expression)) (q : Name)
    → is_variable_among (item_declarations (wires signed r ws ∷ [])) q ≡ false
no_wires_item signed r ws q = ap (λ xs. is_variable_among xs q) (append-nil (wire_declarations signed r ws)) ∙ no_wire signed r ws q

pub variables_item : (signed : Bool) (r : Option Range) (vs : List (Name × Option Range)) (q : Name)
    → is_variable_among (item_declarations (variables signed r vs ∷ [])) q ≡ is_variable_among (variable_declarations signed r vs) q
variables_item signed r vs q = ap (λ xs. is_variable_among xs q) (append-nil (variable_declarations signed r vs))

or_turn : (s o r : Bool) → (o || ((s && true) || r)) ≡ (cond s true o || r)
or_turn true true r = refl
or_turn true false r = refl
or_turn false o r = refl

abbrev listed : List Variable → List (Name × Option Range)
listed vs = map (λ v. (v.name.now, optional_range_of v.addresses)) vs

-- a turn that adds one variable
pub variable_turn : (vs : List Variable) (i : ℕ) (d : Variable) (all old new : Bool) (signed : Bool) (r : Option Range) (q : Name) → i < length vs
    → all ≡ (old || is_variable_among (variable_declarations signed r (listed (drop i vs))) q) → new ≡ cond (same_name (get_or vs i d).name.now q) true old
    → all ≡ (new || is_variable_among (variable_declarations signed r (listed (drop (i + 1) vs))) q)
variable_turn vs i d all old new signed r q lt h e =
    h ∙ ap (λ ys. old || is_variable_among (variable_declarations signed r (listed ys)) q) (drop_more vs i d lt)
    ∙ or_turn (same_name (get_or vs i d).name.now q) old (is_variable_among (variable_declarations signed r (listed (drop (i + 1) vs))) q)
    ∙ ap (λ b. b || is_variable_among (variable_declarations signed r (listed (drop (i + 1) vs))) q) (sym e)

declared_more : (i : Item) (items : List Item) → item_declarations (i ∷ items) ≡ item_declarations (i ∷ []) ++ item_declarations items
declared_more (port d) items = ap (λ xs. xs ++ item_declarations items) (sym (append-nil (each_port d d.names)))
declared_more (parameter d) items = refl
declared_more (wires signed r ws) items = ap (λ xs. xs ++ item_declarations items) (sym (append-nil (wire_declarations signed r ws)))
declared_more (variables signed r vs) items = ap (λ xs. xs ++ item_declarations items) (sym (append-nil (variable_declarations signed r vs)))
declared_more (assign ts) items = refl
declared_more (always es x) items = refl
declared_more (instances m given is) items = refl

-- a turn that adds those of one item
pub item_turn : (i : Item) (items : List Item) (all old new : Bool) (q : Name) → all ≡ (old || is_variable_among (item_declarations (i ∷ items)) q)
    → new ≡ (old || is_variable_among (item_declarations (i ∷ [])) q) → all ≡ (new || is_variable_among (item_declarations items) q)
item_turn i items all old new q h e =
    h
    ∙ ap (λ b. old || b)
    (ap (λ xs. is_variable_among xs q) (declared_more i items) ∙ variable_append (item_declarations (i ∷ [])) (item_declarations items) q)
    ∙ sym (or_assoc old (is_variable_among (item_declarations (i ∷ [])) q) (is_variable_among (item_declarations items) q))
    ∙ ap (λ b. b || is_variable_among (item_declarations items) q) (sym e)

-- ---- members

placed_append : (all xs ys : List Declaration) → placed_among all (xs ++ ys) ≡ placed_among all xs ++ placed_among all ys
placed_append all [] ys = refl
placed_append all (d ∷ xs) ys = by (is_passed_over all d) (placed_append all xs ys)
  where
    by : (t : Bool) → placed_among all (xs ++ ys) ≡ placed_among all xs ++ placed_among all ys
        → cond t (placed_among all (xs ++ ys)) (d ∷ placed_among all (xs ++ ys)) ≡ cond t (placed_among all xs) (d ∷ placed_among all xs) ++ placed_among all ys
    by true e = e
    by false e = ap (λ zs. d ∷ zs) e

nets_append : (xs ys : List Declaration) → nets (xs ++ ys) ≡ nets xs ++ nets ys
nets_append [] ys = refl
nets_append (d ∷ xs) ys = ap (λ zs. net d.of_name ∷ zs) (nets_append xs ys)

module _ (all : List Declaration) (v : Name → Bool) (h : (q : Name) → v q ≡ is_variable_among all q) where
  ports_so : (d : PortDeclaration) (ns : List Name) → nets (placed_among all (each_port d ns)) ≡ port_nets v ns
  ports_so d [] = refl
  ports_so d (n ∷ ns) = by (is_variable_among all n) refl (ports_so d ns)
    where
      by : (t : Bool) → is_variable_among all n ≡ t → nets (placed_among all (each_port d ns)) ≡ port_nets v ns
          → nets (cond t (placed_among all (each_port d ns)) (record { of_name = n; direction = Some d.direction; kind = d.kind; signed = d.signed; range = d.range; addresses = None } ∷ placed_among all (each_port d ns)))
          ≡ cond (v n) (port_nets v ns) (net n ∷ port_nets v ns)
      by true e i = i ∙ sym (ap (λ b. cond b (port_nets v ns) (net n ∷ port_nets v ns)) (h n ∙ e))
      by false e i = ap (λ zs. net n ∷ zs) i ∙ sym (ap (λ b. cond b (port_nets v ns) (net n ∷ port_nets v ns)) (h n ∙ e))

  header_so : (ds : List PortDeclaration) → nets (placed_among all (port_declarations ds)) ≡ header_nets v ds
  header_so [] = refl
  header_so (d ∷ ds) =
      ap nets (placed_append all (each_port d d.names) (port_declarations ds))
      ∙ nets_append (placed_among all (each_port d d.names)) (placed_among all (port_declarations ds))
      ∙ ap (λ zs. zs ++ nets (placed_among all (port_declarations ds))) (ports_so d d.names)
      ∙ ap (λ zs. port_nets v d.names ++ zs) (header_so ds)

  wires_so : (signed : Bool) (r : Option Range) (ws : List (Name × Option Expression)) → nets (placed_among all (wire_declarations signed r ws)) ≡ nets_named (names_of ws)
  wires_so signed r [] = refl
  wires_so signed r (w ∷ ws) = ap (λ zs. net w.0 ∷ zs) (wires_so signed r ws)

  variables_so : (signed : Bool) (r : Option Range) (vs : List (Name × Option Range)) → nets (placed_among all (variable_declarations signed r vs)) ≡ nets_named (names_of vs)
  variables_so signed r [] = refl
  variables_so signed r (x ∷ vs) = ap (λ zs. net x.0 ∷ zs) (variables_so signed r vs)

  instances_so : (is : List (Name × Connections)) → map (λ i. instance i.0) is ≡ instances_named (names_of is)
  instances_so [] = refl
  instances_so (i ∷ is) = ap (λ zs. instance i.0 ∷ zs) (instances_so is)

  item_so : (i : Item) → nets (placed_among all (item_declarations (i ∷ []))) ++ instances_in i ≡ item_nets v i
  item_so (port d) =
      append-nil (nets (placed_among all (each_port d d.names ++ [])))
      ∙ ap (λ xs. nets (placed_among all xs)) (append-nil (each_port d d.names)) ∙ ports_so d d.names
  item_so (parameter d) = refl
  item_so (wires signed r ws) =
      append-nil (nets (placed_among all (wire_declarations signed r ws ++ [])))
      ∙ ap (λ xs. nets (placed_among all xs)) (append-nil (wire_declarations signed r ws)) ∙ wires_so signed r ws
  item_so (variables signed r vs) =
      append-nil (nets (placed_among all (variable_declarations signed r vs ++ [])))
      ∙ ap (λ xs. nets (placed_among all xs)) (append-nil (variable_declarations signed r vs)) ∙ variables_so signed r vs
  item_so (assign ts) = refl
  item_so (always es x) = refl
  item_so (instances m given is) = instances_so is

  items_so : (items : List Item) → item_members all items ≡ all_item_nets v items
  items_so [] = refl
  items_so (i ∷ items) =
      ap (λ zs. zs ++ item_members all items) (item_so i) ∙ ap (λ zs. item_nets v i ++ zs) (items_so items)

pub members_so : (m : Module) (v : Name → Bool) → ((q : Name) → v q ≡ is_variable_among (item_declarations m.items) q)
    → each_once (header_nets v (header_ports m.ports) ++ all_item_nets v m.items) ≡ members_in m
members_so m v h =
    ap each_once
    (ap (λ zs. zs ++ all_item_nets v m.items) (sym (header_so (declarations m) v all_so (header_ports m.ports)))
    ∙ ap (λ zs. nets (placed_among (declarations m) (port_declarations (header_ports m.ports))) ++ zs) (sym (items_so (declarations m) v all_so m.items)))
  where
    all_so : (q : Name) → v q ≡ is_variable_among (declarations m) q
    all_so q =
        h q
        ∙ sym (variable_append (port_declarations (header_ports m.ports)) (item_declarations m.items) q
        ∙ ap (λ b. b || is_variable_among (item_declarations m.items) q) (no_header (header_ports m.ports) q))

-- nothing was seen
pub none_unseen : (f : Member → Bool) → ((x : Member) → f x ≡ false) → (xs : List Member) → unseen f xs ≡ xs
none_unseen f h [] = refl
none_unseen f h (x ∷ xs) = ap (λ t. cond t (unseen f xs) (x ∷ unseen f xs)) (h x) ∙ ap (λ zs. x ∷ zs) (none_unseen f h xs)
