-- The assignments, connections, instances and blocks of a module are the parts of its processes.
use Rattle.std.proofs.Common.{◌≡◌, Bool, true, false, cond, List, [], ◌∷◌, ◌++◌, refl, sym, ap, ◌∙◌, Option, Some}
use Rattle.wb_values.specs.Value.{Name, same_name}
use Rattle.wb_values.specs.Choice.{first_of}
use Rattle.verilog_trees.specs.Syntax.{Expression, Target, Statement, Connections, Item, port, parameter, wires, variables, assign, always, instances}
use Rattle.verilog_meaning.specs.Register.{is_clocked, clocked_blocks, combinational_blocks}
use Rattle.verilog_meaning.specs.Hierarchy.{Instance, instance_among, instance_named}
use Rattle.verilog_meaning.specs.Settled.{wire_assignments, assignments, Connection, instance_connections, connections_of_each, port_connections}
use Rattle.verilog_meaning.specs.Process.{Process, inner, clocked, combinational, each_assignment, each_connection, each_instance, processes, assignments_in, connections_in, clocked_in, combinational_in, instance_in, ArePartsOfProcesses}

append_assoc : {A : Type 0} (xs ys zs : List A) → (xs ++ ys) ++ zs ≡ xs ++ (ys ++ zs)
append_assoc [] ys zs = refl
append_assoc (x ∷ xs) ys zs = ap (λ us. x ∷ us) (append_assoc xs ys zs)

-- ---- a function of lists of processes that passes over the front of a list

abbrev PassesOver : {A : Type 0} → (List Process → A) → List Process → Type 0
PassesOver f front = (ps : List Process) → f (front ++ ps) ≡ f ps

-- ---- assignments in front

assigned_front : (ts : List (Target × Expression)) (ps : List Process) → assignments_in (each_assignment ts ++ ps) ≡ ts ++ assignments_in ps
assigned_front [] ps = refl
assigned_front (t ∷ ts) ps = ap (λ us. t ∷ us) (assigned_front ts ps)

assigned_connections : (ts : List (Target × Expression)) → PassesOver connections_in (each_assignment ts)
assigned_connections [] ps = refl
assigned_connections (t ∷ ts) ps = assigned_connections ts ps

assigned_instance : (ts : List (Target × Expression)) (u : Name) → PassesOver (λ qs. instance_in qs u) (each_assignment ts)
assigned_instance [] u ps = refl
assigned_instance (t ∷ ts) u ps = assigned_instance ts u ps

assigned_clocked : (ts : List (Target × Expression)) → PassesOver clocked_in (each_assignment ts)
assigned_clocked [] ps = refl
assigned_clocked (t ∷ ts) ps = assigned_clocked ts ps

assigned_combinational : (ts : List (Target × Expression)) → PassesOver combinational_in (each_assignment ts)
assigned_combinational [] ps = refl
assigned_combinational (t ∷ ts) ps = assigned_combinational ts ps

-- ---- connections in front

joined_assigned : (cs : List Connection) → PassesOver assignments_in (each_connection cs)
joined_assigned [] ps = refl
joined_assigned (c ∷ cs) ps = joined_assigned cs ps

joined_front : (cs : List Connection) (ps : List Process) → connections_in (each_connection cs ++ ps) ≡ cs ++ connections_in ps
joined_front [] ps = refl
joined_front (c ∷ cs) ps = ap (λ us. c ∷ us) (joined_front cs ps)

joined_instance : (cs : List Connection) (u : Name) → PassesOver (λ qs. instance_in qs u) (each_connection cs)
joined_instance [] u ps = refl
joined_instance (c ∷ cs) u ps = joined_instance cs u ps

joined_clocked : (cs : List Connection) → PassesOver clocked_in (each_connection cs)
joined_clocked [] ps = refl
joined_clocked (c ∷ cs) ps = joined_clocked cs ps

joined_combinational : (cs : List Connection) → PassesOver combinational_in (each_connection cs)
joined_combinational [] ps = refl
joined_combinational (c ∷ cs) ps = joined_combinational cs ps

-- ---- instances in front

module _ (m : Name) (given : Connections) where
  abbrev own : Name × Connections → Process
  own i = inner i.0 (record { of_module = m; parameters = given; connections = i.1 })

  -- the connections of the first, and the rest
  first_rest : {A : Type 0} (f : List Process → A) (i : Name × Connections) (is : List (Name × Connections)) (ps : List Process)
      → f (each_instance m given (i ∷ is) ++ ps)
      ≡ f (each_connection (instance_connections i.0 i.1) ++ (own i ∷ (each_instance m given is ++ ps)))
  first_rest f i is ps = ap f (append_assoc (each_connection (instance_connections i.0 i.1)) (own i ∷ each_instance m given is) ps)

  inner_assigned : (is : List (Name × Connections)) → PassesOver assignments_in (each_instance m given is)
  inner_assigned [] ps = refl
  inner_assigned (i ∷ is) ps =
      first_rest assignments_in i is ps
      ∙ (joined_assigned (instance_connections i.0 i.1) (own i ∷ (each_instance m given is ++ ps)) ∙ inner_assigned is ps)

  inner_connections : (is : List (Name × Connections)) (ps : List Process)
      → connections_in (each_instance m given is ++ ps) ≡ connections_of_each is ++ connections_in ps
  inner_connections [] ps = refl
  inner_connections (i ∷ is) ps =
      first_rest connections_in i is ps
      ∙ (joined_front (instance_connections i.0 i.1) (own i ∷ (each_instance m given is ++ ps))
      ∙ (ap (λ cs. instance_connections i.0 i.1 ++ cs) (inner_connections is ps)
      ∙ sym (append_assoc (instance_connections i.0 i.1) (connections_of_each is) (connections_in ps))))

  inner_clocked : (is : List (Name × Connections)) → PassesOver clocked_in (each_instance m given is)
  inner_clocked [] ps = refl
  inner_clocked (i ∷ is) ps =
      first_rest clocked_in i is ps
      ∙ (joined_clocked (instance_connections i.0 i.1) (own i ∷ (each_instance m given is ++ ps)) ∙ inner_clocked is ps)

  inner_combinational : (is : List (Name × Connections)) → PassesOver combinational_in (each_instance m given is)
  inner_combinational [] ps = refl
  inner_combinational (i ∷ is) ps =
      first_rest combinational_in i is ps
      ∙ (joined_combinational (instance_connections i.0 i.1) (own i ∷ (each_instance m given is ++ ps)) ∙ inner_combinational is ps)

  chosen : (b : Bool) (i : Instance) (x y : Option Instance) → cond b (Some i) (first_of x y) ≡ first_of (cond b (Some i) x) y
  chosen true i x y = refl
  chosen false i x y = refl

  inner_instance : (is : List (Name × Connections)) (u : Name) (ps : List Process)
      → instance_in (each_instance m given is ++ ps) u ≡ first_of (instance_among m given is u) (instance_in ps u)
  inner_instance [] u ps = refl
  inner_instance (i ∷ is) u ps =
      first_rest (λ qs. instance_in qs u) i is ps
      ∙ (joined_instance (instance_connections i.0 i.1) u (own i ∷ (each_instance m given is ++ ps))
      ∙ (ap (λ x. cond (same_name i.0 u) (Some (record { of_module = m; parameters = given; connections = i.1 })) x) (inner_instance is u ps)
      ∙ chosen (same_name i.0 u) _ _ _))

-- ---- a block in front

block_assigned : (b : Bool) (x : Statement) (ps : List Process) → assignments_in (cond b (clocked x) (combinational x) ∷ ps) ≡ assignments_in ps
block_assigned true x ps = refl
block_assigned false x ps = refl

block_connections : (b : Bool) (x : Statement) (ps : List Process) → connections_in (cond b (clocked x) (combinational x) ∷ ps) ≡ connections_in ps
block_connections true x ps = refl
block_connections false x ps = refl

block_instance : (b : Bool) (x : Statement) (ps : List Process) (u : Name)
    → instance_in (cond b (clocked x) (combinational x) ∷ ps) u ≡ instance_in ps u
block_instance true x ps u = refl
block_instance false x ps u = refl

block_clocked : (b : Bool) (x : Statement) (ps : List Process)
    → clocked_in (cond b (clocked x) (combinational x) ∷ ps) ≡ cond b (x ∷ clocked_in ps) (clocked_in ps)
block_clocked true x ps = refl
block_clocked false x ps = refl

block_combinational : (b : Bool) (x : Statement) (ps : List Process)
    → combinational_in (cond b (clocked x) (combinational x) ∷ ps) ≡ cond b (combinational_in ps) (x ∷ combinational_in ps)
block_combinational true x ps = refl
block_combinational false x ps = refl

-- ---- the parts

assignments_are : (items : List Item) → assignments_in (processes items) ≡ assignments items
assignments_are [] = refl
assignments_are (port d ∷ items) = assignments_are items
assignments_are (parameter d ∷ items) = assignments_are items
assignments_are (wires signed r ws ∷ items) =
    assigned_front (wire_assignments ws) (processes items) ∙ ap (λ ts. wire_assignments ws ++ ts) (assignments_are items)
assignments_are (variables signed r vs ∷ items) = assignments_are items
assignments_are (assign ts ∷ items) = assigned_front ts (processes items) ∙ ap (λ us. ts ++ us) (assignments_are items)
assignments_are (always es x ∷ items) = block_assigned (is_clocked es) x (processes items) ∙ assignments_are items
assignments_are (instances m given is ∷ items) = inner_assigned m given is (processes items) ∙ assignments_are items

connections_are : (items : List Item) → connections_in (processes items) ≡ port_connections items
connections_are [] = refl
connections_are (port d ∷ items) = connections_are items
connections_are (parameter d ∷ items) = connections_are items
connections_are (wires signed r ws ∷ items) = assigned_connections (wire_assignments ws) (processes items) ∙ connections_are items
connections_are (variables signed r vs ∷ items) = connections_are items
connections_are (assign ts ∷ items) = assigned_connections ts (processes items) ∙ connections_are items
connections_are (always es x ∷ items) = block_connections (is_clocked es) x (processes items) ∙ connections_are items
connections_are (instances m given is ∷ items) =
    inner_connections m given is (processes items) ∙ ap (λ cs. connections_of_each is ++ cs) (connections_are items)

instances_are : (items : List Item) (u : Name) → instance_in (processes items) u ≡ instance_named items u
instances_are [] u = refl
instances_are (port d ∷ items) u = instances_are items u
instances_are (parameter d ∷ items) u = instances_are items u
instances_are (wires signed r ws ∷ items) u = assigned_instance (wire_assignments ws) u (processes items) ∙ instances_are items u
instances_are (variables signed r vs ∷ items) u = instances_are items u
instances_are (assign ts ∷ items) u = assigned_instance ts u (processes items) ∙ instances_are items u
instances_are (always es x ∷ items) u = block_instance (is_clocked es) x (processes items) u ∙ instances_are items u
instances_are (instances m given is ∷ items) u =
    inner_instance m given is u (processes items) ∙ ap (first_of (instance_among m given is u)) (instances_are items u)

clocked_are : (items : List Item) → clocked_in (processes items) ≡ clocked_blocks items
clocked_are [] = refl
clocked_are (port d ∷ items) = clocked_are items
clocked_are (parameter d ∷ items) = clocked_are items
clocked_are (wires signed r ws ∷ items) = assigned_clocked (wire_assignments ws) (processes items) ∙ clocked_are items
clocked_are (variables signed r vs ∷ items) = clocked_are items
clocked_are (assign ts ∷ items) = assigned_clocked ts (processes items) ∙ clocked_are items
clocked_are (always es x ∷ items) =
    block_clocked (is_clocked es) x (processes items) ∙ ap (λ xs. cond (is_clocked es) (x ∷ xs) xs) (clocked_are items)
clocked_are (instances m given is ∷ items) = inner_clocked m given is (processes items) ∙ clocked_are items

combinational_are : (items : List Item) → combinational_in (processes items) ≡ combinational_blocks items
combinational_are [] = refl
combinational_are (port d ∷ items) = combinational_are items
combinational_are (parameter d ∷ items) = combinational_are items
combinational_are (wires signed r ws ∷ items) = assigned_combinational (wire_assignments ws) (processes items) ∙ combinational_are items
combinational_are (variables signed r vs ∷ items) = combinational_are items
combinational_are (assign ts ∷ items) = assigned_combinational ts (processes items) ∙ combinational_are items
combinational_are (always es x ∷ items) =
    block_combinational (is_clocked es) x (processes items) ∙ ap (λ xs. cond (is_clocked es) xs (x ∷ xs)) (combinational_are items)
combinational_are (instances m given is ∷ items) = inner_combinational m given is (processes items) ∙ combinational_are items

pub are_parts : (items : List Item) → ArePartsOfProcesses items
are_parts items =
    record {
      assigned = sym (assignments_are items);
      connected = sym (connections_are items);
      placed = λ u. sym (instances_are items u);
      clocked = sym (clocked_are items);
      combinational = sym (combinational_are items);
    }
