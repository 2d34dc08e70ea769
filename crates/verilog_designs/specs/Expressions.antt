-- What the expressions, targets and declarations of a module break: digits, constants, widths, selects and memories.
use Rattle.std.specs.Prelude.{Bool, true, false, cond, not, ◌&&◌, ◌||◌, nat_lt, List, [], ◌∷◌, Option, Some, None, is_some, is_none, ℤ}
use Rattle.wb_values.specs.Value.{Name, entry_of}
use Rattle.wb_values.specs.Choice.{some_if}
use Rattle.verilog_trees.specs.Syntax.{Number, Expression, number, name, concatenation, replication, as_signed, as_unsigned, unary, reduction, binary, shift, power, comparison, logical, conditional, Expressions, no_expressions, expression, Target, place, joined, Targets, no_targets, target, CaseKind, exact_case, wild_case, Statement, empty, blocking, nonblocking, if_then, if_else, case, block, Statements, no_statements, statement, CaseItems, no_items, arm, default_arm, Event, Events, any_change, on_events, Range, PortDeclaration, ParameterDeclaration, Connections, by_name, by_order, Item, port, parameter, wires, variables, assign, always, instances, Module, Source}
use Rattle.verilog_meaning.specs.Expression.{Scope, object_width, is_memory}
use Rattle.verilog_meaning.specs.Statement.{targets_width}
use Rattle.verilog_meaning.specs.Register.{is_clocked}
use Rattle.verilog_meaning.specs.Hierarchy.{Declaration, declarations, header_ports, module_named, Placed}
use Rattle.verilog_meaning.specs.Settled.{port_directions, as_target, Connection, instance_connections, port_meant}
use Rattle.verilog_rules.specs.Expression.{Broken, nothing, also, constant_if, width_if, Position, anywhere, constant, by_name as by_a_name, by_total, broken, broken_selects, has_width, broken_constant, constant_number, is_over_128}
use Rattle.verilog_designs.specs.Known.{as_bound, known_range_width, value_position, known_scope}
use Rattle.verilog_designs.specs.Ports.{is_output, port_direction}
use Rattle.verilog_designs.specs.Constants.{has_net_as_constant}

-- one rule, where this is so
abbrev pub memory_if : Bool → Broken
memory_if b = record nothing { memory_use = b }

-- ---- constants

abbrev pub is_outside : Option ℤ → Bool
is_outside None = false
is_outside (Some i) = is_none (as_bound (Some i))

-- BadConstant: a bound of a declared range outside 0 to 65,535.
abbrev pub broken_bound : Scope → Expression → Broken
broken_bound s e = also (constant_if (is_outside (constant_number s e))) (broken_constant s e)

abbrev pub broken_range : Scope → Option Range → Broken
broken_range s None = nothing
broken_range s (Some r) = also (broken_bound s r.left) (broken_bound s r.right)

-- the values of a declaration of parameters
abbrev pub broken_values : Scope → Option Range → List (Name × Expression) → Broken
broken_values s r [] = nothing
broken_values s r (v ∷ vs) = also (broken s (value_position s r v.1) v.1) (broken_values s r vs)

-- WidthOver128: a parameter of a wider range.
abbrev pub broken_width : Scope → Option Range → Broken
broken_width s None = nothing
broken_width s (Some r) = width_if (is_over_128 (known_range_width s r))

abbrev pub broken_parameters : Scope → ParameterDeclaration → Broken
broken_parameters s d = also (broken_range s d.range) (also (broken_width s d.range) (broken_values s d.range d.values))

abbrev pub broken_header : Scope → List ParameterDeclaration → Broken
broken_header s [] = nothing
broken_header s (d ∷ ds) = also (broken_parameters s d) (broken_header s ds)

abbrev pub broken_ports : Scope → List PortDeclaration → Broken
broken_ports s [] = nothing
broken_ports s (d ∷ ds) = also (broken_range s d.range) (broken_ports s ds)

-- ---- targets

abbrev mutual
  pub target_has_width : Scope → Target → Bool
  target_has_width s (place n x) = has_width s (name n x)
  target_has_width s (joined ts) = targets_have_width s ts

  pub targets_have_width : Scope → Targets → Bool
  targets_have_width s no_targets = true
  targets_have_width s (target t ts) = target_has_width s t && targets_have_width s ts

abbrev mutual
  -- A target with its indexes in this place: a constant is wanted in a continuous assignment and in a connection of an output.
  pub broken_target : Scope → Position → Target → Broken
  broken_target s p (place n x) = also (by_a_name anywhere (s n) x) (broken_selects s p (s n) x)
  broken_target s p (joined ts) = also (by_total (some_if (targets_have_width s ts) (targets_width s ts))) (broken_targets s p ts)

  pub broken_targets : Scope → Position → Targets → Broken
  broken_targets s p no_targets = nothing
  broken_targets s p (target t ts) = also (broken_target s p t) (broken_targets s p ts)

-- where indexes must be constant (a context of their own stands in its stead at each of them)
abbrev pub by_constants : Position
by_constants = constant None false

abbrev mutual
  -- a memory is written
  pub writes_memory : Scope → Target → Bool
  writes_memory s (place n x) = is_memory (s n)
  writes_memory s (joined ts) = one_writes_memory s ts

  pub one_writes_memory : Scope → Targets → Bool
  one_writes_memory s no_targets = false
  one_writes_memory s (target t ts) = writes_memory s t || one_writes_memory s ts

-- A target outside clocked blocks. MemoryUse: a memory is written there.
abbrev pub broken_net_target : Scope → Position → Target → Broken
broken_net_target s p t = also (memory_if (writes_memory s t)) (broken_target s p t)

-- ---- statements

-- HasXZ: as an item of a casez a z or ? digit may stand in a number with a size, without s, that is the whole item.
abbrev pub may_be_wild : CaseKind → Number → Bool
may_be_wild exact_case k = false
may_be_wild wild_case k = k.sized && not k.signed

-- an item with its wild digits left out, where they may stand
abbrev pub judged_item : CaseKind → Expression → Expression
judged_item kind (number k) = number (cond (may_be_wild kind k) (record k { has_wild = false }) k)
judged_item kind (name n x) = name n x
judged_item kind (concatenation es) = concatenation es
judged_item kind (replication k es) = replication k es
judged_item kind (as_signed x) = as_signed x
judged_item kind (as_unsigned x) = as_unsigned x
judged_item kind (unary op x) = unary op x
judged_item kind (reduction op x) = reduction op x
judged_item kind (binary op x y) = binary op x y
judged_item kind (shift op x n) = shift op x n
judged_item kind (power x n) = power x n
judged_item kind (comparison op x y) = comparison op x y
judged_item kind (logical op x y) = logical op x y
judged_item kind (conditional c x y) = conditional c x y

abbrev pub broken_item : Scope → CaseKind → Expression → Broken
broken_item s kind e = broken s anywhere (judged_item kind e)

abbrev pub broken_items : Scope → CaseKind → Expressions → Broken
broken_items s kind no_expressions = nothing
broken_items s kind (expression e es) = also (broken_item s kind e) (broken_items s kind es)

abbrev pub broken_block_target : Scope → (is_clocked_block : Bool) → Target → Broken
broken_block_target s true t = broken_target s anywhere t
broken_block_target s false t = broken_net_target s anywhere t

abbrev mutual
  -- of a clocked block, or of another one
  pub broken_statement : Scope → (is_clocked_block : Bool) → Statement → Broken
  broken_statement s c empty = nothing
  broken_statement s c (blocking t e) = also (broken_block_target s c t) (broken s anywhere e)
  broken_statement s c (nonblocking t e) = also (broken_block_target s c t) (broken s anywhere e)
  broken_statement s c (if_then e x) = also (broken s anywhere e) (broken_statement s c x)
  broken_statement s c (if_else e x y) = also (broken s anywhere e) (also (broken_statement s c x) (broken_statement s c y))
  broken_statement s c (case kind e items) = also (broken s anywhere e) (broken_arms s c kind items)
  broken_statement s c (block n xs) = broken_statements s c xs

  pub broken_statements : Scope → (is_clocked_block : Bool) → Statements → Broken
  broken_statements s c no_statements = nothing
  broken_statements s c (statement x xs) = also (broken_statement s c x) (broken_statements s c xs)

  pub broken_arms : Scope → (is_clocked_block : Bool) → CaseKind → CaseItems → Broken
  broken_arms s c kind no_items = nothing
  broken_arms s c kind (arm es x items) = also (broken_items s kind es) (also (broken_statement s c x) (broken_arms s c kind items))
  broken_arms s c kind (default_arm x items) = also (broken_statement s c x) (broken_arms s c kind items)

-- MemoryUse: a memory in a list of events.
abbrev pub broken_event_list : Scope → List Event → Broken
broken_event_list s [] = nothing
broken_event_list s (e ∷ es) = also (memory_if (is_memory (s e.signal))) (broken_event_list s es)

abbrev pub broken_events : Scope → Events → Broken
broken_events s any_change = nothing
broken_events s (on_events es) = broken_event_list s es

-- ---- assignments and connections

abbrev pub broken_assignments : Scope → List (Target × Expression) → Broken
broken_assignments s [] = nothing
broken_assignments s (a ∷ rest) =
    also (also (broken_net_target s by_constants a.0) (broken s anywhere a.1)) (broken_assignments s rest)

abbrev pub broken_initial_values : Scope → List (Name × Option Expression) → Broken
broken_initial_values s [] = nothing
broken_initial_values s ((n, None) ∷ ws) = broken_initial_values s ws
broken_initial_values s ((n, Some e) ∷ ws) = also (broken s anywhere e) (broken_initial_values s ws)

-- what is connected to an output, as a target where it is one
abbrev pub broken_output : Scope → Expression → Option Target → Broken
broken_output s e None = broken s anywhere e
broken_output s e (Some t) = broken_net_target s by_constants t

-- what is connected to a port: a target where the port is an output, and else an expression
abbrev pub broken_connection : Scope → Option Module → Connection → Broken
broken_connection s None c = broken s anywhere c.expression
broken_connection s (Some below) c =
    cond (is_output (port_direction below (port_meant below c.to_port))) (broken_output s c.expression (as_target c.expression)) (broken s anywhere c.expression)

abbrev pub broken_connections : Scope → Option Module → List Connection → Broken
broken_connections s below [] = nothing
broken_connections s below (c ∷ cs) = also (broken_connection s below c) (broken_connections s below cs)

abbrev pub broken_instances : Scope → Option Module → List (Name × Connections) → Broken
broken_instances s below [] = nothing
broken_instances s below (i ∷ is) = also (broken_connections s below (instance_connections i.0 i.1)) (broken_instances s below is)

-- the values that override parameters: each is a constant by itself
abbrev pub broken_named_values : Scope → List (Name × Option Expression) → Broken
broken_named_values s [] = nothing
broken_named_values s ((n, None) ∷ cs) = broken_named_values s cs
broken_named_values s ((n, Some e) ∷ cs) = also (broken_constant s e) (broken_named_values s cs)

abbrev pub broken_ordered_values : Scope → List (Option Expression) → Broken
broken_ordered_values s [] = nothing
broken_ordered_values s (None ∷ es) = broken_ordered_values s es
broken_ordered_values s (Some e ∷ es) = also (broken_constant s e) (broken_ordered_values s es)

abbrev pub broken_overrides : Scope → Connections → Broken
broken_overrides s (by_name cs) = broken_named_values s cs
broken_overrides s (by_order es) = broken_ordered_values s es

-- ---- declarations

abbrev pub broken_addresses : Scope → List (Name × Option Range) → Broken
broken_addresses s [] = nothing
broken_addresses s (v ∷ vs) = also (broken_range s v.1) (broken_addresses s vs)

-- WidthOver128: a declared name, also one that nothing reads. MemoryUse: a memory as a port.
abbrev pub broken_declaration : Scope → Module → Declaration → Broken
broken_declaration s m d =
    also (width_if (nat_lt 128 (object_width (s d.of_name))))
    (memory_if (is_some (entry_of (port_directions m) d.of_name) && is_memory (s d.of_name)))

abbrev pub broken_declarations : Scope → Module → List Declaration → Broken
broken_declarations s m [] = nothing
broken_declarations s m (d ∷ ds) = also (broken_declaration s m d) (broken_declarations s m ds)

-- ---- modules

abbrev pub broken_module_item : Source → Scope → Item → Broken
broken_module_item source s (port d) = broken_range s d.range
broken_module_item source s (parameter d) = broken_parameters s d
broken_module_item source s (wires signed r ws) = also (broken_range s r) (broken_initial_values s ws)
broken_module_item source s (variables signed r vs) = also (broken_range s r) (broken_addresses s vs)
broken_module_item source s (assign ts) = broken_assignments s ts
broken_module_item source s (always es x) = also (broken_events s es) (broken_statement s (is_clocked es) x)
broken_module_item source s (instances m given is) = also (broken_overrides s given) (broken_instances s (module_named source m) is)

abbrev pub broken_module_items : Source → Scope → List Item → Broken
broken_module_items source s [] = nothing
broken_module_items source s (i ∷ items) = also (broken_module_item source s i) (broken_module_items source s items)

-- What a module breaks, with those of its parameters that have values.
abbrev pub broken_module : Source → Placed → Broken
broken_module source p =
    let s : Scope = known_scope p in
    also (constant_if (has_net_as_constant source p.of_module))
    (also (also (broken_header s p.of_module.parameters) (broken_ports s (header_ports p.of_module.ports)))
    (also (broken_declarations s p.of_module (declarations p.of_module)) (broken_module_items source s p.of_module.items)))
