-- The names that stand where a constant must: bounds of declared ranges, values of parameters and of what overrides them, indexes in
-- the targets of continuous assignments and in what is connected to outputs; and within any expression counts of replications,
-- bounds of part selects, and widths of +: and -: (1364-2005, 4.3, 4.10, 5.2, 6.1).
use Rattle.std.specs.Prelude.{Bool, cond, not, ◌&&◌, List, [], ◌∷◌, ◌++◌, Option, Some, None}
use Rattle.std.specs.List.{list_any}
use Rattle.wb_values.specs.Value.{Name}
use Rattle.verilog_trees.specs.Syntax.{Expression, number, name, concatenation, replication, as_signed, as_unsigned, unary, reduction, binary, shift, power, comparison, logical, conditional, Expressions, no_expressions, expression, Select, index, part, part_up, part_down, Selects, whole, one, two, Target, place, joined, Targets, no_targets, target, Statement, empty, blocking, nonblocking, if_then, if_else, case, block, Statements, no_statements, statement, CaseItems, no_items, arm, default_arm, Connections, Item, port, parameter, wires, variables, assign, always, instances, Module, Source}
use Rattle.verilog_meaning.specs.Hierarchy.{all_parameters, declarations, header_ports, module_named}
use Rattle.verilog_meaning.specs.Settled.{is_declared_among, as_target, Connection, instance_connections, port_meant}
use Rattle.verilog_designs.specs.Names.{is_among, parameter_names, names_in, names_in_selects, names_in_range, names_in_values, names_in_parameters, names_in_ports, names_in_addresses, names_in_connections}
use Rattle.verilog_designs.specs.Ports.{is_output, port_direction}

abbrev mutual
  -- the names in the constants within an expression
  pub constant_names : Expression → List Name
  constant_names (number k) = []
  constant_names (name n x) = constant_names_in_selects x
  constant_names (concatenation es) = constant_names_in_all es
  constant_names (replication k es) = names_in k ++ constant_names_in_all es
  constant_names (as_signed x) = constant_names x
  constant_names (as_unsigned x) = constant_names x
  constant_names (unary op x) = constant_names x
  constant_names (reduction op x) = constant_names x
  constant_names (binary op x y) = constant_names x ++ constant_names y
  constant_names (shift op x n) = constant_names x ++ constant_names n
  constant_names (power x n) = constant_names x ++ constant_names n
  constant_names (comparison op x y) = constant_names x ++ constant_names y
  constant_names (logical op x y) = constant_names x ++ constant_names y
  constant_names (conditional c x y) = constant_names c ++ constant_names x ++ constant_names y

  pub constant_names_in_all : Expressions → List Name
  constant_names_in_all no_expressions = []
  constant_names_in_all (expression e es) = constant_names e ++ constant_names_in_all es

  pub constant_names_in_select : Select → List Name
  constant_names_in_select (index i) = constant_names i
  constant_names_in_select (part h l) = names_in h ++ names_in l
  constant_names_in_select (part_up b n) = constant_names b ++ names_in n
  constant_names_in_select (part_down b n) = constant_names b ++ names_in n

  pub constant_names_in_selects : Selects → List Name
  constant_names_in_selects whole = []
  constant_names_in_selects (one x) = constant_names_in_select x
  constant_names_in_selects (two x y) = constant_names_in_select x ++ constant_names_in_select y

abbrev mutual
  -- in the target of a block
  pub constant_names_in_target : Target → List Name
  constant_names_in_target (place n x) = constant_names_in_selects x
  constant_names_in_target (joined ts) = constant_names_in_targets ts

  pub constant_names_in_targets : Targets → List Name
  constant_names_in_targets no_targets = []
  constant_names_in_targets (target t ts) = constant_names_in_target t ++ constant_names_in_targets ts

abbrev mutual
  -- the names in all indexes of a target
  pub index_names : Target → List Name
  index_names (place n x) = names_in_selects x
  index_names (joined ts) = index_names_in_all ts

  pub index_names_in_all : Targets → List Name
  index_names_in_all no_targets = []
  index_names_in_all (target t ts) = index_names t ++ index_names_in_all ts

abbrev mutual
  pub constant_names_in_statement : Statement → List Name
  constant_names_in_statement empty = []
  constant_names_in_statement (blocking t e) = constant_names_in_target t ++ constant_names e
  constant_names_in_statement (nonblocking t e) = constant_names_in_target t ++ constant_names e
  constant_names_in_statement (if_then c x) = constant_names c ++ constant_names_in_statement x
  constant_names_in_statement (if_else c x y) = constant_names c ++ constant_names_in_statement x ++ constant_names_in_statement y
  constant_names_in_statement (case kind e items) = constant_names e ++ constant_names_in_items items
  constant_names_in_statement (block n xs) = constant_names_in_statements xs

  pub constant_names_in_statements : Statements → List Name
  constant_names_in_statements no_statements = []
  constant_names_in_statements (statement x xs) = constant_names_in_statement x ++ constant_names_in_statements xs

  pub constant_names_in_items : CaseItems → List Name
  constant_names_in_items no_items = []
  constant_names_in_items (arm es x items) = constant_names_in_all es ++ constant_names_in_statement x ++ constant_names_in_items items
  constant_names_in_items (default_arm x items) = constant_names_in_statement x ++ constant_names_in_items items

abbrev pub constant_names_in_initial : List (Name × Option Expression) → List Name
constant_names_in_initial [] = []
constant_names_in_initial ((n, None) ∷ ws) = constant_names_in_initial ws
constant_names_in_initial ((n, Some e) ∷ ws) = constant_names e ++ constant_names_in_initial ws

abbrev pub constant_names_in_assignments : List (Target × Expression) → List Name
constant_names_in_assignments [] = []
constant_names_in_assignments (a ∷ rest) = index_names a.0 ++ constant_names a.1 ++ constant_names_in_assignments rest

abbrev pub constant_names_in_output : Expression → Option Target → List Name
constant_names_in_output e None = constant_names e
constant_names_in_output e (Some t) = index_names t

abbrev pub constant_names_in_connection : Option Module → Connection → List Name
constant_names_in_connection None c = constant_names c.expression
constant_names_in_connection (Some below) c =
    cond (is_output (port_direction below (port_meant below c.to_port))) (constant_names_in_output c.expression (as_target c.expression))
    (constant_names c.expression)

abbrev pub constant_names_in_connections : Option Module → List Connection → List Name
constant_names_in_connections below [] = []
constant_names_in_connections below (c ∷ cs) = constant_names_in_connection below c ++ constant_names_in_connections below cs

abbrev pub constant_names_in_instances : Option Module → List (Name × Connections) → List Name
constant_names_in_instances below [] = []
constant_names_in_instances below (i ∷ is) =
    constant_names_in_connections below (instance_connections i.0 i.1) ++ constant_names_in_instances below is

abbrev pub constant_names_in_item : Source → Item → List Name
constant_names_in_item source (port d) = names_in_range d.range
constant_names_in_item source (parameter d) = names_in_range d.range ++ names_in_values d.values
constant_names_in_item source (wires signed r ws) = names_in_range r ++ constant_names_in_initial ws
constant_names_in_item source (variables signed r vs) = names_in_range r ++ names_in_addresses vs
constant_names_in_item source (assign ts) = constant_names_in_assignments ts
constant_names_in_item source (always es x) = constant_names_in_statement x
constant_names_in_item source (instances m given is) = names_in_connections given ++ constant_names_in_instances (module_named source m) is

abbrev pub constant_names_in_module_items : Source → List Item → List Name
constant_names_in_module_items source [] = []
constant_names_in_module_items source (i ∷ items) = constant_names_in_item source i ++ constant_names_in_module_items source items

abbrev pub constant_names_in_module : Source → Module → List Name
constant_names_in_module source m =
    names_in_parameters m.parameters ++ names_in_ports (header_ports m.ports) ++ constant_names_in_module_items source m.items

abbrev pub is_net : Module → Name → Bool
is_net m n = is_declared_among (declarations m) n && not (is_among (parameter_names (all_parameters m)) n)

-- BadConstant: a net or a variable stands where a constant must. (This is so also of a net whose own range has no value.)
abbrev pub has_net_as_constant : Source → Module → Bool
has_net_as_constant source m = list_any (is_net m) (constant_names_in_module source m)
