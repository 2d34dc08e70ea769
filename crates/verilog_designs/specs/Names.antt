-- The names of a module: which are used before anything declares them, and which are declared twice (1364-2005, 4.11, 12.2, 12.3).
use Rattle.std.specs.Prelude.{ℕ, ◌+◌, Bool, true, false, cond, not, ◌&&◌, ◌||◌, ◌==◌, nat_le, List, [], ◌∷◌, ◌++◌, Option, Some, None, is_some, is_none}
use Rattle.std.specs.List.{list_any}
use Rattle.wb_values.specs.Value.{Name, same_name}
use Rattle.verilog_trees.specs.Syntax.{Expression, number, name, concatenation, replication, as_signed, as_unsigned, unary, reduction, binary, shift, power, comparison, logical, conditional, Expressions, no_expressions, expression, Select, index, part, part_up, part_down, Selects, whole, one, two, Target, place, joined, Targets, no_targets, target, Statement, empty, blocking, nonblocking, if_then, if_else, case, block, Statements, no_statements, statement, CaseItems, no_items, arm, default_arm, Events, any_change, on_events, Range, PortDeclaration, ParameterDeclaration, Connections, by_name, by_order, Item, port, parameter, wires, variables, assign, always, instances, Module, Source}
use Rattle.verilog_meaning.specs.Hierarchy.{all_parameters, value_names, Declaration, declarations, header_ports, module_named}
use Rattle.verilog_meaning.specs.Settled.{is_declared_among, port_order}

abbrev pub is_among : List Name → Name → Bool
is_among ns n = list_any (λ m. same_name m n) ns

-- ---- the names that stand in expressions, targets and statements, those in counts, indexes and bounds among them

abbrev mutual
  pub names_in : Expression → List Name
  names_in (number k) = []
  names_in (name n x) = n ∷ names_in_selects x
  names_in (concatenation es) = names_in_all es
  names_in (replication k es) = names_in k ++ names_in_all es
  names_in (as_signed x) = names_in x
  names_in (as_unsigned x) = names_in x
  names_in (unary op x) = names_in x
  names_in (reduction op x) = names_in x
  names_in (binary op x y) = names_in x ++ names_in y
  names_in (shift op x n) = names_in x ++ names_in n
  names_in (power x n) = names_in x ++ names_in n
  names_in (comparison op x y) = names_in x ++ names_in y
  names_in (logical op x y) = names_in x ++ names_in y
  names_in (conditional c x y) = names_in c ++ names_in x ++ names_in y

  pub names_in_all : Expressions → List Name
  names_in_all no_expressions = []
  names_in_all (expression e es) = names_in e ++ names_in_all es

  pub names_in_select : Select → List Name
  names_in_select (index i) = names_in i
  names_in_select (part h l) = names_in h ++ names_in l
  names_in_select (part_up b n) = names_in b ++ names_in n
  names_in_select (part_down b n) = names_in b ++ names_in n

  pub names_in_selects : Selects → List Name
  names_in_selects whole = []
  names_in_selects (one x) = names_in_select x
  names_in_selects (two x y) = names_in_select x ++ names_in_select y

abbrev mutual
  pub names_in_target : Target → List Name
  names_in_target (place n x) = n ∷ names_in_selects x
  names_in_target (joined ts) = names_in_targets ts

  pub names_in_targets : Targets → List Name
  names_in_targets no_targets = []
  names_in_targets (target t ts) = names_in_target t ++ names_in_targets ts

abbrev mutual
  pub names_in_statement : Statement → List Name
  names_in_statement empty = []
  names_in_statement (blocking t e) = names_in_target t ++ names_in e
  names_in_statement (nonblocking t e) = names_in_target t ++ names_in e
  names_in_statement (if_then c x) = names_in c ++ names_in_statement x
  names_in_statement (if_else c x y) = names_in c ++ names_in_statement x ++ names_in_statement y
  names_in_statement (case kind e items) = names_in e ++ names_in_items items
  names_in_statement (block n xs) = names_in_statements xs

  pub names_in_statements : Statements → List Name
  names_in_statements no_statements = []
  names_in_statements (statement x xs) = names_in_statement x ++ names_in_statements xs

  pub names_in_items : CaseItems → List Name
  names_in_items no_items = []
  names_in_items (arm es x items) = names_in_all es ++ names_in_statement x ++ names_in_items items
  names_in_items (default_arm x items) = names_in_statement x ++ names_in_items items

abbrev pub names_in_optional : Option Expression → List Name
names_in_optional None = []
names_in_optional (Some e) = names_in e

abbrev pub names_in_range : Option Range → List Name
names_in_range None = []
names_in_range (Some r) = names_in r.left ++ names_in r.right

abbrev pub names_in_named : List (Name × Option Expression) → List Name
names_in_named [] = []
names_in_named (c ∷ cs) = names_in_optional c.1 ++ names_in_named cs

abbrev pub names_in_ordered : List (Option Expression) → List Name
names_in_ordered [] = []
names_in_ordered (e ∷ es) = names_in_optional e ++ names_in_ordered es

-- what is connected: the names of the ports or parameters are none of this module
abbrev pub names_in_connections : Connections → List Name
names_in_connections (by_name cs) = names_in_named cs
names_in_connections (by_order es) = names_in_ordered es

abbrev pub names_in_events : Events → List Name
names_in_events any_change = []
names_in_events (on_events []) = []
names_in_events (on_events (e ∷ es)) = e.signal ∷ names_in_events (on_events es)

abbrev pub names_in_values : List (Name × Expression) → List Name
names_in_values [] = []
names_in_values (v ∷ vs) = names_in v.1 ++ names_in_values vs

abbrev pub names_in_parameters : List ParameterDeclaration → List Name
names_in_parameters [] = []
names_in_parameters (d ∷ ds) = names_in_range d.range ++ names_in_values d.values ++ names_in_parameters ds

abbrev pub names_in_ports : List PortDeclaration → List Name
names_in_ports [] = []
names_in_ports (d ∷ ds) = names_in_range d.range ++ names_in_ports ds

abbrev pub names_in_addresses : List (Name × Option Range) → List Name
names_in_addresses [] = []
names_in_addresses (v ∷ vs) = names_in_range v.1 ++ names_in_addresses vs

abbrev pub names_in_assignments : List (Target × Expression) → List Name
names_in_assignments [] = []
names_in_assignments (a ∷ rest) = names_in_target a.0 ++ names_in a.1 ++ names_in_assignments rest

abbrev pub names_in_instances : List (Name × Connections) → List Name
names_in_instances [] = []
names_in_instances (i ∷ is) = names_in_connections i.1 ++ names_in_instances is

-- ---- a module in the order of its text

-- a name is used, or a parameter is declared: from here on it may be used
pub data Mention : Type 0 where
  used : Name → Mention
  declares : Name → Mention

abbrev pub uses : List Name → List Mention
uses [] = []
uses (n ∷ ns) = used n ∷ uses ns

-- Each parameter of a declaration is declared after its own value.
abbrev pub value_mentions : List (Name × Expression) → List Mention
value_mentions [] = []
value_mentions (v ∷ vs) = uses (names_in v.1) ++ declares v.0 ∷ value_mentions vs

abbrev pub parameter_mentions : ParameterDeclaration → List Mention
parameter_mentions d = uses (names_in_range d.range) ++ value_mentions d.values

abbrev pub all_parameter_mentions : List ParameterDeclaration → List Mention
all_parameter_mentions [] = []
all_parameter_mentions (d ∷ ds) = parameter_mentions d ++ all_parameter_mentions ds

abbrev pub item_mentions : Item → List Mention
item_mentions (port d) = uses (names_in_range d.range)
item_mentions (parameter d) = parameter_mentions d
item_mentions (wires signed r ws) = uses (names_in_range r ++ names_in_named ws)
item_mentions (variables signed r vs) = uses (names_in_range r ++ names_in_addresses vs)
item_mentions (assign ts) = uses (names_in_assignments ts)
item_mentions (always es x) = uses (names_in_events es ++ names_in_statement x)
item_mentions (instances m given is) = uses (names_in_connections given ++ names_in_instances is)

abbrev pub all_item_mentions : List Item → List Mention
all_item_mentions [] = []
all_item_mentions (i ∷ items) = item_mentions i ++ all_item_mentions items

abbrev pub mentions : Module → List Mention
mentions m = all_parameter_mentions m.parameters ++ uses (names_in_ports (header_ports m.ports)) ++ all_item_mentions m.items

abbrev pub parameter_names : List ParameterDeclaration → List Name
parameter_names [] = []
parameter_names (d ∷ ds) = value_names d.values ++ parameter_names ds

-- A net or variable may be used before its declaration, a parameter may not.
abbrev pub may_be_used : Module → (before : List Name) → Name → Bool
may_be_used m before n =
    cond (is_among (parameter_names (all_parameters m)) n) (is_among before n) (is_declared_among (declarations m) n)

abbrev pub uses_unknown : Module → (before : List Name) → List Mention → Bool
uses_unknown m before [] = false
uses_unknown m before (used n ∷ rest) = not (may_be_used m before n) || uses_unknown m before rest
uses_unknown m before (declares n ∷ rest) = uses_unknown m (n ∷ before) rest

abbrev pub instantiates_unknown : Source → List Item → Bool
instantiates_unknown source [] = false
instantiates_unknown source (port d ∷ items) = instantiates_unknown source items
instantiates_unknown source (parameter d ∷ items) = instantiates_unknown source items
instantiates_unknown source (wires signed r ws ∷ items) = instantiates_unknown source items
instantiates_unknown source (variables signed r vs ∷ items) = instantiates_unknown source items
instantiates_unknown source (assign ts ∷ items) = instantiates_unknown source items
instantiates_unknown source (always es x ∷ items) = instantiates_unknown source items
instantiates_unknown source (instances m given is ∷ items) = is_none (module_named source m) || instantiates_unknown source items

-- Undeclared: a net, variable, parameter or module is not declared, or a parameter is used before its declaration.
abbrev pub has_undeclared : Source → Module → Bool
has_undeclared source m = uses_unknown m [] (mentions m) || instantiates_unknown source m.items

-- ---- names that are declared twice

abbrev pub count_of : Name → List Name → ℕ
count_of n [] = 0
count_of n (m ∷ ms) = cond (same_name m n) 1 0 + count_of n ms

abbrev pub instance_names : List (Name × Connections) → List Name
instance_names [] = []
instance_names (i ∷ is) = i.0 ∷ instance_names is

abbrev pub all_instance_names : List Item → List Name
all_instance_names [] = []
all_instance_names (port d ∷ items) = all_instance_names items
all_instance_names (parameter d ∷ items) = all_instance_names items
all_instance_names (wires signed r ws ∷ items) = all_instance_names items
all_instance_names (variables signed r vs ∷ items) = all_instance_names items
all_instance_names (assign ts ∷ items) = all_instance_names items
all_instance_names (always es x ∷ items) = all_instance_names items
all_instance_names (instances m given is ∷ items) = instance_names is ++ all_instance_names items

-- the names of the declarations of this kind
abbrev pub names_where : (Declaration → Bool) → List Declaration → List Name
names_where p [] = []
names_where p (d ∷ ds) = cond (p d) (d.of_name ∷ []) [] ++ names_where p ds

-- a direction without wire or reg; a wire or reg without a direction
abbrev pub is_bare_port : Declaration → Bool
is_bare_port d = is_some d.direction && is_none d.kind

abbrev pub is_net_alone : Declaration → Bool
is_net_alone d = is_none d.direction

-- all that a module declares, name by name
abbrev pub declared_names : Module → List Name
declared_names m =
    names_where (λ d. true) (declarations m) ++ parameter_names (all_parameters m) ++ all_instance_names m.items

-- A name is declared once, or as a port by its direction and by one wire or reg declaration besides.
abbrev pub is_once : Module → Name → Bool
is_once m n =
    nat_le (count_of n (declared_names m)) 1
    || ((count_of n (declared_names m) == 2)
    && (count_of n (names_where is_bare_port (declarations m)) == 1 && count_of n (names_where is_net_alone (declarations m)) == 1))

abbrev pub has_repeated : List Name → Bool
has_repeated ns = list_any (λ n. not (nat_le (count_of n ns) 1)) ns

-- DuplicateName: two declarations of a module share a name, or its list of ports has a name twice.
abbrev pub has_duplicate : Module → Bool
has_duplicate m = list_any (λ n. not (is_once m n)) (declared_names m) || has_repeated (port_order m)

abbrev pub module_names : Source → List Name
module_names [] = []
module_names (m ∷ ms) = m.module_name ∷ module_names ms

-- DuplicateName: two modules of the source share a name.
abbrev pub has_duplicate_module : Source → Bool
has_duplicate_module source = has_repeated (module_names source)
