-- What gives values in a module, as one list in the order of the text: continuous assignments, connections of ports, and blocks,
-- 1364-2005, 6.1, 9.9 and 12.3.9.
use Rattle.std.specs.Prelude.{◌≡◌, cond, List, [], ◌∷◌, ◌++◌, Option, Some, None}
use Rattle.wb_values.specs.Value.{Name, same_name}
use Rattle.verilog_trees.specs.Syntax.{Expression, Target, Statement, Events, Connections, Item, port, parameter, wires, variables, assign, always, instances}
use Rattle.verilog_meaning.specs.Register.{is_clocked, clocked_blocks, combinational_blocks}
use Rattle.verilog_meaning.specs.Hierarchy.{Instance, instance_named}
use Rattle.verilog_meaning.specs.Settled.{wire_assignments, assignments, Connection, instance_connections, port_connections}

-- A continuous assignment of one target; what is connected to one port of an instance; an instance by its name, where the
-- processes of its own module stand; the statement of a clocked block; that of a combinational one.
pub data Process : Type 0 where
  assignment : Target → Expression → Process
  connection : Connection → Process
  inner : Name → Instance → Process
  clocked combinational : Statement → Process

abbrev pub each_assignment : List (Target × Expression) → List Process
each_assignment [] = []
each_assignment (a ∷ rest) = assignment a.0 a.1 ∷ each_assignment rest

abbrev pub each_connection : List Connection → List Process
each_connection [] = []
each_connection (c ∷ cs) = connection c ∷ each_connection cs

-- Instances of a module with these parameters: of each what is connected to its ports, and then what is inside it.
abbrev pub each_instance : Name → Connections → List (Name × Connections) → List Process
each_instance m given [] = []
each_instance m given (i ∷ is) =
    each_connection (instance_connections i.0 i.1)
    ++ inner i.0 (record { of_module = m; parameters = given; connections = i.1 }) ∷ each_instance m given is

abbrev pub block_process : Events → Statement → Process
block_process es x = cond (is_clocked es) (clocked x) (combinational x)

-- A declaration of wires gives their assignments, and an item with several assignments or instances gives each by itself.
abbrev pub processes : List Item → List Process
processes [] = []
processes (port d ∷ items) = processes items
processes (parameter d ∷ items) = processes items
processes (wires signed r ws ∷ items) = each_assignment (wire_assignments ws) ++ processes items
processes (variables signed r vs ∷ items) = processes items
processes (assign ts ∷ items) = each_assignment ts ++ processes items
processes (always es x ∷ items) = block_process es x ∷ processes items
processes (instances m given is ∷ items) = each_instance m given is ++ processes items

-- the parts of such a list, each in the list's order

abbrev pub assignments_in : List Process → List (Target × Expression)
assignments_in [] = []
assignments_in (assignment t e ∷ ps) = (t, e) ∷ assignments_in ps
assignments_in (connection c ∷ ps) = assignments_in ps
assignments_in (inner u i ∷ ps) = assignments_in ps
assignments_in (clocked x ∷ ps) = assignments_in ps
assignments_in (combinational x ∷ ps) = assignments_in ps

abbrev pub connections_in : List Process → List Connection
connections_in [] = []
connections_in (assignment t e ∷ ps) = connections_in ps
connections_in (connection c ∷ ps) = c ∷ connections_in ps
connections_in (inner u i ∷ ps) = connections_in ps
connections_in (clocked x ∷ ps) = connections_in ps
connections_in (combinational x ∷ ps) = connections_in ps

-- the first instance of this name
abbrev pub instance_in : List Process → Name → Option Instance
instance_in [] n = None
instance_in (assignment t e ∷ ps) n = instance_in ps n
instance_in (connection c ∷ ps) n = instance_in ps n
instance_in (inner u i ∷ ps) n = cond (same_name u n) (Some i) (instance_in ps n)
instance_in (clocked x ∷ ps) n = instance_in ps n
instance_in (combinational x ∷ ps) n = instance_in ps n

abbrev pub clocked_in : List Process → List Statement
clocked_in [] = []
clocked_in (assignment t e ∷ ps) = clocked_in ps
clocked_in (connection c ∷ ps) = clocked_in ps
clocked_in (inner u i ∷ ps) = clocked_in ps
clocked_in (clocked x ∷ ps) = x ∷ clocked_in ps
clocked_in (combinational x ∷ ps) = clocked_in ps

abbrev pub combinational_in : List Process → List Statement
combinational_in [] = []
combinational_in (assignment t e ∷ ps) = combinational_in ps
combinational_in (connection c ∷ ps) = combinational_in ps
combinational_in (inner u i ∷ ps) = combinational_in ps
combinational_in (clocked x ∷ ps) = combinational_in ps
combinational_in (combinational x ∷ ps) = x ∷ combinational_in ps

-- The assignments, port connections and blocks of a module are the parts of its processes, and each name has the same instance in both.
pub record ArePartsOfProcesses (items : List Item) : Type 0 where
  pub assigned : assignments items ≡ assignments_in (processes items)
  pub connected : port_connections items ≡ connections_in (processes items)
  pub placed : (u : Name) → instance_named items u ≡ instance_in (processes items) u
  pub clocked : clocked_blocks items ≡ clocked_in (processes items)
  pub combinational : combinational_blocks items ≡ combinational_in (processes items)
