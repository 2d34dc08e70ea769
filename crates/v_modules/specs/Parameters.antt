-- The names of the parameters that an item declares.
use Rattle.std.specs.Prelude.{List, []}
use Rattle.wb_values.specs.Value.{Name}
use Rattle.verilog_trees.specs.Syntax.{Item, port, parameter, wires, variables, assign, always, instances}
use Rattle.verilog_meaning.specs.Hierarchy.{value_names}

abbrev pub own_names : Item → List Name
own_names (port d) = []
own_names (parameter d) = value_names d.values
own_names (wires signed r ws) = []
own_names (variables signed r vs) = []
own_names (assign ts) = []
own_names (always es x) = []
own_names (instances m given is) = []
