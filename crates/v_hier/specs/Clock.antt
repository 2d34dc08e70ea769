-- A test of all names that stand in a module otherwise than as events or in what is connected to ports, by the parts of its text.
use Rattle.std.specs.Prelude.{Bool, true, ◌&&◌, List, [], ◌∷◌, Option, Some, None}
use Rattle.wb_values.specs.Value.{Name}
use Rattle.verilog_trees.specs.Syntax as pure
use Rattle.verilog_meaning.specs.Hierarchy.{header_ports}
use Rattle.v_hier.specs.Reading.{expression_known, statement_known, range_known, addresses_known, assignments_known, connections_known, ports_known}

abbrev pub values_known : (Name → Bool) → List (Name × pure.Expression) → Bool
values_known known [] = true
values_known known (v ∷ vs) = expression_known known v.1 && values_known known vs

abbrev pub parameter_known : (Name → Bool) → pure.ParameterDeclaration → Bool
parameter_known known d = range_known known d.range && values_known known d.values

abbrev pub parameters_known : (Name → Bool) → List pure.ParameterDeclaration → Bool
parameters_known known [] = true
parameters_known known (d ∷ ds) = parameter_known known d && parameters_known known ds

-- a net that its declaration gives a value stands there as a target
abbrev pub wire_known : (Name → Bool) → Name → Option pure.Expression → Bool
wire_known known n None = true
wire_known known n (Some e) = known n && expression_known known e

abbrev pub wires_known : (Name → Bool) → List (Name × Option pure.Expression) → Bool
wires_known known [] = true
wires_known known (w ∷ ws) = wire_known known w.0 w.1 && wires_known known ws

abbrev pub item_names_known : (Name → Bool) → pure.Item → Bool
item_names_known known (pure.port d) = range_known known d.range
item_names_known known (pure.parameter d) = parameter_known known d
item_names_known known (pure.wires signed r ws) = range_known known r && wires_known known ws
item_names_known known (pure.variables signed r vs) = range_known known r && addresses_known known vs
item_names_known known (pure.assign ts) = assignments_known known ts
item_names_known known (pure.always es x) = statement_known known x
item_names_known known (pure.instances m given is) = connections_known known given

abbrev pub items_names_known : (Name → Bool) → List pure.Item → Bool
items_names_known known [] = true
items_names_known known (i ∷ items) = item_names_known known i && items_names_known known items

abbrev pub module_names_known : (Name → Bool) → pure.Module → Bool
module_names_known known m =
    parameters_known known m.parameters && (ports_known known (header_ports m.ports) && items_names_known known m.items)
