-- The outputs of a module in the order of its ports.
use Rattle.std.specs.Prelude.{cond, List, [], ◌∷◌}
use Rattle.wb_values.specs.Value.{Name, Entries, entry_of}
use Rattle.verilog_trees.specs.Syntax.{Direction, Module}
use Rattle.verilog_meaning.specs.Settled.{port_order, port_directions}
pub use Rattle.verilog_designs.specs.Ports.{is_output}

-- those of the names that are outputs, in their order
abbrev pub outputs_among : Entries Direction → List Name → List Name
outputs_among ds [] = []
outputs_among ds (n ∷ ns) = cond (is_output (entry_of ds n)) (n ∷ outputs_among ds ns) (outputs_among ds ns)

abbrev pub outputs_of : Module → List Name
outputs_of m = outputs_among (port_directions m) (port_order m)
