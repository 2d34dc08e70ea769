-- What a module that stands by itself reads: its items, and whoever reads its outputs.
use Rattle.std.specs.Prelude.{cond, List, [], ◌∷◌, Option, Some, None}
use Rattle.wb_values.specs.Value.{Name}
use Rattle.verilog_trees.specs.Syntax.{Expression, name, whole, Target, Item, port, parameter, wires, variables, assign, always, instances}
use Rattle.verilog_meaning.specs.Expression.{Scope}
use Rattle.verilog_meaning.specs.Settled.{wire_assignments}
use Rattle.verilog_designs.specs.Reads.{BitSet, no_bits, or_in, reads}
use Rattle.verilog_designs.specs.Drivers.{statement_reads}
use Rattle.v_scopes.specs.declared.table.ModuleScope.{ModuleScope}
use Rattle.v_scopes.specs.Rows.{Row, rows_of}
use Rattle.v_undriven.specs.Names.{is_output_name}

-- the values of continuous assignments
abbrev pub links_read : Scope → List (Target × Expression) → BitSet
links_read s [] = no_bits
links_read s (a ∷ links) = or_in (reads s a.1) (links_read s links)

-- the value that a declaration gives a net
abbrev pub value_reads : Scope → Option Expression → BitSet
value_reads s None = no_bits
value_reads s (Some e) = reads s e

abbrev pub item_reads : Scope → Item → BitSet
item_reads s (port d) = no_bits
item_reads s (parameter d) = no_bits
item_reads s (wires signed r ws) = links_read s (wire_assignments ws)
item_reads s (variables signed r vs) = no_bits
item_reads s (assign links) = links_read s links
item_reads s (always es x) = statement_reads s x
item_reads s (instances m given is) = no_bits

abbrev pub all_items_read : Scope → List Item → BitSet
all_items_read s [] = no_bits
all_items_read s (i ∷ items) = or_in (item_reads s i) (all_items_read s items)

-- all bits of a name, where it is an output
abbrev pub output_reads : Scope → ModuleScope → Name → BitSet
output_reads s names n = cond (is_output_name names n) (reads s (name n whole)) no_bits

abbrev pub outputs_read : Scope → ModuleScope → List Row → BitSet
outputs_read s names [] = no_bits
outputs_read s names (r ∷ rows) = or_in (output_reads s names r.of_name) (outputs_read s names rows)

-- all that is read in the module, and its outputs
abbrev pub module_reads : Scope → ModuleScope → List Item → BitSet
module_reads s names items = or_in (all_items_read s items) (outputs_read s names (rows_of names.declared.items))
