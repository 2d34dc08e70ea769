-- Which names of a scope need a driver, and which are read from outside.
use Rattle.std.specs.Prelude.{Bool, true, false, not, ◌&&◌, Option, Some, None}
use Rattle.wb_values.specs.Value.{Name, same_name}
use Rattle.verilog_trees.specs.Syntax.{Direction, input, output}
use Rattle.verilog_meaning.specs.Expression.{Scope}
use Rattle.v_scopes.specs.declared.table.ModuleScope.{ModuleScope}
use Rattle.v_scopes.specs.Rows.{Row}
use Rattle.v_scopes.specs.Scopes.{declared_in}
use Rattle.v_assigned.specs.Names.{is_input_row}

abbrev pub is_output : Option Direction → Bool
is_output None = false
is_output (Some input) = false
is_output (Some output) = true

abbrev pub is_output_row : Option Row → Bool
is_output_row None = false
is_output_row (Some r) = is_output r.direction

-- The name is declared, and something within is to drive it: it is neither the clock nor an input port. Where the scope is that of a
-- whole design, the table has the names of its top.
abbrev pub needs_driver : Scope → ModuleScope → (clock : Name) → Name → Bool
needs_driver s names clock n = (s n).is_declared && (not (same_name clock n) && not (is_input_row (declared_in names n)))

abbrev pub is_output_name : ModuleScope → Name → Bool
is_output_name names n = is_output_row (declared_in names n)
