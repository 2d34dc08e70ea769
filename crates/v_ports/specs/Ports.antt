-- The rules on the ports of a module, but for those on connections, over what its declarations say.
use Rattle.std.specs.Prelude.{◌≡◌, Bool, false, ◌&&◌, ◌||◌, List, [], ◌∷◌, Option, Some, None, is_some}
use Rattle.wb_values.specs.Value.{Name}
use Rattle.verilog_trees.specs.Syntax.{Direction, Module}
use Rattle.verilog_meaning.specs.Expression.{Scope, scope_of}
use Rattle.verilog_meaning.specs.Hierarchy.{declarations}
use Rattle.verilog_designs.specs.Ports.{is_input, is_reg, lacks_direction, lacks_port, has_reg_input, has_unequal_ranges}
use Rattle.v_scopes.specs.declared.table.ModuleScope.{ModuleScope}
use Rattle.v_scopes.specs.Rows.{Row, rows, rows_of}

-- A port of the list has no direction, a direction no port, an input is a variable, or a port's declarations have unequal ranges.
abbrev pub ports_are_bad : Scope → Module → Bool
ports_are_bad s m = (lacks_direction m || lacks_port m) || (has_reg_input m || has_unequal_ranges s m)

-- The scope has the declarations of the module, where its parameters have the values of another scope.
abbrev pub IsScopeIn : Scope → ModuleScope → Module → Type 0
IsScopeIn s names m = rows_of names.declared.items ≡ rows s (declarations m)

-- The same of a module without parameters.
abbrev pub IsScopeOf : ModuleScope → Module → Type 0
IsScopeOf names m = IsScopeIn (scope_of []) names m

-- ---- rows

-- the direction in what is declared of a name
abbrev pub direction_in : Option Row → Option Direction
direction_in None = None
direction_in (Some r) = r.direction

-- an input that is a variable
abbrev pub is_reg_input_row : Option Row → Bool
is_reg_input_row None = false
is_reg_input_row (Some r) = is_input r.direction && is_reg r.kind

-- some row with a direction is of a name that is so
abbrev pub some_port_is : (Name → Bool) → List Row → Bool
some_port_is is_so [] = false
some_port_is is_so (r ∷ rs) = (is_some r.direction && is_so r.of_name) || some_port_is is_so rs
