-- Which names may not be assigned, by what a module declares of them.
use Rattle.std.specs.Prelude.{◌≡◌, Bool, true, false, not, ◌||◌, Option, Some, None, is_some}
use Rattle.wb_values.specs.Value.{Name, Entries}
use Rattle.verilog_trees.specs.Syntax.{Module}
use Rattle.verilog_meaning.specs.Expression.{Object, Scope, scope_of}
use Rattle.verilog_meaning.specs.Hierarchy.{declarations}
use Rattle.verilog_designs.specs.Ports.{is_input, is_reg}
use Rattle.v_scopes.specs.declared.table.ModuleScope.{ModuleScope}
use Rattle.v_scopes.specs.Rows.{Row, rows, rows_of}
use Rattle.v_scopes.specs.Scopes.{declared_in}

abbrev pub is_variable_row : Option Row → Bool
is_variable_row None = false
is_variable_row (Some r) = is_reg r.kind

abbrev pub is_input_row : Option Row → Bool
is_input_row None = false
is_input_row (Some r) = is_input r.direction

-- A block assigns variables alone, a continuous assignment none. An input port is assigned by nothing.
abbrev pub may_not : (in_block : Bool) → Option Row → Bool
may_not true r = not (is_variable_row r) || is_input_row r
may_not false r = is_variable_row r || is_input_row r

-- The name may not be assigned there. A parameter is assigned by nothing either.
abbrev pub is_wrong : ModuleScope → Scope → (in_block : Bool) → Name → Bool
is_wrong names s b n = may_not b (declared_in names n) || is_some (s n).constant

-- The table has the declarations of the module. With which values of the parameters their ranges were read does not matter here.
abbrev pub HasNamesOf : ModuleScope → Module → Type 0
HasNamesOf names m = (known : Entries Object) × (rows_of names.declared.items ≡ rows (scope_of known) (declarations m))
