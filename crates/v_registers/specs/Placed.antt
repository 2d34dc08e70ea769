-- Names in the order of the text. A port that is declared as a variable besides stands where that declaration does.
use Rattle.std.specs.Prelude.{Bool, false, cond, ◌&&◌, ◌||◌, List, [], ◌∷◌, is_some, is_none}
use Rattle.wb_values.specs.Value.{Name, same_name}
use Rattle.verilog_designs.specs.Ports.{is_reg}
use Rattle.v_scopes.specs.Rows.{Row}
use Rattle.v_registers.specs.Once.{each_once}

-- a variable, other than by its port's declaration
abbrev pub declares_variable : Row → Bool
declares_variable r = is_none r.direction && is_reg r.kind

abbrev pub is_variable_among : List Row → Name → Bool
is_variable_among [] n = false
is_variable_among (r ∷ rs) n = (same_name r.of_name n && declares_variable r) || is_variable_among rs n

-- the declaration of a port that is a variable besides
abbrev pub is_passed_over : (is_variable : Name → Bool) → Row → Bool
is_passed_over f r = is_some r.direction && f r.of_name

abbrev pub placed_names : (is_variable : Name → Bool) → List Row → List Name
placed_names f [] = []
placed_names f (r ∷ rs) = cond (is_passed_over f r) (placed_names f rs) (r.of_name ∷ placed_names f rs)

abbrev pub names_in_order : List Row → List Name
names_in_order rs = each_once (placed_names (is_variable_among rs) rs)
