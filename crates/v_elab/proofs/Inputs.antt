-- The inputs of a module by what its scope says of its ports.
use Rattle.std.proofs.Common.{◌≡◌, ◌∙◌, refl, ap, not, ◌&&◌, Option, Some, None}
use Rattle.wb_values.specs.Value.{Name, same_name, entry_of}
use Rattle.verilog_trees.specs.Syntax.{Module}
use Rattle.verilog_meaning.specs.Expression.{Scope}
use Rattle.verilog_meaning.specs.Hierarchy.{declarations}
use Rattle.verilog_meaning.specs.Settled.{port_directions}
use Rattle.verilog_designs.specs.Ports.{is_input}
use Rattle.v_scopes.specs.declared.table.ModuleScope.{ModuleScope}
use Rattle.v_scopes.specs.Rows.{Row, rows, row_named}
use Rattle.v_scopes.specs.Scopes.{declared_in}
use Rattle.v_ports.specs.Ports.{direction_in, IsScopeIn}
use Rattle.v_ports.proofs.Directions.{direction_named}
use Rattle.v_elab.specs.Names.{is_input_row, is_data_input, is_data_port, after_front, tested_after, is_given_input, is_given_port}

input_row : (o : Option Row) → is_input_row o ≡ is_input (direction_in o)
input_row None = refl
input_row (Some r) = refl

-- A module's scope, with whatever values of its parameters, says of its ports what the module does.
pub same_inputs : (s : Scope) (names : ModuleScope) (m : Module) (clock : Name) → IsScopeIn s names m → is_data_input names clock ≡ is_data_port m clock
same_inputs s names m clock e = λ i n. not (same_name clock n) && at n i
  where
    at : (n : Name) → is_input_row (declared_in names n) ≡ is_input (entry_of (port_directions m) n)
    at n =
        ap (λ rs. is_input_row (row_named rs n)) e
        ∙ input_row (row_named (rows s (declarations m)) n)
        ∙ ap is_input (direction_named s n m)

-- the same of names of the top in the one scope
pub same_given : (s : Scope) (names : ModuleScope) (m : Module) (clock front : Name) → IsScopeIn s names m → is_given_input names clock front ≡ is_given_port m clock front
same_given s names m clock front e = λ i n. tested_after (same_inputs s names m clock e i) (after_front front n)
