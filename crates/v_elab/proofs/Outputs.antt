-- The outputs of a module by what its scope says of its ports.
use Rattle.std.proofs.Common.{◌≡◌, ◌∙◌, refl, ap, cond, List, [], ◌∷◌, Option, Some, None}
use Rattle.wb_values.specs.Value.{Name, Entries, entry_of}
use Rattle.verilog_trees.specs.Syntax.{Direction, Module}
use Rattle.verilog_meaning.specs.Expression.{Scope}
use Rattle.verilog_meaning.specs.Hierarchy.{declarations}
use Rattle.verilog_meaning.specs.Settled.{port_directions}
use Rattle.verilog_registers.specs.Outputs.{is_output, outputs_among}
use Rattle.v_scopes.specs.declared.table.ModuleScope.{ModuleScope}
use Rattle.v_scopes.specs.Rows.{Row, rows, row_named}
use Rattle.v_ports.specs.Ports.{direction_in, IsScopeIn}
use Rattle.v_ports.proofs.Directions.{direction_named}
use Rattle.v_elab.specs.Names.{is_output_row, is_output_of, chosen}

output_row : (o : Option Row) → is_output_row o ≡ is_output (direction_in o)
output_row None = refl
output_row (Some r) = refl

same_outputs : (s : Scope) (names : ModuleScope) (m : Module) → IsScopeIn s names m → is_output_of names ≡ (λ n. is_output (entry_of (port_directions m) n))
same_outputs s names m e = λ i n. at n i
  where
    at : (n : Name) → is_output_of names n ≡ is_output (entry_of (port_directions m) n)
    at n =
        ap (λ rs. is_output_row (row_named rs n)) e
        ∙ output_row (row_named (rows s (declarations m)) n)
        ∙ ap is_output (direction_named s n m)

chosen_outputs : (ds : Entries Direction) (ns : List Name) → chosen (λ n. is_output (entry_of ds n)) ns ≡ outputs_among ds ns
chosen_outputs ds [] = refl
chosen_outputs ds (n ∷ ns) = ap (λ ms. cond (is_output (entry_of ds n)) (n ∷ ms) ms) (chosen_outputs ds ns)

pub outputs_are : (s : Scope) (names : ModuleScope) (m : Module) (ns : List Name) → IsScopeIn s names m → chosen (is_output_of names) ns ≡ outputs_among (port_directions m) ns
outputs_are s names m ns e = ap (λ f. chosen f ns) (same_outputs s names m e) ∙ chosen_outputs (port_directions m) ns
