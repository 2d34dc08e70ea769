use Rattle.std.proofs.Common.{◌≡◌, ℕ, List, drop}
use Rattle.std.specs.Prelude.{◌||◌}
use Rattle.v_hier.specs.Tables.{has_name}
use Rattle.v_scopes.specs.Rows.{rows_of}
use Rattle.v_registers.specs.Placed.{is_variable_among}
use Rattle.v_registers.proofs.placed.variables_among.Given as goal

abbrev pub invariant-loop-each : goal.invariant-loop-each
invariant-loop-each l =
    (q : List ℕ) → is_variable_among (rows_of l.declared) q ≡ (has_name l.names q || is_variable_among (rows_of (drop l.each-index l.declared)) q)
