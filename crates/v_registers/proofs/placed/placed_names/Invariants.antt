use Rattle.std.proofs.Common.{◌≡◌, ◌++◌, map, drop}
use Rattle.v_hier.specs.Tables.{has_name}
use Rattle.v_scopes.specs.Rows.{rows_of}
use Rattle.v_registers.specs.Placed.{placed_names}
use Rattle.v_registers.proofs.placed.placed_names.Given as goal

abbrev pub invariant-loop-each : goal.invariant-loop-each
invariant-loop-each l =
    map (λ n. n.now) l.names.items ++ placed_names (has_name l.variables) (rows_of (drop l.each-index l.declared)) ≡ placed_names (has_name l.variables) (rows_of l.declared)
