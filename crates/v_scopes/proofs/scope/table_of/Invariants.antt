use Rattle.std.proofs.Common.{◌≡◌, ℕ, List, drop}
use Rattle.v_scopes.specs.Rows.{rows_of, row_named, joined_rows}
use Rattle.v_scopes.specs.Tables.{row_at}
use Rattle.v_scopes.proofs.scope.table_of.Given as goal

abbrev pub invariant-loop-each : goal.invariant-loop-each
invariant-loop-each l =
    (q : List ℕ) → joined_rows (row_at l.table q) (row_named (rows_of (drop l.each-index l.declared)) q) ≡ row_named (rows_of l.declared) q
