use Rattle.std.proofs.Common.{◌≤◌}
use Rattle.ob_mem.specs.Rows.{IsRow, tree_in}
use Rattle.ob_mem.proofs.rows.put_row.Given as goal

abbrev pub invariant-loop-place : goal.invariant-loop-place
invariant-loop-place l = IsRow l.fn.terms l.terms (tree_in l.fn.terms l.row) l.place
