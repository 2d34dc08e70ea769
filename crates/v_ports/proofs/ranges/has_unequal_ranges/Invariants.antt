use Rattle.std.proofs.Common.{drop}
use Rattle.v_scopes.specs.Rows.{rows_of}
use Rattle.v_ports.specs.Ranges.{first_in}
use Rattle.v_ports.proofs.Differing.{IsMetSoFar}
use Rattle.v_ports.proofs.ranges.has_unequal_ranges.Given as goal

abbrev pub invariant-loop-row : goal.invariant-loop-row
invariant-loop-row l = IsMetSoFar (rows_of l.declared) (first_in l.first) (rows_of (drop l.row-index l.declared))
