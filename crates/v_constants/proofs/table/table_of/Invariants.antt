use Rattle.std.proofs.Common.{◌≡◌, ℕ, List, drop}
use Rattle.wb_values.specs.Choice.{first_of}
use Rattle.v_constants.specs.Given.{given_of, given_at}
use Rattle.v_constants.proofs.table.table_of.Given as goal

abbrev pub invariant-loop-each : goal.invariant-loop-each
invariant-loop-each l =
    (q : List ℕ) → first_of (given_at l.table q) (given_of (drop l.each-index l.given) q) ≡ given_of l.given q
