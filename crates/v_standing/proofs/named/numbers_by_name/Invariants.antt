use Rattle.std.proofs.Common.{◌≡◌, ℕ, List, drop, map}
use Rattle.wb_values.specs.Choice.{first_of}
use Rattle.v_syntax.specs.Source.{module_of}
use Rattle.v_hier.specs.Tables.{under_name}
use Rattle.v_standing.specs.Standing.{number_named}
use Rattle.v_standing.proofs.named.numbers_by_name.Given as goal

abbrev pub invariant-loop-each : goal.invariant-loop-each
invariant-loop-each l =
    (l.number ≡ l.each-index)
    × ((q : List ℕ) → first_of (under_name l.table q) (number_named l.each-index (map module_of (drop l.each-index l.modules)) q) ≡ number_named 0 (map module_of l.modules) q)
