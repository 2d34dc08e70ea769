use Rattle.std.proofs.Common.{◌≡◌, ℕ, List, drop}
use Rattle.wb_values.specs.Choice.{first_of}
use Rattle.v_places.specs.Views.{number_in}
use Rattle.v_places.proofs.Named.{number_named}
use Rattle.v_places.proofs.modules.numbers_of.Given as goal

abbrev pub invariant-loop-each : goal.invariant-loop-each
invariant-loop-each l =
    (l.number ≡ l.each-index) × ((q : List ℕ) → first_of (number_in l.table q) (number_named l.each-index (drop l.each-index l.modules) q) ≡ number_named 0 l.modules q)
