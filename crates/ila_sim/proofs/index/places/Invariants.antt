use Rattle.std.proofs.Common.{◌≡◌, ℕ, List, map, drop}
use Rattle.wb_values.specs.Choice.{first_of}
use Rattle.ila_sim.specs.Names.{settable_of}
use Rattle.ila_sim.specs.Places.{under_name, place_from}
use Rattle.ila_sim.proofs.index.places.Given as goal

abbrev pub invariant-loop-place : goal.invariant-loop-place
invariant-loop-place l = (q : List ℕ) → first_of (under_name l.table q) (place_from l.place (map settable_of (drop l.place l.settables)) q) ≡ place_from 0 (map settable_of l.settables) q
