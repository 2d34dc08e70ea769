use Rattle.std.proofs.Common.{◌≡◌, drop}
use Rattle.trace_reading.specs.Reading.{obligation_place}
use Rattle.trace_reading.proofs.reading.obligation_place.Given as goal

abbrev pub invariant-loop-place : goal.invariant-loop-place
invariant-loop-place l = obligation_place 0 l.obligations l.name ≡ obligation_place l.place (drop l.place l.obligations) l.name
