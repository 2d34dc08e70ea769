use Rattle.std.proofs.Common.{◌≡◌, ◌+◌, drop}
use Rattle.verilog_meaning.specs.Statement.{places_width}
use Rattle.v_statement.specs.Places.{places_of}
use Rattle.v_statement.proofs.target.places_width.Given as goal

abbrev pub invariant-loop-place : goal.invariant-loop-place
invariant-loop-place l = places_width (places_of l.places) ≡ l.width + places_width (places_of (drop l.place-index l.places))
