use Rattle.std.proofs.Common.{◌≡◌, ◌+◌, ◌-◌, ◌≤◌, map}
use Rattle.sat_base.specs.Formula.{variable_value}
use Rattle.gate_words.specs.Binary.{number_of}
use Rattle.sat_gates.specs.Layout.{variables_from}
use Rattle.sat_gates.proofs.reading.read_number.Given as goal

abbrev pub invariant-loop-place : goal.invariant-loop-place
invariant-loop-place l = (l.place ≤ l.width) × (l.number ≡ number_of (map (variable_value l.assignment) (variables_from (l.first + l.place) (l.width - l.place))))

abbrev pub decreases-loop-place : goal.decreases-loop-place
decreases-loop-place l = l.place
