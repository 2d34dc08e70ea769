use Rattle.std.proofs.Common.{◌≡◌, take}
use Rattle.serde_json.specs.View.{view}
use Rattle.v_design.specs.Seen.{parts_of}
use Rattle.trace_reading.specs.Given.{inputs_given}
use Rattle.trace_reading.proofs.given.inputs_given.Given as goal

abbrev pub invariant-loop-place : goal.invariant-loop-place
invariant-loop-place l = l.numbers.items ≡ take l.place (inputs_given (parts_of l.design) (view l.cycle))
