use Rattle.std.proofs.Common.{◌≡◌, map, take}
use Rattle.serde_json.specs.View.{view}
use Rattle.wb_terms.specs.Environment.{as_value}
use Rattle.v_design.specs.Seen.{parts_of}
use Rattle.trace_reading.specs.Given.{registers_given}
use Rattle.trace_reading.proofs.given.registers_given.Given as goal

abbrev pub invariant-loop-place : goal.invariant-loop-place
invariant-loop-place l = map as_value l.values.items ≡ take l.place (registers_given (parts_of l.design) (view l.file))
