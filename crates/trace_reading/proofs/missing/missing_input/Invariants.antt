use Rattle.std.proofs.Common.{◌≡◌, true}
use Rattle.serde_json.specs.View.{view}
use Rattle.v_design.specs.Seen.{parts_of}
use Rattle.trace_reading.specs.Fitting.{each_below, is_input_given}
use Rattle.trace_reading.proofs.missing.missing_input.Given as goal

abbrev pub invariant-loop-place : goal.invariant-loop-place
invariant-loop-place l = each_below (is_input_given (parts_of l.design) (view l.cycle)) l.place ≡ true
