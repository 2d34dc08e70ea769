use Rattle.std.proofs.Common.{◌≡◌, drop}
use Rattle.serde_json.specs.View.{items_view}
use Rattle.v_design.specs.Seen.{parts_of}
use Rattle.trace_reading.specs.Fitting.{are_cycles_given}
use Rattle.trace_reading.proofs.missing.missing_in_cycles.Given as goal

abbrev pub invariant-loop-cycle : goal.invariant-loop-cycle
invariant-loop-cycle l = are_cycles_given (parts_of l.design) (items_view l.items) ≡ are_cycles_given (parts_of l.design) (items_view (drop l.cycle l.items))
