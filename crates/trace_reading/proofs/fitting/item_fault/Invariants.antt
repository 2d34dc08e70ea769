use Rattle.std.proofs.Common.{◌≡◌, drop}
use Rattle.serde_json.specs.View.{items_view}
use Rattle.v_design.specs.Seen.{parts_of}
use Rattle.trace_reading.specs.Fitting.{cycles_fit}
use Rattle.trace_reading.proofs.fitting.item_fault.Given as goal

abbrev pub invariant-loop-cycle : goal.invariant-loop-cycle
invariant-loop-cycle l = cycles_fit (parts_of l.names.design.now) (items_view l.items) ≡ cycles_fit (parts_of l.names.design.now) (items_view (drop l.cycle l.items))
