use Rattle.std.proofs.Common.{◌≡◌}
use Rattle.serde_json.specs.View.{members_view}
use Rattle.v_design.specs.Seen.{parts_of}
use Rattle.trace_reading.specs.Fitting.{inputs_fit}
use Rattle.trace_reading.proofs.fitting.inputs_fault.Given as goal

abbrev pub invariant-loop-name : goal.invariant-loop-name
invariant-loop-name l =
    inputs_fit (parts_of l.names.design.now) (members_view l.initial.name-iterator) ≡ inputs_fit (parts_of l.names.design.now) (members_view l.name-iterator)
