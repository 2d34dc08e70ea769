use Rattle.std.proofs.Common.{◌≡◌}
use Rattle.serde_json.specs.View.{members_view}
use Rattle.v_design.specs.Seen.{parts_of}
use Rattle.trace_reading.specs.Fitting.{registers_fit}
use Rattle.trace_reading.proofs.fitting.member_fault.Given as goal

abbrev pub invariant-loop-name : goal.invariant-loop-name
invariant-loop-name l =
    registers_fit (parts_of l.names.design.now) (members_view l.initial.name-iterator) ≡ registers_fit (parts_of l.names.design.now) (members_view l.name-iterator)
