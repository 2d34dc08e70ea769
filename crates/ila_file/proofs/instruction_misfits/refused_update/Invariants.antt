use Rattle.std.proofs.Common.{◌≡◌}
use Rattle.serde_json.specs.View.{members_view}
use Rattle.ila_file.specs.ShapeSpots.{bad_update}
use Rattle.ila_file.proofs.instruction_misfits.refused_update.Given as goal

abbrev pub invariant-loop-state : goal.invariant-loop-state
invariant-loop-state l = bad_update (members_view l.initial.state-iterator) ≡ bad_update (members_view l.state-iterator)
