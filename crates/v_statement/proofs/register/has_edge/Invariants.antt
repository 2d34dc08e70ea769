use Rattle.std.proofs.Common.{◌≡◌, drop}
use Rattle.verilog_meaning.specs.Register.{has_edge}
use Rattle.v_statement.specs.Registers.{events_list}
use Rattle.v_statement.proofs.register.has_edge.Given as goal

abbrev pub invariant-loop-event : goal.invariant-loop-event
invariant-loop-event l = has_edge (events_list l.events) ≡ has_edge (events_list (drop l.event-index l.events))
