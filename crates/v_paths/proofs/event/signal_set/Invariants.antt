use Rattle.std.proofs.Common.{◌≡◌, ℕ, List, drop}
use Rattle.std.specs.Prelude.{◌||◌}
use Rattle.verilog_designs.specs.Names.{is_among}
use Rattle.verilog_designs.specs.Paths.{signals}
use Rattle.v_statement.specs.Registers.{events_list}
use Rattle.v_hier.specs.Tables.{has_name}
use Rattle.v_paths.proofs.event.signal_set.Given as goal

abbrev pub invariant-loop-event : goal.invariant-loop-event
invariant-loop-event l =
    (q : List ℕ) → (has_name l.names q || is_among (signals (events_list (drop l.event-index l.events))) q) ≡ is_among (signals (events_list l.events)) q
