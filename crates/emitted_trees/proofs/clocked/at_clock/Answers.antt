use Rattle.std.proofs.Common.{ap, map}
use Rattle.verilog_trees.specs.Syntax.{on_events}
use Rattle.v_syntax.specs.Source.{edge_of}
use Rattle.emitted_names.proofs.Turns.{one_pushed}
use Rattle.emitted_trees.proofs.clocked.at_clock.Goals as goal

pub returns : goal.returns
returns c = ap (λ es. on_events (map (λ e. record { edge = edge_of e.edge; signal = e.signal.now }) es)) (one_pushed _ _ _ c.new-events.ensures.items c.in_ok-push.ensures.items)
