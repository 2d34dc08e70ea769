use Rattle.v_print.proofs.Written.{then, as_front}
use Rattle.v_print_source.proofs.Wholes.{rising_arm, falling_arm, any_edge_arm}
use Rattle.v_print_source.proofs.item.write_event.Goals as goal

pub returns-in_ok-word-in-Posedge-2 : goal.returns-in_ok-word-in-Posedge-2
returns-in_ok-word-in-Posedge-2 c = as_front (rising_arm c.args.event.now c.in-Posedge.is) (then c.in_ok-word-in-Posedge.ensures c.in_ok-word-in-Posedge-2.ensures)

pub returns-in_ok-word-in-Negedge-2 : goal.returns-in_ok-word-in-Negedge-2
returns-in_ok-word-in-Negedge-2 c = as_front (falling_arm c.args.event.now c.in-Negedge.is) (then c.in_ok-word-in-Negedge.ensures c.in_ok-word-in-Negedge-2.ensures)

pub returns-in_ok-word-in-AnyEdge : goal.returns-in_ok-word-in-AnyEdge
returns-in_ok-word-in-AnyEdge c = as_front (any_edge_arm c.args.event.now c.in-AnyEdge.is) c.in_ok-word-in-AnyEdge.ensures
