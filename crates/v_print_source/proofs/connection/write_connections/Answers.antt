use Rattle.v_print.proofs.Written.{then, as_front}
use Rattle.v_print_source.proofs.Wholes.{by_name_arm, by_order_arm}
use Rattle.v_print_source.proofs.connection.write_connections.Goals as goal

pub returns-in_ok-close-in-ByName : goal.returns-in_ok-close-in-ByName
returns-in_ok-close-in-ByName c = as_front (by_name_arm c.args.connections.now c.in-ByName.list c.deref.result.now c.in-ByName.is c.deref.ensures.value) (then c.in_ok-write_all_named-in-ByName.ensures c.in_ok-close-in-ByName.ensures)

pub returns-in_ok-mark-in-ByOrder : goal.returns-in_ok-mark-in-ByOrder
returns-in_ok-mark-in-ByOrder c = as_front (by_order_arm c.args.connections.now c.in-ByOrder.list c.deref-in-ByOrder.result.now c.in-ByOrder.is c.deref-in-ByOrder.ensures.value) (then c.in_ok-write_entries-in-ByOrder.ensures c.in_ok-mark-in-ByOrder.ensures)
