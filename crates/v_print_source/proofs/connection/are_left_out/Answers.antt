use Rattle.v_print_source.proofs.Wholes.{named_kept, entries_left_out}
use Rattle.v_print_source.proofs.connection.are_left_out.Goals as goal

pub returns-in-ByName : goal.returns-in-ByName
returns-in-ByName c = named_kept c.args.connections.now c.in-ByName.field-0 c.in-ByName.is

pub returns-in-ByOrder : goal.returns-in-ByOrder
returns-in-ByOrder c = entries_left_out c.args.connections.now c.in-ByOrder.list c.deref.result.now c.is_nil.result c.in-ByOrder.is c.deref.ensures.value c.is_nil.ensures
