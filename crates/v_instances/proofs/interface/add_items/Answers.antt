use Rattle.std.proofs.Common.{arith}
use Rattle.verilog_meaning.specs.Settled.{item_ports}
use Rattle.v_syntax.specs.Source.{item_of}
use Rattle.v_instances.specs.Interface.{direction_in, own_ports}
use Rattle.v_instances.proofs.Names.{table_turn, items_then}
use Rattle.v_instances.proofs.interface.add_items.Goals as goal

pub loop-item-preserved : goal.loop-item-preserved
loop-item-preserved c = λ q.
    table_turn item_of own_ports item_ports items_then c.args.items.now c.loop-item.item-index c.item-item.result q
    (direction_in c.loop-item.directions q) (direction_in c.add_item.new.directions q) _ (omega arith) c.item-item.is
    (c.in_ok-add_item.ensures q) (c.loop-item.invariant q)
