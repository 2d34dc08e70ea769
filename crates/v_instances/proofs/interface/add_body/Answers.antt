use Rattle.std.proofs.Common.{arith}
use Rattle.verilog_meaning.specs.Hierarchy.{body_parameters, overridable}
use Rattle.v_syntax.specs.Source.{item_of}
use Rattle.v_instances.specs.Texts.{texts}
use Rattle.v_instances.specs.Interface.{item_parameters}
use Rattle.v_instances.proofs.Names.{order_turn, body_then}
use Rattle.v_instances.proofs.interface.add_body.Goals as goal

pub loop-item-preserved : goal.loop-item-preserved
loop-item-preserved c =
    order_turn item_of item_parameters (λ items. overridable (body_parameters items)) body_then
    c.args.items.now c.loop-item.item-index c.item-item.result (texts c.loop-item.order.items) (texts c.add_of_item.new.order.items) _ (omega arith) c.item-item.is
    c.in_ok-add_of_item.ensures c.loop-item.invariant
