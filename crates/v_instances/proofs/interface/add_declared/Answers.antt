use Rattle.std.proofs.Common.{◌∙◌, ap, arith, ◌++◌}
use Rattle.verilog_meaning.specs.Settled.{declared_ports, names_of}
use Rattle.v_syntax.specs.Source.{port_of}
use Rattle.v_instances.specs.Texts.{texts}
use Rattle.v_instances.proofs.Names.{order_turn, names_then}
use Rattle.v_instances.proofs.interface.add_declared.Goals as goal

pub loop-port-preserved : goal.loop-port-preserved
loop-port-preserved c =
    order_turn port_of (λ p. p.names) (λ ps. names_of (declared_ports ps)) (λ p ps. names_then p.direction p.names (declared_ports ps))
    c.args.ports.now c.loop-port.port-index c.port-item.result (texts c.loop-port.order.items) (texts c.add_names.new.order.items) _ (omega arith) c.port-item.is
    (c.in_ok-add_names.ensures ∙ ap (λ xs. texts c.loop-port.order.items ++ texts xs) c.deref.ensures.value)
    c.loop-port.invariant
