use Rattle.std.proofs.Common.{◌∙◌, ap, arith, map, ◌++◌}
use Rattle.v_ports.proofs.Names.{declared_turn}
use Rattle.v_elab.proofs.ports.add_declared.Goals as goal

pub loop-port-preserved : goal.loop-port-preserved
loop-port-preserved c =
    declared_turn c.args.ports.now c.loop-port.port-index c.port-item.result (map (λ n. n.now) c.loop-port.order.items) (map (λ n. n.now) c.add_names.new.order.items) _
    (omega arith) c.port-item.is
    (c.in_ok-add_names.ensures ∙ ap (λ xs. map (λ n. n.now) c.loop-port.order.items ++ map (λ n. n.now) xs) c.deref.ensures.value)
    c.loop-port.invariant
