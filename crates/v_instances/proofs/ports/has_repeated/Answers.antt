use Rattle.std.proofs.Common.{ap, arith, drop, map, ◌+◌}
use Rattle.verilog_designs.specs.Ports.{connected_names}
use Rattle.v_syntax.specs.Source.{optional_tree_of}
use Rattle.v_instances.proofs.Names.{item_drop}
use Rattle.v_instances.proofs.Repeats.{repeat_start, repeat_turn, was_absent}
use Rattle.v_instances.proofs.ports.has_repeated.Goals as goal

pub loop-connection-init : goal.loop-connection-init
loop-connection-init c = repeat_start c.new-seen.result (connected_names (map (λ x. (x.name.now, optional_tree_of x.value)) c.args.connections.now)) c.new-seen.ensures.empty

pub loop-connection-preserved : goal.loop-connection-preserved
loop-connection-preserved c =
    repeat_turn c.loop-connection.seen c.insert.new.self c.connection-item.result.name _ _
    (connected_names (map (λ x. (x.name.now, optional_tree_of x.value)) (drop (c.loop-connection.connection-index + 1) c.args.connections.now)))
    (ap connected_names (item_drop (λ x. (x.name.now, optional_tree_of x.value)) c.args.connections.now c.loop-connection.connection-index c.connection-item.result (omega arith) c.connection-item.is))
    c.in_ok-insert.ensures.updates (was_absent _ _ c.in_ok-insert.ensures.added c.if-not-branch.false) c.loop-connection.invariant
