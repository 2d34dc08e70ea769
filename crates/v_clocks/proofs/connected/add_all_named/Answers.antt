use Rattle.std.proofs.Common.{◌∙◌, ◌++◌, refl, ap, map, arith}
use Rattle.verilog_meaning.specs.Settled.{port_named, named_connections}
use Rattle.v_syntax.specs.Source.{optional_tree_of}
use Rattle.v_hier.specs.Tables.{has_name}
use Rattle.v_clocks.specs.Uses.{use_if_any, uses_of}
use Rattle.v_clocks.specs.Views.{uses_in}
use Rattle.v_clocks.proofs.Turns.{turn, end}
use Rattle.v_clocks.proofs.Walks.{named_more}
use Rattle.v_clocks.proofs.connected.add_all_named.Goals as goal

pub loop-connection-preserved : goal.loop-connection-preserved
loop-connection-preserved c = λ m u i.
    turn (λ z. use_if_any (has_name c.args.clocks.now) m (port_named z.name.now) (optional_tree_of z.value))
    (λ zs. uses_of (has_name c.args.clocks.now) m (named_connections u (map (λ z. (z.name.now, optional_tree_of z.value)) zs)))
    (named_more (has_name c.args.clocks.now) m u) c.args.connections.now c.loop-connection.connection-index _ _ (uses_in c.loop-connection.list.items)
    (uses_in c.add_named.new.list.items) (omega arith) (c.loop-connection.invariant m u i)
    (c.in_ok-add_named.ensures m i
    ∙ ap (λ z. uses_in c.loop-connection.list.items ++ use_if_any (has_name c.args.clocks.now) m (port_named z.name.now) (optional_tree_of z.value)) c.connection-item.is)

pub returns : goal.returns
returns c = λ m u i.
    end (λ z. use_if_any (has_name c.args.clocks.now) m (port_named z.name.now) (optional_tree_of z.value))
    (λ zs. uses_of (has_name c.args.clocks.now) m (named_connections u (map (λ z. (z.name.now, optional_tree_of z.value)) zs)))
    (named_more (has_name c.args.clocks.now) m u) refl c.args.connections.now c.loop-connection.connection-index _ (uses_in c.loop-connection.list.items)
    (omega (arith, c.loop-connection-test.false)) (c.loop-connection.invariant m u i)
