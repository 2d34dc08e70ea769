use Rattle.std.proofs.Common.{◌∙◌, ◌++◌, refl, ap, map, arith}
use Rattle.verilog_meaning.specs.Settled.{port_named, named_connections}
use Rattle.v_syntax.specs.Source.{direction_of, optional_tree_of}
use Rattle.v_renamed.specs.NewNames.{new_name}
use Rattle.v_flat.specs.Links.{entry_link, connection_links}
use Rattle.v_flat.specs.Views.{assignments_of}
use Rattle.v_flat.proofs.Loops.{turn, end}
use Rattle.v_flat.proofs.Connected.{named_more}
use Rattle.v_flat.proofs.connection.add_all_named.Goals as goal

pub loop-connection-preserved : goal.loop-connection-preserved
loop-connection-preserved c = λ m u i.
    turn (λ z. entry_link (direction_of c.args.way) (new_name c.args.names.now) (new_name c.args.below.now) m (port_named z.name.now) (optional_tree_of z.value))
    (λ zs. connection_links (direction_of c.args.way) (new_name c.args.names.now) (new_name c.args.below.now) m (named_connections u (map (λ z. (z.name.now, optional_tree_of z.value)) zs)))
    (named_more (new_name c.args.names.now) (new_name c.args.below.now) (direction_of c.args.way) m u) c.args.connections.now c.loop-connection.connection-index _ _ (assignments_of c.loop-connection.list.items)
    (assignments_of c.add_named.new.list.items) (omega arith) (c.loop-connection.invariant m u i)
    (c.in_ok-add_named.ensures m i
    ∙ ap (λ z. assignments_of c.loop-connection.list.items ++ entry_link (direction_of c.args.way) (new_name c.args.names.now) (new_name c.args.below.now) m (port_named z.name.now) (optional_tree_of z.value)) c.connection-item.is)

pub returns : goal.returns
returns c = λ m u i.
    end (λ z. entry_link (direction_of c.args.way) (new_name c.args.names.now) (new_name c.args.below.now) m (port_named z.name.now) (optional_tree_of z.value))
    (λ zs. connection_links (direction_of c.args.way) (new_name c.args.names.now) (new_name c.args.below.now) m (named_connections u (map (λ z. (z.name.now, optional_tree_of z.value)) zs)))
    (named_more (new_name c.args.names.now) (new_name c.args.below.now) (direction_of c.args.way) m u) refl c.args.connections.now c.loop-connection.connection-index _ (assignments_of c.loop-connection.list.items)
    (omega (arith, c.loop-connection-test.false)) (c.loop-connection.invariant m u i)
