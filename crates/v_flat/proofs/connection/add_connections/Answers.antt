use Rattle.std.proofs.Common.{◌∙◌, ◌++◌, ap, sym, map}
use Rattle.verilog_meaning.specs.Settled.{ordered_connections, instance_connections}
use Rattle.v_syntax.specs.Source.{direction_of, optional_tree_of, connections_of}
use Rattle.v_renamed.specs.NewNames.{new_name}
use Rattle.v_flat.specs.Links.{connection_links}
use Rattle.v_flat.specs.Views.{assignments_of}
use Rattle.v_flat.proofs.connection.add_connections.Goals as goal

pub returns-in_ok-add_all_ordered-in-ByOrder : goal.returns-in_ok-add_all_ordered-in-ByOrder
returns-in_ok-add_all_ordered-in-ByOrder c = λ m u i.
    c.in_ok-add_all_ordered-in-ByOrder.ensures m u i
    ∙ ap (λ es. assignments_of c.args.list.now.items
    ++ connection_links (direction_of c.args.way) (new_name c.args.names.now) (new_name c.args.below.now) m (ordered_connections u 0 (map optional_tree_of es)))
    c.deref-in-ByOrder.ensures.value
    ∙ ap (λ x. assignments_of c.args.list.now.items
    ++ connection_links (direction_of c.args.way) (new_name c.args.names.now) (new_name c.args.below.now) m (instance_connections u (connections_of x)))
    (sym c.in-ByOrder.is)
