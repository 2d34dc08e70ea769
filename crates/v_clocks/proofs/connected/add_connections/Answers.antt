use Rattle.std.proofs.Common.{◌∙◌, ◌++◌, ap, sym, map}
use Rattle.verilog_meaning.specs.Settled.{ordered_connections, instance_connections}
use Rattle.v_syntax.specs.Source.{optional_tree_of, connections_of}
use Rattle.v_hier.specs.Tables.{has_name}
use Rattle.v_clocks.specs.Uses.{uses_of}
use Rattle.v_clocks.specs.Views.{uses_in}
use Rattle.v_clocks.proofs.connected.add_connections.Goals as goal

pub returns-in_ok-add_all_ordered-in-ByOrder : goal.returns-in_ok-add_all_ordered-in-ByOrder
returns-in_ok-add_all_ordered-in-ByOrder c = λ m u i.
    c.in_ok-add_all_ordered-in-ByOrder.ensures m u i
    ∙ ap (λ es. uses_in c.args.list.now.items ++ uses_of (has_name c.args.clocks.now) m (ordered_connections u 0 (map optional_tree_of es))) c.deref-in-ByOrder.ensures.value
    ∙ sym (ap (λ x. uses_in c.args.list.now.items ++ uses_of (has_name c.args.clocks.now) m (instance_connections u (connections_of x))) c.in-ByOrder.is)
