use Rattle.std.proofs.Common.{◌∙◌, ap, sym, map}
use Rattle.verilog_designs.specs.Ports.{connected_names, are_bad_connections}
use Rattle.v_syntax.specs.Source.{optional_tree_of, connections_of}
use Rattle.v_instances.specs.Texts.{texts}
use Rattle.v_instances.specs.Connections.{are_bad_names}
use Rattle.v_instances.proofs.Fitting.{names_bad}
use Rattle.v_instances.proofs.ports.are_bad_connections.Goals as goal

pub returns-in_ok-bad-in-ByName : goal.returns-in_ok-bad-in-ByName
returns-in_ok-bad-in-ByName c =
    c.in_ok-bad-in-ByName.ensures
    ∙ ap (λ cs. are_bad_names (texts c.args.listing.now.order.items) (connected_names (map (λ x. (x.name.now, optional_tree_of x.value)) cs))) c.deref.ensures.value
    ∙ names_bad (texts c.args.listing.now.order.items) (map (λ x. (x.name.now, optional_tree_of x.value)) c.in-ByName.named.items)
    ∙ sym (ap (λ x. are_bad_connections (texts c.args.listing.now.order.items) (connections_of x)) c.in-ByName.is)
