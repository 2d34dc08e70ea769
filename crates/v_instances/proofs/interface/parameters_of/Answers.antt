use Rattle.std.proofs.Common.{◌∙◌, ap, sym, map, ◌++◌}
use Rattle.verilog_meaning.specs.Hierarchy.{body_parameters, overridable}
use Rattle.v_syntax.specs.Source.{item_of, parameter_of}
use Rattle.v_instances.specs.Texts.{texts}
use Rattle.v_instances.proofs.Names.{overridable_both}
use Rattle.v_instances.proofs.interface.parameters_of.Goals as goal

pub returns : goal.returns
returns c =
    c.in_ok-add_body.ensures
    ∙ ap (λ is. texts c.add_declarations.new.order.items ++ overridable (body_parameters (map item_of is))) c.deref-2.ensures.value
    ∙ ap (λ ns. ns ++ overridable (body_parameters (map item_of c.args.within.now.items.items)))
    (c.in_ok-add_declarations.ensures
    ∙ ap (λ ns. texts ns ++ overridable (map parameter_of c.deref.result.now)) c.new-order.ensures.items
    ∙ ap (λ ds. overridable (map parameter_of ds)) c.deref.ensures.value)
    ∙ sym (overridable_both (map parameter_of c.args.within.now.parameters.items) (body_parameters (map item_of c.args.within.now.items.items)))
