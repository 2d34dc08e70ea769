use Rattle.std.proofs.Common.{◌∙◌, ap, map}
use Rattle.v_value.specs.Scope.{scope_at}
use Rattle.v_syntax.specs.Source.{item_of, parameter_of}
use Rattle.v_instances.specs.Outputs.{none}
use Rattle.v_instances.specs.Parameters.{declarations_from, parameter_items_from}
use Rattle.v_instances.proofs.Declared.{parameters-told}
use Rattle.v_instances.proofs.rules.parameters_rules.Goals as goal

pub returns : goal.returns
returns c =
    c.also.ensures
    ∙ parameters-told (scope_at c.args.names.scope.now) (map parameter_of c.args.within.now.parameters.items) (map item_of c.args.within.now.items.items)
    c.broken_declarations.result (c.broken_declarations.ensures ∙ ap (λ ds. declarations_from (scope_at c.args.names.scope.now) none (map parameter_of ds)) c.deref.ensures.value)
    c.broken_by_parameters.result (c.broken_by_parameters.ensures ∙ ap (λ is. parameter_items_from (scope_at c.args.names.scope.now) none (map item_of is)) c.deref-2.ensures.value)
