use Rattle.std.proofs.Common.{◌∙◌, sym, ap, map, []}
use Rattle.v_value.specs.Scope.{scope_at}
use Rattle.v_syntax.specs.Source.{item_of}
use Rattle.v_size.specs.Rule.{unbroken}
use Rattle.v_fitting.proofs.Items.{items-runnable}
use Rattle.test_map_inputs.proofs.asked.told_of_items.Goals as goal

pub comes_from_inputs-requires-clause-fit : goal.comes_from_inputs-requires-clause-fit
comes_from_inputs-requires-clause-fit c =
    items-runnable [] (scope_at c.args.names.scope.now) c.args.names.narrow (map item_of c.args.items.now) c.requires.plain
    (sym (ap unbroken (c.items_rules-broken.ensures.alone [] c.requires.alone)) ∙ sym c.is_unbroken.ensures ∙ c.if-not-is_unbroken.false)
