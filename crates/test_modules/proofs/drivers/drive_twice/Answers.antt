use Rattle.std.proofs.Common.{◌∙◌, sym, ap, map, []}
use Rattle.v_value.specs.Scope.{scope_at}
use Rattle.v_syntax.specs.Source.{item_of}
use Rattle.v_size.specs.Rule.{unbroken}
use Rattle.v_fitting.proofs.Items.{items-narrow}
use Rattle.test_modules.proofs.drivers.drive_twice.Goals as goal

pub has_two_drivers-requires-clause-narrow : goal.has_two_drivers-requires-clause-narrow
has_two_drivers-requires-clause-narrow c =
    items-narrow [] (scope_at c.args.names.scope.now) c.args.names.narrow (map item_of c.args.items.now)
    (sym (ap unbroken (c.items_rules-broken.ensures.alone [] c.requires.alone)) ∙ sym c.is_unbroken.ensures ∙ c.if-not-is_unbroken.false)
