use Rattle.v_value.specs.Scope.{scope_at}
use Rattle.v_narrow.proofs.Fitted.{entries_if}
use Rattle.v_narrow.proofs.object.values_fit.Goals as goal

pub returns-clause-values : goal.returns-clause-values
returns-clause-values c =
    (entries_if (scope_at c.args.scope.now) c.are_entries_fitting.result c.deref.result.now c.deref-2.result.now c.args.values.now.entries.items
    c.are_entries_fitting.ensures c.deref.ensures.value c.deref-2.ensures.value).0

pub returns-clause-exact : goal.returns-clause-exact
returns-clause-exact c =
    (entries_if (scope_at c.args.scope.now) c.are_entries_fitting.result c.deref.result.now c.deref-2.result.now c.args.values.now.entries.items
    c.are_entries_fitting.ensures c.deref.ensures.value c.deref-2.ensures.value).1
