use Rattle.v_value.specs.Scope.{scope_at}
use Rattle.test_paths.proofs.Whole as whole
use Rattle.test_paths.proofs.fit.labels_fit.Goals as goal

pub returns-in-Values : goal.returns-in-Values
returns-in-Values c = λ t.
    whole.whole-Values (scope_at c.args.names.scope.now) c.args.item.now c.in-Values.labels c.in-Values.field-1 c.in-Values.is c.deref.result.now c.deref.ensures.value (c.all_fit.ensures t)

pub returns-in-Default : goal.returns-in-Default
returns-in-Default c = λ t. whole.whole-Default (scope_at c.args.names.scope.now) c.args.item.now c.in-Default.field-0 c.in-Default.is
