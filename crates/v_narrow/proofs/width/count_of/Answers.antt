use Rattle.v_value.specs.Scope.{scope_at}
use Rattle.v_narrow.proofs.Counted as counted
use Rattle.v_narrow.proofs.width.count_of.Goals as goal

pub returns-then-integer : goal.returns-then-integer
returns-then-integer c = counted.below_zero (scope_at c.args.scope.now) c.args.expression.now c.bound_of-integer.result c.bound_of-integer.ensures c.if-integer.true

pub returns-else-integer : goal.returns-else-integer
returns-else-integer c = counted.from_zero (scope_at c.args.scope.now) c.args.expression.now c.bound_of-integer.result c.bound_of-integer.ensures c.if-integer.false
