use Rattle.std.proofs.Common.{◌≡◌, drop}
use Rattle.v_value.specs.Scope.{scope_at}
use Rattle.v_narrow.specs.Fitting.{declared_test}
use Rattle.v_narrow.proofs.object.are_declared_narrow.Given as goal

abbrev pub invariant-loop-declaration : goal.invariant-loop-declaration
invariant-loop-declaration l =
    declared_test (scope_at l.scope) l.declarations ≡ declared_test (scope_at l.scope) (drop l.declaration-index l.declarations)
