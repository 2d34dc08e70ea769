use Rattle.std.proofs.Common.{Bool, drop}
use Rattle.wb_values.specs.Value.{Name}
use Rattle.v_value.specs.Scope.{objects_of, scope_at}
use Rattle.v_named.specs.Before.{IsBefore}
use Rattle.v_named.proofs.Earlier.{IsPast, names_of}
use Rattle.v_named.proofs.before.with_values.Given as goal

abbrev pub invariant-loop-value : goal.invariant-loop-value
invariant-loop-value l =
    (b : Name → Bool) → IsBefore (objects_of l.initial.known.scope.declarations.items) (scope_at l.constants.scope.now) b
    → IsPast (objects_of l.known.scope.declarations.items) (scope_at l.constants.scope.now) (names_of (drop l.value-index l.values)) (names_of l.values) b
