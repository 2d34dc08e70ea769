use Rattle.std.proofs.Common.{Bool, drop}
use Rattle.wb_values.specs.Value.{Name}
use Rattle.v_value.specs.Scope.{objects_of, scope_at}
use Rattle.v_named.specs.Before.{IsBefore}
use Rattle.v_named.proofs.Earlier.{IsPast, all_names}
use Rattle.v_named.proofs.before.with_header.Given as goal

abbrev pub invariant-loop-declaration : goal.invariant-loop-declaration
invariant-loop-declaration l =
    (b : Name → Bool) → IsBefore (objects_of l.initial.known.scope.declarations.items) (scope_at l.constants.scope.now) b
    → IsPast (objects_of l.known.scope.declarations.items) (scope_at l.constants.scope.now) (all_names (drop l.declaration-index l.declarations)) (all_names l.declarations) b
