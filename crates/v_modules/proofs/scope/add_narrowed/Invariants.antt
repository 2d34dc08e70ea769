use Rattle.std.proofs.Common.{◌≡◌, ◌++◌, drop}
use Rattle.v_value.specs.Scope.{objects_of, scope_at}
use Rattle.v_scopes.specs.Rows.{rows_of, objects_by}
use Rattle.v_modules.specs.Combined.{narrowed}
use Rattle.v_modules.proofs.scope.add_narrowed.Given as goal

abbrev pub invariant-loop-each : goal.invariant-loop-each
invariant-loop-each l =
    objects_of l.list.items ++ objects_by (λ n. narrowed (scope_at l.names n)) (rows_of (drop l.each-index l.declared))
    ≡ objects_of l.initial.list.items ++ objects_by (λ n. narrowed (scope_at l.names n)) (rows_of l.declared)
