use Rattle.std.proofs.Common.{◌≡◌, ◌++◌, drop}
use Rattle.v_value.specs.Scope.{objects_of}
use Rattle.v_scopes.specs.Rows.{rows_of, objects_by}
use Rattle.v_scopes.specs.Scopes.{scope_in}
use Rattle.v_scopes.proofs.scope.add_objects.Given as goal

abbrev pub invariant-loop-each : goal.invariant-loop-each
invariant-loop-each l =
    objects_of l.list.items ++ objects_by (scope_in l.names) (rows_of (drop l.each-index l.declared)) ≡ objects_of l.initial.list.items ++ objects_by (scope_in l.names) (rows_of l.declared)
