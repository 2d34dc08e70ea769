use Rattle.std.proofs.Common.{◌≡◌, ◌++◌, drop}
use Rattle.v_hier.specs.Tables.{has_name}
use Rattle.v_value.specs.Scope.{objects_of, scope_at}
use Rattle.v_scopes.specs.Rows.{rows_of}
use Rattle.v_modules.specs.Combined.{nets_by}
use Rattle.v_modules.proofs.scope.add_nets.Given as goal

abbrev pub invariant-loop-each : goal.invariant-loop-each
invariant-loop-each l =
    objects_of l.list.items ++ nets_by (has_name l.parameters) (scope_at l.names) (rows_of (drop l.each-index l.declared))
    ≡ objects_of l.initial.list.items ++ nets_by (has_name l.parameters) (scope_at l.names) (rows_of l.declared)
