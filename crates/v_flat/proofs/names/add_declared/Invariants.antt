use Rattle.std.proofs.Common.{◌≡◌, ◌++◌, map, drop}
use Rattle.v_scopes.specs.Rows.{rows_of, objects_by}
use Rattle.v_scopes.specs.Scopes.{scope_in}
use Rattle.v_flat.specs.Entries.{dotted_entries}
use Rattle.v_flat.specs.Views.{entry_in}
use Rattle.v_flat.proofs.names.add_declared.Given as goal

abbrev pub invariant-loop-each : goal.invariant-loop-each
invariant-loop-each l =
    map entry_in l.initial.list.items ++ dotted_entries l.front (objects_by (scope_in l.names) (rows_of l.declared))
    ≡ map entry_in l.list.items ++ dotted_entries l.front (objects_by (scope_in l.names) (rows_of (drop l.each-index l.declared)))
