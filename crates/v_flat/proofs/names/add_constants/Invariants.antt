use Rattle.std.proofs.Common.{◌≡◌, ◌++◌, map, drop}
use Rattle.v_value.specs.Scope.{objects_of}
use Rattle.v_flat.specs.Entries.{dotted_entries}
use Rattle.v_flat.specs.Views.{entry_in}
use Rattle.v_flat.proofs.names.add_constants.Given as goal

abbrev pub invariant-loop-each : goal.invariant-loop-each
invariant-loop-each l =
    map entry_in l.initial.list.items ++ dotted_entries l.front (objects_of l.constants)
    ≡ map entry_in l.list.items ++ dotted_entries l.front (objects_of (drop l.each-index l.constants))
