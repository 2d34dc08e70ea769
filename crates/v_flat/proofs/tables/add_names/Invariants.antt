use Rattle.std.proofs.Common.{◌≡◌, ◌++◌, map, drop}
use Rattle.v_value.specs.Scope.{objects_of}
use Rattle.v_flat.specs.Entries.{flat_entry}
use Rattle.v_flat.specs.Views.{entry_in}
use Rattle.v_flat.proofs.tables.add_names.Given as goal

abbrev pub invariant-loop-each : goal.invariant-loop-each
invariant-loop-each l =
    objects_of l.initial.list.items ++ map flat_entry (map entry_in l.names) ≡ objects_of l.list.items ++ map flat_entry (map entry_in (drop l.each-index l.names))
