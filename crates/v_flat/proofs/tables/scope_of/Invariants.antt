use Rattle.std.proofs.Common.{◌≡◌, ◌++◌, map, drop}
use Rattle.v_value.specs.Scope.{objects_of}
use Rattle.v_flat.specs.Entries.{flat_entries}
use Rattle.v_flat.specs.Views.{names_in}
use Rattle.v_flat.proofs.tables.scope_of.Given as goal

abbrev pub invariant-loop-place : goal.invariant-loop-place
invariant-loop-place l = flat_entries (map names_in l.places) ≡ objects_of l.list.items ++ flat_entries (map names_in (drop l.place-index l.places))
