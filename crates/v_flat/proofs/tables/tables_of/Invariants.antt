use Rattle.std.proofs.Common.{◌≡◌, ◌++◌, map, drop}
use Rattle.v_flat.specs.Entries.{naming_of}
use Rattle.v_flat.specs.Views.{names_in, namings}
use Rattle.v_flat.proofs.tables.tables_of.Given as goal

abbrev pub invariant-loop-place : goal.invariant-loop-place
invariant-loop-place l = map naming_of (map names_in l.places) ≡ namings l.tables.items ++ map naming_of (map names_in (drop l.place-index l.places))
