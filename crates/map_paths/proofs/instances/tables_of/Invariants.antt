use Rattle.std.proofs.Common.{◌≡◌, length, take}
use Rattle.v_places.specs.Views.{spots_of}
use Rattle.map_paths.specs.Located.{AreBelow}
use Rattle.map_paths.specs.Tables.{below_in}
use Rattle.map_paths.proofs.instances.tables_of.Given as goal

abbrev pub invariant-loop-place : goal.invariant-loop-place
invariant-loop-place l = (length l.tables.items ≡ l.place-index) × AreBelow (spots_of (take l.place-index l.places)) (below_in l.tables.items)
