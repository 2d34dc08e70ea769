use Rattle.std.proofs.Common.{◌≡◌, ◌++◌, map, drop}
use Rattle.v_flat.specs.Views.{names_in}
use Rattle.v_ordered.specs.Lines.{called_under}
use Rattle.v_ordered.specs.Tables.{text_under}
use Rattle.v_ordered.proofs.naming.tables_of.Given as goal

abbrev pub invariant-loop-place : goal.invariant-loop-place
invariant-loop-place l =
    map called_under (map names_in l.places) ≡ map text_under l.tables.items ++ map called_under (map names_in (drop l.place-index l.places))
