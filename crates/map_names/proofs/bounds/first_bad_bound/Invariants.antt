use Rattle.std.proofs.Common.{◌≡◌, map, drop}
use Rattle.map_file.specs.View.{entry_view}
use Rattle.map_names.specs.Places.{first_bad_bound}
use Rattle.map_names.proofs.bounds.first_bad_bound.Given as goal

abbrev pub invariant-loop-index : goal.invariant-loop-index
invariant-loop-index l = first_bad_bound 0 (map entry_view l.entries) ≡ first_bad_bound l.index (map entry_view (drop l.index l.entries))
