use Rattle.std.proofs.Common.{drop, []}
use Rattle.map_names.specs.Texts.{texts}
use Rattle.map_names.specs.Places.{first_unknown}
use Rattle.map_names.proofs.Outside.{IsSearch}
use Rattle.map_names.proofs.sets.first_unknown.Given as goal

abbrev pub invariant-loop-index : goal.invariant-loop-index
invariant-loop-index l = IsSearch (texts l.known) (first_unknown (texts l.known) [] 0 (texts l.names)) l.before l.index (drop l.index l.names)
