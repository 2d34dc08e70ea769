use Rattle.std.proofs.Common.{◌≡◌, drop}
use Rattle.map_names.specs.Texts.{texts}
use Rattle.map_names.specs.Places.{first_outside}
use Rattle.map_names.proofs.sets.first_outside.Given as goal

abbrev pub invariant-loop-name : goal.invariant-loop-name
invariant-loop-name l = first_outside (texts l.those) (texts l.these) ≡ first_outside (texts l.those) (texts (drop l.name-index l.these))
