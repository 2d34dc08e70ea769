use Rattle.std.proofs.Common.{drop}
use Rattle.v_renamed.specs.NewNames.{new_name}
use Rattle.map_inputs.proofs.Renaming.{AreSoFar}
use Rattle.map_inputs.proofs.uses.all_renamed.Given as goal

abbrev pub invariant-loop-span : goal.invariant-loop-span
invariant-loop-span l = AreSoFar (new_name l.names) l.spans (drop l.span-index l.spans) l.found.items
