use Rattle.std.proofs.Common.{◌≡◌, ◌++◌, map, drop}
use Rattle.emitted_names.specs.Parts.{via_called, parts_named}
use Rattle.emitted_names.proofs.PartLists.{called}
use Rattle.emitted_names.proofs.ways.via_parts.Given as goal

abbrev pub invariant-loop-place : goal.invariant-loop-place
invariant-loop-place l = parts_named l.parts.items ++ map (called (via_called l.instruction l.memory)) (drop l.place l.ids) ≡ map (called (via_called l.instruction l.memory)) l.ids
