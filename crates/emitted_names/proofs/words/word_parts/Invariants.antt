use Rattle.std.proofs.Common.{◌≡◌, ◌++◌, map, drop}
use Rattle.emitted_modules.specs.Nodes.{word_name}
use Rattle.emitted_names.specs.Parts.{parts_named}
use Rattle.emitted_names.proofs.PartLists.{called}
use Rattle.emitted_names.proofs.words.word_parts.Given as goal

abbrev pub invariant-loop-place : goal.invariant-loop-place
invariant-loop-place l = parts_named l.parts.items ++ map (called (word_name l.load.0)) (drop l.place l.ids) ≡ map (called (word_name l.load.0)) l.ids
