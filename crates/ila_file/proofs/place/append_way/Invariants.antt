use Rattle.std.proofs.Common.{◌≡◌, ◌++◌, take}
use Rattle.model_places.specs.Sites.{way_text}
use Rattle.ila_file.proofs.place.append_way.Given as goal

abbrev pub invariant-loop-instruction : goal.invariant-loop-instruction
invariant-loop-instruction l = l.text.items ≡ l.initial.text.items ++ way_text (take l.instruction-index l.instructions)
