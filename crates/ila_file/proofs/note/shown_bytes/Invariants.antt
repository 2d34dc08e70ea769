use Rattle.std.proofs.Common.{◌≡◌, map, take}
use Rattle.model_places.specs.Notes.{shown}
use Rattle.ila_file.proofs.note.shown_bytes.Given as goal

abbrev pub invariant-loop-byte : goal.invariant-loop-byte
invariant-loop-byte l = l.kept.items ≡ map shown (take l.byte-index l.text)
