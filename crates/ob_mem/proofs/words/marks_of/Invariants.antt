use Rattle.std.proofs.Common.{◌≡◌, ◌+◌, ◌≤◌, drop}
use Rattle.ob_mem.specs.Words.{marks_of}
use Rattle.ob_mem.proofs.words.marks_of.Given as goal

abbrev pub invariant-loop-byte : goal.invariant-loop-byte
invariant-loop-byte l = (l.count + marks_of (drop l.byte-index l.name) ≡ marks_of l.name) × (l.count ≤ l.byte-index)
