use Rattle.std.proofs.Common.{◌≡◌, replicate}
use Rattle.std.specs.String.{string_bytes}
use Rattle.ob_mem.proofs.words.word_name.Given as goal

abbrev pub invariant-loop-mark : goal.invariant-loop-mark
invariant-loop-mark l = string_bytes l.text ≡ replicate l.mark 35
