use Rattle.std.proofs.Common.{◌≡◌, ◌++◌, ◌+◌, ◌-◌}
use Rattle.gate_words.specs.Binary.{literals_from}
use Rattle.gate_words.proofs.lists.literals.Given as goal

abbrev pub invariant-loop-place : goal.invariant-loop-place
invariant-loop-place l = (l.var ≡ l.first + l.place) × (l.bits.items ++ literals_from l.var (l.count - l.place) ≡ literals_from l.first l.count)
