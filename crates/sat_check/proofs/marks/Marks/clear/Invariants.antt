use Rattle.std.proofs.Common.{length}
use Rattle.sat_check.proofs.Members.{IsEmptying}
use Rattle.sat_check.proofs.marks.Marks.clear.Given as goal

abbrev pub invariant-loop-self : goal.invariant-loop-self
invariant-loop-self l =
    IsEmptying l.self-inside.marked.items l.self-inside.members.items l.self-inside.count (length l.initial.self-inside.marked.items)

abbrev pub decreases-loop-self : goal.decreases-loop-self
decreases-loop-self l = l.self-inside.count
