use Rattle.std.proofs.Common.{length}
use Rattle.scripts.specs.Script.{words_of}
use Rattle.ila_sim.proofs.Again.{IsSeen}
use Rattle.ila_sim.proofs.place.words_fault.Given as goal

abbrev pub invariant-loop-word : goal.invariant-loop-word
invariant-loop-word l = IsSeen l.index.settables.now l.seen (words_of l.line) (words_of l.rest)

abbrev pub decreases-loop-word : goal.decreases-loop-word
decreases-loop-word l = length l.rest
