use Rattle.run_watch.proofs.Differing.{AreSameTo}
use Rattle.run_watch.proofs.comparing.first_difference.Given as goal

abbrev pub invariant-loop-k : goal.invariant-loop-k
invariant-loop-k l = AreSameTo l.k l.xs l.ys
