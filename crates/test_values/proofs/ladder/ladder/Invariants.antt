use Rattle.test_values.proofs.Ladders.{AreSmallArms}
use Rattle.test_values.proofs.ladder.ladder.Given as goal

abbrev pub invariant-loop : goal.invariant-loop
invariant-loop l = AreSmallArms l.arms.items
