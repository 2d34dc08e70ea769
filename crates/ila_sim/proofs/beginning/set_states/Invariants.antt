use Rattle.std.proofs.Common.{◌≡◌, drop}
use Rattle.ila_sim.specs.Outcomes.{with_all}
use Rattle.ila_sim.proofs.beginning.set_states.Given as goal

abbrev pub invariant-loop-k : goal.invariant-loop-k
invariant-loop-k l = with_all l.state (drop l.k l.sets) ≡ with_all l.initial.state l.sets
