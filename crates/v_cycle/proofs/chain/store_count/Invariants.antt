use Rattle.std.proofs.Common.{◌≤◌}
use Rattle.v_cycle.proofs.chain.store_count.Given as goal

abbrev pub invariant-loop-k : goal.invariant-loop-k
invariant-loop-k l = l.count ≤ l.k
