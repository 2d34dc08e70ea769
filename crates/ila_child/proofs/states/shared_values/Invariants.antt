use Rattle.std.proofs.Common.{◌≡◌, map, take}
use Rattle.wb_terms.specs.Environment.{as_value}
use Rattle.ila_child.proofs.states.shared_values.Given as goal

abbrev pub invariant-loop-k : goal.invariant-loop-k
invariant-loop-k l = l.shared ≡ take l.k (map as_value l.values)
