use Rattle.std.proofs.Common.{◌≡◌, ◌+◌, ◌-◌, map, take, drop}
use Rattle.wb_terms.specs.Environment.{as_value}
use Rattle.ila_child.specs.Values.{are_of_sorts}
use Rattle.ila_child.proofs.values.are_of_sorts.Given as goal

abbrev pub invariant-loop-k : goal.invariant-loop-k
invariant-loop-k l =
    are_of_sorts (take l.count (drop l.first l.terms.names)) (map as_value l.values)
    ≡ are_of_sorts (take (l.count - l.k) (drop (l.first + l.k) l.terms.names)) (map as_value (drop l.k l.values))
