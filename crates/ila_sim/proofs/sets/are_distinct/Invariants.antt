use Rattle.std.proofs.Common.{◌≡◌, ◌&&◌, not, drop, map}
use Rattle.std.specs.List.{list_all}
use Rattle.ila_sim.specs.Places.{has_number}
use Rattle.ila_sim.specs.Sets.{key_of, are_distinct_numbers}
use Rattle.ila_sim.proofs.sets.are_distinct.Given as goal

abbrev pub invariant-loop-set : goal.invariant-loop-set
invariant-loop-set l = are_distinct_numbers (map key_of l.sets) ≡ (list_all (λ n. not (has_number l.seen n)) (map key_of (drop l.set-index l.sets)) && are_distinct_numbers (map key_of (drop l.set-index l.sets)))
