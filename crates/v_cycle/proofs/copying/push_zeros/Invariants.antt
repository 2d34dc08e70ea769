use Rattle.std.proofs.Common.{◌≡◌, ◌++◌, map, replicate}
use Rattle.wb_values.specs.Value.{number}
use Rattle.wb_terms.specs.Environment.{as_value}
use Rattle.v_cycle.proofs.copying.push_zeros.Given as goal

abbrev pub invariant-loop-k : goal.invariant-loop-k
invariant-loop-k l = map as_value l.values.items ≡ map as_value l.initial.values.items ++ replicate l._k (number 0)
