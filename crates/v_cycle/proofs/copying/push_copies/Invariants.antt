use Rattle.std.proofs.Common.{◌≡◌, ◌++◌, map, take}
use Rattle.wb_terms.specs.Environment.{as_value}
use Rattle.v_cycle.proofs.copying.push_copies.Given as goal

abbrev pub invariant-loop-value : goal.invariant-loop-value
invariant-loop-value l =
    map as_value l.values.items ≡ map as_value l.initial.values.items ++ map as_value (take l.value-index l.further)
