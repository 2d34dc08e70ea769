use Rattle.std.proofs.Common.{◌≡◌, drop, map}
use Rattle.v_syntax.specs.Tree.{tree_of}
use Rattle.v_hier.specs.Reading.{knows}
use Rattle.v_hier.specs.Clock.{values_known}
use Rattle.v_hier.proofs.clock.are_values_known.Given as goal

abbrev pub invariant-loop-value : goal.invariant-loop-value
invariant-loop-value l = values_known (knows l.names) (map (λ v. (v.name.now, tree_of v.value)) l.values) ≡ values_known (knows l.names) (map (λ v. (v.name.now, tree_of v.value)) (drop l.value-index l.values))
