use Rattle.std.proofs.Common.{◌≡◌, ◌+◌, ◌*◌, ◌≤◌, drop}
use Rattle.std.specs.Prelude.{max}
use Rattle.emitted_designs.specs.Bounds.{bound_among}
use Rattle.emitted_maps.specs.Programs.{instructions_within, most_within}
use Rattle.emitted_maps.proofs.bounds.+bound.Given as goal

abbrev pub decreases-child_bound : goal.decreases-child_bound
decreases-child_bound l = 2 * l.levels

abbrev pub decreases-bound_among : goal.decreases-bound_among
decreases-bound_among l = 2 * l.levels + 1

abbrev pub invariant-bound_among-loop-instruction : goal.invariant-bound_among-loop-instruction
invariant-bound_among-loop-instruction l = record {
  value : max l.greatest (bound_among (instructions_within l.model.parts l.levels (drop l.instruction-index l.instructions))) ≡ bound_among (instructions_within l.model.parts l.levels l.instructions);
  some : 1 ≤ l.greatest;
  within : l.greatest ≤ most_within l.levels;
}
