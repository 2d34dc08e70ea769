use Rattle.std.proofs.Common.{◌≡◌, ◌+◌, ◌*◌, ◌≤◌, drop}
use Rattle.std.specs.Prelude.{max}
use Rattle.emitted_designs.specs.Bounds.{nesting_among}
use Rattle.emitted_maps.specs.Programs.{instructions_within}
use Rattle.emitted_maps.proofs.bounds.+nesting.Given as goal

abbrev pub decreases-nesting_of_child : goal.decreases-nesting_of_child
decreases-nesting_of_child l = 2 * l.levels

abbrev pub decreases-nesting_among : goal.decreases-nesting_among
decreases-nesting_among l = 2 * l.levels + 1

abbrev pub invariant-nesting_among-loop-instruction : goal.invariant-nesting_among-loop-instruction
invariant-nesting_among-loop-instruction l = record {
  value : max l.deepest (nesting_among (instructions_within l.model.parts l.levels (drop l.instruction-index l.instructions))) ≡ nesting_among (instructions_within l.model.parts l.levels l.instructions);
  within : l.deepest ≤ l.levels;
}
