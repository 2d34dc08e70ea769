use Rattle.std.proofs.Common.{◌≡◌, ◌+◌, ◌-◌, ◌≤◌, suc, length, drop}
use Rattle.model_results.specs.Results.{unrolled_most}
use Rattle.model_terms.specs.Programs.{pure_instructions}
use Rattle.model_terms.specs.Unrolled.{most_at}
use Rattle.model_terms.proofs.unrolled.+unrolled_program.Given as goal

abbrev pub decreases-unrolled_program : goal.decreases-unrolled_program
decreases-unrolled_program l = 4 - l.depth

abbrev pub invariant-loop-done : goal.invariant-loop-done
invariant-loop-done l = record {
  value : l.most ≡ unrolled_most (pure_instructions l.model.parts (suc l.depth) (drop (length l.child.instructions.items - l.done) l.child.instructions.items));
  bound : l.most ≤ most_at (3 - suc l.depth);
}
