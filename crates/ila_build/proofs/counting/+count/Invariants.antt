use Rattle.std.proofs.Common.{◌≡◌, ◌+◌, drop, length}
use Rattle.model_files.specs.Written.{machines_below}
use Rattle.ila_file.specs.View.{instructions_view}
use Rattle.ila_build.proofs.counting.+count.Given as goal

abbrev pub invariant-count_below-loop-instruction : goal.invariant-count_below-loop-instruction
invariant-count_below-loop-instruction l =
    length (machines_below (instructions_view l.instruction-items)) ≡ l.count + length (machines_below (instructions_view (drop l.instruction-index l.instruction-items)))
