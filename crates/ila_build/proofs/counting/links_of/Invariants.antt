use Rattle.std.proofs.Common.{◌≡◌, ◌++◌, drop}
use Rattle.ila_file.specs.View.{instructions_view}
use Rattle.ila_build.specs.Inside.{links_from}
use Rattle.ila_build.proofs.counting.links_of.Given as goal

abbrev pub invariant-loop-instruction : goal.invariant-loop-instruction
invariant-loop-instruction l =
    l.links.items ++ links_from l.next (instructions_view (drop l.instruction-index l.instruction-items)) ≡ links_from l.first (instructions_view l.instruction-items)
