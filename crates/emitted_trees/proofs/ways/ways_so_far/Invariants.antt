use Rattle.std.proofs.Common.{◌≡◌, ◌-◌, drop, length, option_map}
use Rattle.v_syntax.specs.Tree.{tree_of}
use Rattle.emitted_names.specs.Parts.{update_of}
use Rattle.emitted_trees.specs.Words.{any_so_far}
use Rattle.emitted_trees.proofs.Loops.{ways_of_parts}
use Rattle.emitted_trees.proofs.ways.ways_so_far.Given as goal

abbrev pub invariant-loop-done : goal.invariant-loop-done
invariant-loop-done l =
    option_map tree_of l.all ≡ any_so_far (ways_of_parts l.wires.terms.now (update_of l.wires.terms.now l.fn.way) l.to.0 (drop (length l.parts - l.done) l.parts))
