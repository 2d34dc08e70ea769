use Rattle.std.proofs.Common.{◌≡◌, ◌++◌, map, drop}
use Rattle.v_syntax.specs.Source.{item_of}
use Rattle.emitted_trees.proofs.Loops.{ways_from_instruction}
use Rattle.emitted_trees.proofs.ways.with_ways.Given as goal

abbrev pub invariant-loop-number : goal.invariant-loop-number
invariant-loop-number l =
    map item_of l.all.items ++ ways_from_instruction l.wires.terms.now l.number (drop l.number l.instructions)
    ≡ map item_of l.fn.items.items ++ ways_from_instruction l.wires.terms.now 0 l.instructions
