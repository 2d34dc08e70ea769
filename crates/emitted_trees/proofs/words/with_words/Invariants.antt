use Rattle.std.proofs.Common.{◌≡◌, ◌++◌, map, drop}
use Rattle.v_syntax.specs.Source.{item_of}
use Rattle.emitted_modules.specs.Nodes.{operand, word_wire}
use Rattle.emitted_trees.specs.Words.{all_at, wires_at}
use Rattle.emitted_trees.proofs.Loops.{part_ids}
use Rattle.emitted_trees.proofs.words.with_words.Given as goal

abbrev pub invariant-loop-place : goal.invariant-loop-place
invariant-loop-place l =
    map item_of l.all.items ++ all_at (wires_at l.wires.terms.now (word_wire l.wires.terms.now l.load.0 (operand l.wires.terms.now l.address.0))) (part_ids (drop l.place l.row))
    ≡ map item_of l.fn.items.items ++ all_at (wires_at l.wires.terms.now (word_wire l.wires.terms.now l.load.0 (operand l.wires.terms.now l.address.0))) (part_ids l.row)
