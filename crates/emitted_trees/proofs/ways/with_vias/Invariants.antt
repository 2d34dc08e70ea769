use Rattle.std.proofs.Common.{◌≡◌, ◌++◌, ◌-◌, map, drop, length}
use Rattle.v_syntax.specs.Source.{item_of}
use Rattle.emitted_modules.specs.Stores.{via_wire}
use Rattle.emitted_names.specs.Parts.{update_of}
use Rattle.emitted_trees.specs.Words.{all_back, wires_at}
use Rattle.emitted_trees.proofs.Loops.{part_ids}
use Rattle.emitted_trees.proofs.ways.with_vias.Given as goal

abbrev pub invariant-loop-done : goal.invariant-loop-done
invariant-loop-done l =
    map item_of l.all.items
    ≡ map item_of l.fn.items.items
    ++ all_back (wires_at l.wires.terms.now (via_wire l.wires.terms.now (update_of l.wires.terms.now l.way))) (part_ids (drop (length l.parts - l.done) l.parts))
