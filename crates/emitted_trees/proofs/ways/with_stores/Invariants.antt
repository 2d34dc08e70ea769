use Rattle.std.proofs.Common.{◌≡◌, ◌++◌, map, drop}
use Rattle.v_syntax.specs.Tree.{statement_of}
use Rattle.emitted_names.specs.Parts.{update_of}
use Rattle.emitted_trees.specs.Words.{all_at}
use Rattle.emitted_trees.proofs.Loops.{part_ids, stores_made}
use Rattle.emitted_trees.proofs.ways.with_stores.Given as goal

abbrev pub invariant-loop-place : goal.invariant-loop-place
invariant-loop-place l =
    map statement_of l.all.items ++ all_at (stores_made l.wires.terms.now (update_of l.wires.terms.now l.fn.way)) (part_ids (drop l.place l.parts))
    ≡ map statement_of l.fn.statements.items ++ all_at (stores_made l.wires.terms.now (update_of l.wires.terms.now l.fn.way)) (part_ids l.parts)
