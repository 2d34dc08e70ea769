use Rattle.std.proofs.Common.{◌≡◌, ◌++◌, map, drop}
use Rattle.v_syntax.specs.Source.{item_of}
use Rattle.emitted_names.specs.Ids.{ids_of}
use Rattle.emitted_trees.specs.Words.{all_at}
use Rattle.emitted_trees.proofs.Loops.{node_items}
use Rattle.emitted_trees.proofs.words.with_nodes.Given as goal

abbrev pub invariant-loop-place : goal.invariant-loop-place
invariant-loop-place l =
    map item_of l.all.items ++ all_at (node_items l.wires.terms.now) (ids_of (drop l.place l.ids))
    ≡ map item_of l.fn.items.items ++ all_at (node_items l.wires.terms.now) (ids_of l.ids)
