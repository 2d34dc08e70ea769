use Rattle.std.proofs.Common.{◌∙◌, ap}
use Rattle.wb_terms.specs.Graph.{tree}
use Rattle.model_meaning.specs.Term.{sort_of}
use Rattle.wb_terms.specs.Sort.{as_sort}
use Rattle.emitted_modules.specs.Nodes.{bits_of_leaf_or_wire}
use Rattle.emitted_trees.proofs.Leaves.{bits_within}
use Rattle.emitted_trees.proofs.nodes.bits_of_term.Goals as goal

pub bits_of_leaf_or_wire-requires : goal.bits_of_leaf_or_wire-requires
bits_of_leaf_or_wire-requires c =
    let b = bits_within c.args.high c.args.low (sort_of (tree c.args.wires.terms.now c.args.x.0)) (as_sort c.sort-sort.result) c.sort-sort.ensures.sort c.sort-sort.ensures.in_range c.requires.sorted in
    record { id = c.requires.x; names = c.node_of-node.ensures.names; order = b.0; within = b.1; named = c.requires.named }

pub returns : goal.returns
returns c = c.in_ok-made.ensures ∙ ap (λ n. bits_of_leaf_or_wire c.args.wires.terms.now.names c.args.x.0 n c.args.high c.args.low) c.node_of-node.ensures.node
