use Rattle.std.proofs.Common.{◌∙◌, ap, subst, sym}
use Rattle.wb_terms.specs.declared.nodes.Node.{Node}
use Rattle.emitted_modules.specs.Nodes.{operand, memories_of, sort_or_truth, word_of_node}
use Rattle.emitted_names.proofs.Turns.{ap3}
use Rattle.emitted_trees.specs.Words.{HaveWords}
use Rattle.emitted_trees.specs.Items.{wire_named}
use Rattle.emitted_trees.proofs.words.word_wire.Goals as goal

pub word_of_node-requires : goal.word_of_node-requires
word_of_node-requires c = record {
  address = c.requires.address;
  operands = c.node_of-node.ensures.operands;
  named = c.requires.named;
  row = c.requires.row;
  there = subst (λ (n : Node). HaveWords c.args.wires.terms.now c.args.row.now (memories_of n)) (sym c.node_of-node.ensures.node) c.requires.there;
}

pub returns : goal.returns
returns c =
    let g = c.args.wires.terms.now in
    c.in_ok-item.ensures
    ∙ ap3 wire_named (c.as_str.ensures.value ∙ c.requires.name) (ap sort_or_truth (sym c.sort.ensures.sort))
    (c.in_ok-value.ensures ∙ ap (word_of_node g c.args.load.0 (operand g c.args.address.0)) c.node_of-node.ensures.node)
