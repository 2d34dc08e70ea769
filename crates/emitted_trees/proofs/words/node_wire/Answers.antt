use Rattle.std.proofs.Common.{◌∙◌, ap, subst, sym}
use Rattle.wb_terms.specs.declared.nodes.Node.{Node}
use Rattle.emitted_modules.specs.Nodes.{sort_or_truth, expression_of}
use Rattle.emitted_names.proofs.Turns.{ap3}
use Rattle.emitted_trees.specs.Items.{wire_named}
use Rattle.emitted_trees.specs.Words.{HasLoadedWord}
use Rattle.emitted_trees.proofs.Held.{loaded_there}
use Rattle.emitted_trees.proofs.words.node_wire.Goals as goal

pub expression_of-requires : goal.expression_of-requires
expression_of-requires c = record {
  id = c.requires.id;
  operands = c.node_of.ensures.operands;
  names = c.node_of.ensures.names;
  sorted = c.node_of.ensures.sorted;
  named = c.requires.named;
  row = c.requires.row;
  there = subst (λ (n : Node). HasLoadedWord c.args.wires.terms.now c.args.row.now n) (sym c.node_of.ensures.node)
      (loaded_there c.args.wires.terms.now c.args.id.0 c.args.row.now c.requires.ordered c.requires.id c.requires.row);
}

pub returns : goal.returns
returns c =
    c.in_ok-item.ensures
    ∙ ap3 wire_named c.wire_name.ensures (ap sort_or_truth (sym c.sort.ensures.sort))
    (c.in_ok-value.ensures ∙ ap (expression_of c.args.wires.terms.now c.args.id.0) c.node_of.ensures.node)
