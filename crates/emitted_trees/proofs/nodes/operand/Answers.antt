use Rattle.std.proofs.Common.{◌∙◌, ap}
use Rattle.emitted_modules.specs.Nodes.{leaf_or_wire}
use Rattle.emitted_trees.proofs.nodes.operand.Goals as goal

pub returns : goal.returns
returns c = c.leaf_or_wire.ensures ∙ ap (leaf_or_wire c.args.wires.terms.now.names c.args.id.0) c.node_of.ensures.node
