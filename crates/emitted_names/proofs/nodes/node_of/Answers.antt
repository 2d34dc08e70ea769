use Rattle.std.proofs.Common.{arith, length}
use Rattle.wb_terms.specs.Graph.{operands_of}
use Rattle.emitted_names.proofs.Looked.{node_is, below_more}
use Rattle.emitted_names.proofs.nodes.node_of.Goals as goal

pub returns-clause-node : goal.returns-clause-node
returns-clause-node c = node_is c.args.terms.now c.args.id.0 c.node.result.now c.node.ensures.put

pub returns-clause-operands : goal.returns-clause-operands
returns-clause-operands c =
    below_more c.args.id.0 (length c.args.terms.now.nodes) (operands_of c.node.result.now) (omega (arith, c.requires)) c.node.ensures.over.operands
