use Rattle.std.proofs.Common.{ap, ◌∙◌}
use Rattle.wb_terms.specs.Graph.{tree_of_node}
use Rattle.v_bits.proofs.AtIndexes.{constant_known}
use Rattle.v_bits.proofs.selecting.known_number.Goals as goal

pub returns-in-Const : goal.returns-in-Const
returns-in-Const c =
    constant_known c.args.terms.now c.args.id.0 c.args.width c.in-Const.field-0 c.in-Const.number c.requires (c.node.ensures.tree ∙ ap (tree_of_node c.args.terms.now) c.in-Const.is)
