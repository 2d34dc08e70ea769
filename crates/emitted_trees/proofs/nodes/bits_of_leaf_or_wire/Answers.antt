use Rattle.std.proofs.Common.{◌∙◌, ap, sym}
use Rattle.term_expressions.specs.Expressions.{bits_of}
use Rattle.emitted_trees.proofs.Leaves.{other_bits}
use Rattle.emitted_trees.proofs.nodes.bits_of_leaf_or_wire.Goals as goal

pub returns-in_ok-made-in_default : goal.returns-in_ok-made-in_default
returns-in_ok-made-in_default c =
    c.in_ok-made-in_default.ensures
    ∙ (ap (λ n. bits_of n c.args.high c.args.low) c.wire_name.ensures
    ∙ sym (other_bits c.args.wires.terms.now.names c.args.id.0 c.args.high c.args.low c.args.node c.in_default.not-Name c.in_default.not-Const))
