use Rattle.std.proofs.Common.{◌∙◌, ap, sym}
use Rattle.verilog_meaning.specs.Settled.{whole_name}
use Rattle.emitted_trees.proofs.Leaves.{other_leaf}
use Rattle.emitted_trees.proofs.nodes.leaf_or_wire.Goals as goal

pub returns-in_default : goal.returns-in_default
returns-in_default c =
    c.whole-in_default.ensures
    ∙ (ap whole_name c.wire_name.ensures ∙ sym (other_leaf c.args.wires.terms.now.names c.args.id.0 c.args.node c.in_default.not-Name c.in_default.not-Truth c.in_default.not-Const))
