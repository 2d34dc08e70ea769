use Rattle.verilog_trees.specs.Syntax.{place, whole}
use Rattle.v_syntax.specs.Tree.{target_of, tree_of}
use Rattle.v_flat.proofs.Loops.{pushed}
use Rattle.v_flat.proofs.item.add_wire.Goals as goal

pub returns : goal.returns
returns c =
    pushed (λ a. (target_of a.target, tree_of a.value)) c.args.list.now.items c.push.new.self.items _ _ c.in_ok-push.ensures.items
    (λ i. (place (c.name_for.ensures i) whole, c.in_ok-value.ensures i))
