use Rattle.std.proofs.Common.{◌∙◌, ap}
use Rattle.v_syntax.specs.Tree.{tree_of, all_prefixed}
use Rattle.emitted_names.proofs.Turns.{one_pushed}
use Rattle.emitted_trees.proofs.expressions.prefixed.Goals as goal

pub returns : goal.returns
returns c =
    c.in_ok-made.ensures.made
    ∙ ap (λ os. all_prefixed os (tree_of c.args.operand)) (one_pushed _ _ c.args.operator c.new-operators.ensures.items c.in_ok-push.ensures.items)
