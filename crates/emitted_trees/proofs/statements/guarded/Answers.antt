use Rattle.std.proofs.Common.{◌∙◌, List, ap}
use Rattle.v_syntax.specs.Tree.{or_empty}
use Rattle.v_syntax.specs.declared.tree.Arm.{Arm}
use Rattle.emitted_trees.proofs.Rows.{ladder_of, ladder_is}
use Rattle.emitted_trees.proofs.statements.guarded.Goals as goal

pub returns : goal.returns
returns c =
    ladder_is c.in_ok-arms.arms ∙ ap (λ (arms : List Arm). or_empty (ladder_of arms)) c.in_ok-arms.ensures
