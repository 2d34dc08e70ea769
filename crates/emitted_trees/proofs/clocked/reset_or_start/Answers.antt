use Rattle.std.proofs.Common.{◌∙◌, ◌∷◌, [], ◌++◌, List, ap}
use Rattle.verilog_trees.specs.Syntax.{if_then, if_else}
use Rattle.v_syntax.specs.Tree.{statement_of, or_empty}
use Rattle.v_syntax.specs.declared.tree.Arm.{Arm}
use Rattle.emitted_trees.proofs.Rows.{ladder_of, ladder_is}
use Rattle.emitted_names.proofs.Turns.{ap2}
use Rattle.emitted_trees.proofs.clocked.reset_or_start.Goals as goal

pub returns : goal.returns
returns c =
    ladder_is c.in_ok-arms.arms
    ∙ ap (λ (arms : List Arm). or_empty (ladder_of arms)) (c.in_ok-arms.ensures ∙ ap (λ (xs : List Arm). xs ++ record { condition = c.whole-2.result; statement = c.args.start } ∷ []) c.in_ok-arm.ensures)
    ∙ ap2 (λ a b. if_else a (statement_of c.args.reset) (if_then b (statement_of c.args.start))) c.whole.ensures c.whole-2.ensures
