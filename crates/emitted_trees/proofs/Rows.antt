-- Ladders and blocks over the lists of their parts.
use Rattle.std.proofs.Common.{◌≡◌, ◌∙◌, refl, ap, List, [], ◌∷◌, map, Option, Some, None}
use Rattle.std.specs.declared.vec.Vec.{Vec}
use Rattle.std.specs.declared.alloc.Global.{Global}
use Rattle.verilog_trees.specs.Syntax as pure
use Rattle.v_syntax.specs.declared.tree.Statement.{Statement, If, Block, Row_of-Arm, end_of-Arm, more_of-Arm, items-the_row-Arm, items_hidden-the_row-Arm-0, Row_of-Statement, end_of-Statement, more_of-Statement, items-the_row-Statement, items_hidden-the_row-Statement-2}
use Rattle.v_syntax.specs.declared.tree.CaseItem.TheBlock.{hidden-the_row-Arm-0, hidden-the_row-Statement-2}
use Rattle.v_syntax.specs.declared.tree.Arm.{Arm}
use Rattle.v_syntax.specs.Tree.{tree_of, statement_of, arms_before, statements_of, arm_before, or_empty}
use Rattle.emitted_modules.specs.Rtl.{in_order, in_block}
use mathlib.Core.Former as Former

-- arms with nothing behind the last one
abbrev pub ladder_of : List Arm → Option pure.Statement
ladder_of [] = None
ladder_of (a ∷ arms) = Some (arm_before (tree_of a.condition) (statement_of a.statement) (ladder_of arms))

arms-row : (n : Former.Count) (k : Row_of-Arm n) → arms_before k None ≡ ladder_of (items-the_row-Arm n k)
arms-row n end_of-Arm = refl
arms-row n (more_of-Arm c x k) = ap (λ (o : Option pure.Statement). Some (arm_before (tree_of c) (statement_of x) o)) (arms-row _ k)

statements-row : (n : Former.Count) (k : Row_of-Statement n) → statements_of k ≡ in_order (map statement_of (items-the_row-Statement n k))
statements-row n end_of-Statement = refl
statements-row n (more_of-Statement x k) = ap (pure.statement (statement_of x)) (statements-row _ k)

pub ladder_is : (v : Vec Arm Global) → statement_of (If v None) ≡ or_empty (ladder_of v.items)
ladder_is v = ap or_empty (arms-row _ (hidden-the_row-Arm-0 v) ∙ ap ladder_of (items_hidden-the_row-Arm-0 v))

pub block_is : (v : Vec Statement Global) → statement_of (Block None v) ≡ in_block (map statement_of v.items)
block_is v =
    ap (pure.block None) (statements-row _ (hidden-the_row-Statement-2 v) ∙ ap (λ (xs : List Statement). in_order (map statement_of xs)) (items_hidden-the_row-Statement-2 v))
