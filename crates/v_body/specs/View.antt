-- What the code's parts of statements stand for.
use Rattle.std.specs.Prelude.{map, List, [], ◌∷◌, Option, Some, None}
use Rattle.verilog_trees.specs.Syntax as pure
use Rattle.v_syntax.specs.Tree.{tree_of, statement_of, arm_before}
use Rattle.v_syntax.specs.declared.tree.Arm.{Arm}
use Rattle.v_syntax.specs.declared.tree.CaseItem.{CaseItem, Values, Default}
use Rattle.v_expr.specs.Reading.{as_expressions}
use Rattle.v_body.specs.Statements.{CaseItem as PureItem}

-- a condition with its statement
abbrev pub arm_of : Arm → pure.Expression × pure.Statement
arm_of a = (tree_of a.condition, statement_of a.statement)

-- an item of a case
abbrev pub item_of : CaseItem → PureItem
item_of (Values es s) = (Some (as_expressions (map tree_of es.items)), statement_of s)
item_of (Default s) = (None, statement_of s)

-- the arms of a ladder before what stands behind its last else, if anything does
abbrev pub ladder_of : List (pure.Expression × pure.Statement) → Option pure.Statement → Option pure.Statement
ladder_of [] last = last
ladder_of (g ∷ gs) last = Some (arm_before g.0 g.1 (ladder_of gs last))
