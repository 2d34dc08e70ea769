-- Renamed trees under names that do not unfold by themselves, and lists of the code's parts under other names.
use Rattle.std.specs.Prelude.{Bool, true, false, List, [], ◌∷◌, map, Option, Some, None, option_map}
use Rattle.wb_values.specs.Value.{Name}
use Rattle.verilog_trees.specs.Syntax as pure
use Rattle.verilog_meaning.specs.Settled.{as_target}
use Rattle.verilog_renamed.specs.Renamed.{renamed_expression, renamed_select, renamed_selects, renamed_target, renamed_statement}
use Rattle.v_syntax.specs.declared.tree.Expression.{Expression}
use Rattle.v_syntax.specs.declared.tree.BinaryOperator.{BinaryOperator}
use Rattle.v_syntax.specs.declared.tree.TestOperator.{TestOperator}
use Rattle.v_syntax.specs.declared.tree.BinaryLink.{BinaryLink}
use Rattle.v_syntax.specs.declared.tree.TestLink.{TestLink}
use Rattle.v_syntax.specs.declared.tree.Choice.{Choice}
use Rattle.v_syntax.specs.declared.tree.Target.{Target}
use Rattle.v_syntax.specs.declared.tree.Statement.{Statement}
use Rattle.v_syntax.specs.declared.tree.Arm.{Arm}
use Rattle.v_syntax.specs.declared.tree.CaseItem.{CaseItem, Values, Default}
use Rattle.v_syntax.specs.Tree.{tree_of, target_of, statement_of}
use Rattle.v_renamed.specs.Listed.{listed, targets_listed}

unfoldable pub renamed_at : (Name → Name) → pure.Expression → pure.Expression
renamed_at f e = renamed_expression f e

unfoldable pub select_at : (Name → Name) → pure.Select → pure.Select
select_at f x = renamed_select f x

unfoldable pub selects_at : (Name → Name) → pure.Selects → pure.Selects
selects_at f x = renamed_selects f x

-- a link, a test and a choice as their operators with pure trees
abbrev pub link_of : BinaryLink → BinaryOperator × pure.Expression
link_of l = (l.operator, tree_of l.operand)

abbrev pub test_of : TestLink → TestOperator × pure.Expression
test_of l = (l.operator, tree_of l.operand)

abbrev pub choice_of : Choice → pure.Expression × pure.Expression
choice_of c = (tree_of c.condition, tree_of c.value)

-- the same with other names
abbrev pub part_under : (Name → Name) → Expression → pure.Expression
part_under f e = renamed_at f (tree_of e)

abbrev pub link_under : (Name → Name) → BinaryLink → BinaryOperator × pure.Expression
link_under f l = (l.operator, renamed_at f (tree_of l.operand))

abbrev pub test_under : (Name → Name) → TestLink → TestOperator × pure.Expression
test_under f l = (l.operator, renamed_at f (tree_of l.operand))

abbrev pub choice_under : (Name → Name) → Choice → pure.Expression × pure.Expression
choice_under f c = (renamed_at f (tree_of c.condition), renamed_at f (tree_of c.value))

-- ---- targets and statements

unfoldable pub target_at : (Name → Name) → pure.Target → pure.Target
target_at f t = renamed_target f t

unfoldable pub statement_at : (Name → Name) → pure.Statement → pure.Statement
statement_at f x = renamed_statement f x

abbrev pub target_under : (Name → Name) → Target → pure.Target
target_under f t = target_at f (target_of t)

abbrev pub statement_under : (Name → Name) → Statement → pure.Statement
statement_under f x = statement_at f (statement_of x)

-- an arm, and an item of a case: with its values, or as the default
abbrev pub arm_of : Arm → pure.Expression × pure.Statement
arm_of a = (tree_of a.condition, statement_of a.statement)

abbrev pub item_of : CaseItem → Option pure.Expressions × pure.Statement
item_of (Values es x) = (Some (listed (map tree_of es.items)), statement_of x)
item_of (Default x) = (None, statement_of x)

-- the same with other names
abbrev pub arm_under : (Name → Name) → Arm → pure.Expression × pure.Statement
arm_under f a = (renamed_at f (tree_of a.condition), statement_at f (statement_of a.statement))

abbrev pub item_under : (Name → Name) → CaseItem → Option pure.Expressions × pure.Statement
item_under f (Values es x) = (Some (listed (map (part_under f) es.items)), statement_at f (statement_of x))
item_under f (Default x) = (None, statement_at f (statement_of x))

-- ---- expressions as targets

unfoldable pub as_renamed : (Name → Name) → pure.Expression → Option pure.Target
as_renamed f e = option_map (renamed_target f) (as_target e)

abbrev pub are_none : {X : Type 0} → List X → Bool
are_none [] = true
are_none (x ∷ xs) = false

-- a target before others, where all of them are targets
abbrev pub with_target : Option pure.Target → Option (List pure.Target) → Option (List pure.Target)
with_target None ts = None
with_target (Some t) ts = option_map (λ us. t ∷ us) ts

abbrev pub all_renamed : (Name → Name) → List Expression → Option (List pure.Target)
all_renamed f [] = Some []
all_renamed f (e ∷ es) = with_target (as_renamed f (tree_of e)) (all_renamed f es)

abbrev pub joined_list : List pure.Target → pure.Target
joined_list ts = pure.joined (targets_listed ts)
