-- Chains over the lists of their operators and pure trees.
use Rattle.std.specs.Prelude.{List, [], ◌∷◌, Option, Some, None}
use Rattle.verilog_trees.specs.Syntax as pure
use Rattle.v_syntax.specs.declared.tree.BinaryOperator.{BinaryOperator}
use Rattle.v_syntax.specs.declared.tree.TestOperator.{TestOperator}
use Rattle.v_syntax.specs.Tree.{combined, tested, arm_before}

abbrev pub listed : List pure.Expression → pure.Expressions
listed [] = pure.no_expressions
listed (e ∷ es) = pure.expression e (listed es)

abbrev pub linked_by : List (BinaryOperator × pure.Expression) → pure.Expression → pure.Expression
linked_by [] x = x
linked_by (l ∷ ls) x = linked_by ls (combined l.0 x l.1)

abbrev pub tested_by : List (TestOperator × pure.Expression) → pure.Expression → pure.Expression
tested_by [] x = x
tested_by (l ∷ ls) x = tested_by ls (tested l.0 x l.1)

abbrev pub chosen_by : List (pure.Expression × pure.Expression) → pure.Expression → pure.Expression
chosen_by [] y = y
chosen_by (c ∷ cs) y = pure.conditional c.0 c.1 (chosen_by cs y)

abbrev pub targets_listed : List pure.Target → pure.Targets
targets_listed [] = pure.no_targets
targets_listed (t ∷ ts) = pure.target t (targets_listed ts)

abbrev pub statements_listed : List pure.Statement → pure.Statements
statements_listed [] = pure.no_statements
statements_listed (x ∷ xs) = pure.statement x (statements_listed xs)

-- arms before what comes after the last else, if anything does
abbrev pub ladder_of : List (pure.Expression × pure.Statement) → Option pure.Statement → Option pure.Statement
ladder_of [] y = y
ladder_of (a ∷ arms) y = Some (arm_before a.0 a.1 (ladder_of arms y))

-- an item of a case, with values or as the default, before others
abbrev pub item_before : Option pure.Expressions × pure.Statement → pure.CaseItems → pure.CaseItems
item_before (Some es, x) items = pure.arm es x items
item_before (None, x) items = pure.default_arm x items

abbrev pub items_listed : List (Option pure.Expressions × pure.Statement) → pure.CaseItems
items_listed [] = pure.no_items
items_listed (i ∷ items) = item_before i (items_listed items)
