-- What the rules say of statements and of the code's lists of them.
use Rattle.std.specs.Prelude.{Bool, List, [], ◌∷◌}
use Rattle.verilog_trees.specs.Syntax as pure
use Rattle.verilog_meaning.specs.Expression.{Scope}
use Rattle.verilog_designs.specs.Expressions as designs
use Rattle.v_syntax.specs.declared.tree.Arm.{Arm}
use Rattle.v_syntax.specs.declared.tree.CaseItem.{CaseItem, Values, Default}
use Rattle.v_syntax.specs.declared.tree.Statement.{Statement}
use Rattle.v_syntax.specs.Tree.{tree_of, statement_of}
use Rattle.v_size.specs.declared.rule.Broken.{Broken}
use Rattle.v_size.specs.Rule.{coded, both}
use Rattle.v_rules.specs.Judging.{none, broken_at, values_from}

-- a statement of a clocked block, or of another one, under a name that does not unfold by itself
unfoldable pub statement_at : Scope → (is_clocked_block : Bool) → pure.Statement → Broken
statement_at s c x = coded (designs.broken_statement s c x)

-- statements after others
abbrev pub statements_from : Scope → Bool → Broken → List Statement → Broken
statements_from s c a [] = a
statements_from s c a (x ∷ xs) = statements_from s c (both a (statement_at s c (statement_of x))) xs

-- arms of an if after others
abbrev pub ladder_from : Scope → Bool → Broken → List Arm → Broken
ladder_from s c a [] = a
ladder_from s c a (x ∷ xs) =
    ladder_from s c (both a (both (broken_at s (tree_of x.condition)) (statement_at s c (statement_of x.statement)))) xs

abbrev pub item_at : Scope → Bool → pure.CaseKind → CaseItem → Broken
item_at s c kind (Values es x) = both (values_from s kind none es.items) (statement_at s c (statement_of x))
item_at s c kind (Default x) = statement_at s c (statement_of x)

-- items of a case after others
abbrev pub items_from : Scope → Bool → pure.CaseKind → Broken → List CaseItem → Broken
items_from s c kind a [] = a
items_from s c kind a (i ∷ items) = items_from s c kind (both a (item_at s c kind i)) items
