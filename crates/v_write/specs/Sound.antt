-- Targets and statements that break no rule: their names are declared and no parameters, and what stands in them has values of at
-- most 128 bits.
use Rattle.std.specs.Prelude.{◌≡◌, ◌≤◌, List, [], ◌∷◌, Option, Some, None}
use Rattle.verilog_trees.specs.Syntax.{name, Expression, Expressions, no_expressions, expression, Target, place, joined, Targets, no_targets, target, CaseKind, Statement, empty, blocking, nonblocking, if_then, if_else, case, block, Statements, no_statements, statement, CaseItems, no_items, arm, default_arm}
use Rattle.verilog_meaning.specs.Expression.{Scope}
use Rattle.verilog_meaning.specs.Statement.{target_width}
use Rattle.verilog_designs.specs.Expressions.{judged_item}
use Rattle.v_syntax.specs.declared.tree.Target.{Target as CodeTarget}
use Rattle.v_syntax.specs.declared.tree.Statement.{Statement as CodeStatement}
use Rattle.v_syntax.specs.declared.tree.Arm.{Arm}
use Rattle.v_syntax.specs.declared.tree.CaseItem.{CaseItem, Values, Default}
use Rattle.v_syntax.specs.Tree.{tree_of, expressions_of, target_of, statement_of, arm_before}
use Rattle.v_lower.specs.Walking.{IsSound}

abbrev mutual
  -- Each name with its selects breaks no rule, and is no parameter.
  pub IsSoundTarget : Scope → Target → Type 0
  IsSoundTarget s (place n x) = IsSound s (name n x) × ((s n).constant ≡ None)
  IsSoundTarget s (joined ts) = AreSoundTargets s ts

  pub AreSoundTargets : Scope → Targets → Type 0
  AreSoundTargets s no_targets = Unit {0}
  AreSoundTargets s (target t ts) = IsSoundTarget s t × AreSoundTargets s ts

-- an assignment, whose target has at most 128 bits
abbrev pub IsSoundAssignment : Scope → Target → Expression → Type 0
IsSoundAssignment s t e = IsSoundTarget s t × (1 ≤ target_width s t) × (target_width s t ≤ 128) × IsSound s e

-- Values of an item of a case. (A number of a casez is judged without its z and ? digits.)
abbrev pub AreSoundValues : Scope → CaseKind → Expressions → Type 0
AreSoundValues s k no_expressions = Unit {0}
AreSoundValues s k (expression e es) = IsSound s (judged_item k e) × AreSoundValues s k es

abbrev mutual
  pub IsSoundStatement : Scope → Statement → Type 0
  IsSoundStatement s empty = Unit {0}
  IsSoundStatement s (blocking t e) = IsSoundAssignment s t e
  IsSoundStatement s (nonblocking t e) = IsSoundAssignment s t e
  IsSoundStatement s (if_then c x) = IsSound s c × IsSoundStatement s x
  IsSoundStatement s (if_else c x y) = IsSound s c × IsSoundStatement s x × IsSoundStatement s y
  IsSoundStatement s (case k e items) = IsSound s e × AreSoundItems s k items
  IsSoundStatement s (block n xs) = AreSoundStatements s xs

  pub AreSoundStatements : Scope → Statements → Type 0
  AreSoundStatements s no_statements = Unit {0}
  AreSoundStatements s (statement x xs) = IsSoundStatement s x × AreSoundStatements s xs

  pub AreSoundItems : Scope → CaseKind → CaseItems → Type 0
  AreSoundItems s k no_items = Unit {0}
  AreSoundItems s k (arm es x items) = AreSoundValues s k es × IsSoundStatement s x × AreSoundItems s k items
  AreSoundItems s k (default_arm x items) = IsSoundStatement s x × AreSoundItems s k items

-- trees over plain lists of their parts (the trees themselves are nested)
abbrev pub target_list : List CodeTarget → Targets
target_list [] = no_targets
target_list (t ∷ ts) = target (target_of t) (target_list ts)

abbrev pub statement_list : List CodeStatement → Statements
statement_list [] = no_statements
statement_list (x ∷ xs) = statement (statement_of x) (statement_list xs)

abbrev pub arm_list : List Arm → Option Statement → Option Statement
arm_list [] y = y
arm_list (a ∷ as_) y = Some (arm_before (tree_of a.condition) (statement_of a.statement) (arm_list as_ y))

abbrev pub AreSoundBranches : Scope → List Arm → Type 0
AreSoundBranches s [] = Unit {0}
AreSoundBranches s (a ∷ as_) = IsSound s (tree_of a.condition) × IsSoundStatement s (statement_of a.statement) × AreSoundBranches s as_

abbrev pub with_item : CaseItem → CaseItems → CaseItems
with_item (Values es x) items = arm (expressions_of es.items) (statement_of x) items
with_item (Default x) items = default_arm (statement_of x) items

abbrev pub item_list : List CaseItem → CaseItems
item_list [] = no_items
item_list (i ∷ items) = with_item i (item_list items)
