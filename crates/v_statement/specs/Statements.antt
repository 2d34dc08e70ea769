-- Statements whose values fit words: each expression in them does, and each target has at most 128 bits.
use Rattle.std.specs.Prelude.{◌≤◌, List, [], ◌∷◌, Option, Some}
use Rattle.verilog_trees.specs.Syntax.{Select, index, part, part_up, part_down, Selects, whole, one, two, Target, place, joined, Targets, no_targets, target, Statement, empty, blocking, nonblocking, if_then, if_else, case, block, Statements, no_statements, statement, CaseItems, no_items, arm, default_arm}
use Rattle.verilog_meaning.specs.Expression.{Scope}
use Rattle.verilog_meaning.specs.Statement.{target_width}
use Rattle.wb_values.specs.Value.{Valuation}
use Rattle.v_syntax.specs.declared.tree.Target.{Target as CodeTarget}
use Rattle.v_syntax.specs.declared.tree.Statement.{Statement as CodeStatement}
use Rattle.v_syntax.specs.declared.tree.Arm.{Arm}
use Rattle.v_syntax.specs.Tree.{tree_of, target_of, statement_of, arm_before}
use Rattle.v_value.specs.Narrow.{IsNarrow, AreNarrow, HasNarrowObjects, HasFittingValues}

-- objects and values that fit words
abbrev pub IsReadyFor : Scope → Valuation → Type 0
IsReadyFor s v = HasNarrowObjects s × HasFittingValues s v

-- Of a part select, the bounds or the base and the width. (How many bits it takes is among the widths of the target.)
abbrev pub IsNarrowSelect : Scope → Select → Type 0
IsNarrowSelect s (index i) = IsNarrow s i
IsNarrowSelect s (part h l) = IsNarrow s h × IsNarrow s l
IsNarrowSelect s (part_up b n) = IsNarrow s b × IsNarrow s n
IsNarrowSelect s (part_down b n) = IsNarrow s b × IsNarrow s n

abbrev pub AreNarrowSelects : Scope → Selects → Type 0
AreNarrowSelects s whole = Unit {0}
AreNarrowSelects s (one x) = IsNarrowSelect s x
AreNarrowSelects s (two x y) = IsNarrowSelect s x × IsNarrowSelect s y

abbrev mutual
  pub HasNarrowSelects : Scope → Target → Type 0
  HasNarrowSelects s (place n x) = AreNarrowSelects s x
  HasNarrowSelects s (joined ts) = HaveNarrowSelects s ts

  pub HaveNarrowSelects : Scope → Targets → Type 0
  HaveNarrowSelects s no_targets = Unit {0}
  HaveNarrowSelects s (target t ts) = HasNarrowSelects s t × HaveNarrowSelects s ts

abbrev pub IsNarrowTarget : Scope → Target → Type 0
IsNarrowTarget s t = HasNarrowSelects s t × (target_width s t ≤ 128)

abbrev mutual
  pub IsNarrowStatement : Scope → Statement → Type 0
  IsNarrowStatement s empty = Unit {0}
  IsNarrowStatement s (blocking t e) = IsNarrowTarget s t × IsNarrow s e
  IsNarrowStatement s (nonblocking t e) = IsNarrowTarget s t × IsNarrow s e
  IsNarrowStatement s (if_then c x) = IsNarrow s c × IsNarrowStatement s x
  IsNarrowStatement s (if_else c x y) = IsNarrow s c × IsNarrowStatement s x × IsNarrowStatement s y
  IsNarrowStatement s (case kind e items) = IsNarrow s e × AreNarrowItems s items
  IsNarrowStatement s (block n xs) = AreNarrowStatements s xs

  pub AreNarrowStatements : Scope → Statements → Type 0
  AreNarrowStatements s no_statements = Unit {0}
  AreNarrowStatements s (statement x xs) = IsNarrowStatement s x × AreNarrowStatements s xs

  pub AreNarrowItems : Scope → CaseItems → Type 0
  AreNarrowItems s no_items = Unit {0}
  AreNarrowItems s (arm es x items) = AreNarrow s es × IsNarrowStatement s x × AreNarrowItems s items
  AreNarrowItems s (default_arm x items) = IsNarrowStatement s x × AreNarrowItems s items

-- trees over plain lists of their parts (the trees themselves are nested)
abbrev pub target_list : List CodeTarget → Targets
target_list [] = no_targets
target_list (t ∷ ts) = target (target_of t) (target_list ts)

abbrev pub statement_list : List CodeStatement → Statements
statement_list [] = no_statements
statement_list (x ∷ xs) = statement (statement_of x) (statement_list xs)

abbrev pub arm_list : List Arm → Option Statement → Option Statement
arm_list [] y = y
arm_list (a ∷ as_) y = Some (arm_before (tree_of a.condition) (statement_of a.statement) (arm_list as_ y))
