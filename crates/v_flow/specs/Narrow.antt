-- Targets and statements whose expressions and places fit words of 128 bits.
use Rattle.verilog_trees.specs.Syntax.{name, Target, place, joined, Targets, no_targets, target, Statement, empty, blocking, nonblocking, if_then, if_else, case, block, Statements, no_statements, statement, CaseItems, no_items, arm, default_arm}
use Rattle.verilog_meaning.specs.Expression.{Scope}
use Rattle.v_value.specs.Narrow.{IsNarrow, AreNarrow}

abbrev mutual
  -- Each part is narrow, read as an expression.
  pub HasNarrowParts : Scope → Target → Type 0
  HasNarrowParts s (place n x) = IsNarrow s (name n x)
  HasNarrowParts s (joined ts) = HaveNarrowParts s ts

  pub HaveNarrowParts : Scope → Targets → Type 0
  HaveNarrowParts s no_targets = Unit {0}
  HaveNarrowParts s (target t ts) = HasNarrowParts s t × HaveNarrowParts s ts

abbrev mutual
  -- Each expression and each part of a target is narrow.
  pub IsNarrowFlow : Scope → Statement → Type 0
  IsNarrowFlow s empty = Unit {0}
  IsNarrowFlow s (blocking t e) = HasNarrowParts s t × IsNarrow s e
  IsNarrowFlow s (nonblocking t e) = HasNarrowParts s t × IsNarrow s e
  IsNarrowFlow s (if_then c x) = IsNarrow s c × IsNarrowFlow s x
  IsNarrowFlow s (if_else c x y) = IsNarrow s c × IsNarrowFlow s x × IsNarrowFlow s y
  IsNarrowFlow s (case kind e items) = IsNarrow s e × AreNarrowArms s items
  IsNarrowFlow s (block n xs) = AreNarrowFlows s xs

  pub AreNarrowFlows : Scope → Statements → Type 0
  AreNarrowFlows s no_statements = Unit {0}
  AreNarrowFlows s (statement x xs) = IsNarrowFlow s x × AreNarrowFlows s xs

  pub AreNarrowArms : Scope → CaseItems → Type 0
  AreNarrowArms s no_items = Unit {0}
  AreNarrowArms s (arm es x items) = AreNarrow s es × IsNarrowFlow s x × AreNarrowArms s items
  AreNarrowArms s (default_arm x items) = IsNarrowFlow s x × AreNarrowArms s items
