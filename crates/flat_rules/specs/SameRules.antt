-- Trees with other names break the same rules, where the new scope says of the new names what the old one says of the names that stand
-- in the tree. (Among what is said is whether a number fits its width, and whether parts have bits.)
use Rattle.std.specs.Prelude.{◌≡◌, Bool, List}
use Rattle.wb_values.specs.Value.{Name}
use Rattle.verilog_trees.specs.Syntax.{Expression, Target, Statement}
use Rattle.verilog_meaning.specs.Expression.{Scope}
use Rattle.verilog_rules.specs.Expression.{Position, broken, has_width}
use Rattle.verilog_designs.specs.Expressions.{target_has_width, broken_target, broken_net_target, broken_statement, broken_assignments}
use Rattle.verilog_renamed.specs.Renamed.{renamed_expression, renamed_target, renamed_statement, renamed_assignments}
use Rattle.verilog_renamed.specs.EachName.{EachIn, EachInTarget, EachInStatement, EachInAssignments}
use Rattle.verilog_renamed.specs.KnownNames.{IsRenamed}

-- ---- expressions

-- In each place the renamed expression breaks the rules that the expression breaks, and its width has a value where the other's has.
pub record BreaksTheSame (f : Name → Name) (s t : Scope) (e : Expression) : Type 0 where
  pub has : has_width t (renamed_expression f e) ≡ has_width s e
  pub rules : (p : Position) → broken t p (renamed_expression f e) ≡ broken s p e

abbrev pub ExpressionsBreakTheSame : Type 0
ExpressionsBreakTheSame = (f : Name → Name) (s t : Scope) (e : Expression) → EachIn (IsRenamed f s t) e → BreaksTheSame f s t e

-- ---- targets

-- So does a target, in a clocked block and outside of them.
pub record TargetBreaksTheSame (f : Name → Name) (s t : Scope) (x : Target) : Type 0 where
  pub has : target_has_width t (renamed_target f x) ≡ target_has_width s x
  pub rules : (p : Position) → broken_target t p (renamed_target f x) ≡ broken_target s p x
  pub net_rules : (p : Position) → broken_net_target t p (renamed_target f x) ≡ broken_net_target s p x

abbrev pub TargetsBreakTheSame : Type 0
TargetsBreakTheSame = (f : Name → Name) (s t : Scope) (x : Target) → EachInTarget (IsRenamed f s t) x → TargetBreaksTheSame f s t x

-- ---- statements and assignments

-- So does a statement, of a clocked block and of another one,
abbrev pub StatementsBreakTheSame : Type 0
StatementsBreakTheSame =
    (f : Name → Name) (s t : Scope) (is_clocked_block : Bool) (x : Statement) → EachInStatement (IsRenamed f s t) x
    → broken_statement t is_clocked_block (renamed_statement f x) ≡ broken_statement s is_clocked_block x

-- and so do continuous assignments.
abbrev pub AssignmentsBreakTheSame : Type 0
AssignmentsBreakTheSame =
    (f : Name → Name) (s t : Scope) (xs : List (Target × Expression)) → EachInAssignments (IsRenamed f s t) xs
    → broken_assignments t (renamed_assignments f xs) ≡ broken_assignments s xs
