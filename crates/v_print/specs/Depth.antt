-- How many brackets and choices are open at most in a printed expression.
use Rattle.std.specs.Prelude.{ℕ, suc, max, Bool, cond, nat_lt, nat_le}
use Rattle.verilog_trees.specs.Syntax as tree
use Rattle.verilog_trees.specs.Syntax.{Expression, Expressions, no_expressions, expression, Select, Selects, whole, one, two}
use Rattle.v_print.specs.Spelled.{binary_level, comparison_level, logical_level, level_of}

abbrev pub bracketed_depth : Bool → ℕ → ℕ
bracketed_depth b d = cond b (suc d) d

abbrev pub joined_depth : (k left : ℕ) → ℕ → (right : ℕ) → ℕ → ℕ
joined_depth k left d right e = max (bracketed_depth (nat_lt left k) d) (bracketed_depth (nat_le right k) e)

abbrev mutual
  pub depth_of : Expression → ℕ
  depth_of (tree.number n) = 0
  depth_of (tree.name n s) = depth_of_selects s
  depth_of (tree.concatenation es) = suc (depth_of_parts es)
  depth_of (tree.replication k es) = suc (max (depth_of k) (suc (depth_of_parts es)))
  depth_of (tree.as_signed x) = suc (depth_of x)
  depth_of (tree.as_unsigned x) = suc (depth_of x)
  depth_of (tree.unary o x) = bracketed_depth (nat_lt (level_of x) 12) (depth_of x)
  depth_of (tree.reduction o x) = bracketed_depth (nat_lt (level_of x) 12) (depth_of x)
  depth_of (tree.binary o x y) = joined_depth (binary_level o) (level_of x) (depth_of x) (level_of y) (depth_of y)
  depth_of (tree.shift o x y) = joined_depth 8 (level_of x) (depth_of x) (level_of y) (depth_of y)
  depth_of (tree.power x y) = joined_depth 11 (level_of x) (depth_of x) (level_of y) (depth_of y)
  depth_of (tree.comparison o x y) = joined_depth (comparison_level o) (level_of x) (depth_of x) (level_of y) (depth_of y)
  depth_of (tree.logical o x y) = joined_depth (logical_level o) (level_of x) (depth_of x) (level_of y) (depth_of y)
  depth_of (tree.conditional c x y) = max (bracketed_depth (nat_lt (level_of c) 1) (depth_of c)) (max (suc (depth_of x)) (depth_of y))

  pub depth_of_parts : Expressions → ℕ
  depth_of_parts no_expressions = 0
  depth_of_parts (expression e es) = max (depth_of e) (depth_of_parts es)

  pub depth_of_select : Select → ℕ
  depth_of_select (tree.index e) = suc (depth_of e)
  depth_of_select (tree.part x y) = suc (max (depth_of x) (depth_of y))
  depth_of_select (tree.part_up x y) = suc (max (depth_of x) (depth_of y))
  depth_of_select (tree.part_down x y) = suc (max (depth_of x) (depth_of y))

  pub depth_of_selects : Selects → ℕ
  depth_of_selects whole = 0
  depth_of_selects (one s) = depth_of_select s
  depth_of_selects (two s t) = max (depth_of_select s) (depth_of_select t)
