-- What the calls of the walk ask of selects and of the contexts of tests.
use Rattle.std.specs.Prelude.{◌≡◌, ℕ, ◌≤◌, Bool, true, false}
use Rattle.wb_values.specs.Value.{Name}
use Rattle.verilog_trees.specs.Syntax as pure
use Rattle.verilog_meaning.specs.Expression.{Scope, is_memory, width_of, sign_of}
use Rattle.v_syntax.specs.declared.tree.TestOperator.{TestOperator}
use Rattle.v_syntax.specs.declared.tree.TestLink.{TestLink}
use Rattle.v_syntax.specs.Tree.{tree_of}
use Rattle.v_value.specs.Narrow.{IsWidth, IsSelectNarrow}
use Rattle.v_value.specs.Evaluation.{width_at, taken_at}
use Rattle.v_lower.specs.declared.steps.Contexts.{Contexts}
use Rattle.v_lower.specs.Kinds.{is_logical}
use Rattle.v_lower.specs.Lowered.{has_sort}
use Rattle.v_lower.specs.Walking as walking
use Rattle.v_lower.specs.Walking.{IsSelectSound, IsIndex}

-- a word of a memory
pub record IsAddressed (s : Scope) (n : Name) (x : pure.Select) : Type 0 where
  pub sort : has_sort (s n) ≡ true
  pub memory : is_memory (s n) ≡ true
  pub index : IsIndex x
  pub sound : IsSelectSound s x

-- bits of an operand
pub record IsTaken (s : Scope) (x : pure.Select) : Type 0 where
  pub sound : IsSelectSound s x
  pub narrow : IsSelectNarrow s x
  pub width : IsWidth (taken_at s x)

-- The right operand of a test fits its context, which is also the left one's where the test compares.
pub record IsTestContext (s : Scope) (l : TestLink) (c : Contexts) : Type 0 where
  pub within : width_at s (tree_of l.operand) ≤ c.right.width
  pub at_most_128 : c.right.width ≤ 128
  pub one : is_logical l.operator ≡ false → c.left ≡ c.right

-- These are the contexts of two operands of a test.
pub record AreContexts (s : Scope) (o : TestOperator) (x y : pure.Expression) (c : Contexts) : Type 0 where
  pub left_width : c.left.width ≡ walking.left_width o (width_of s x) (width_of s y)
  pub left_sign : c.left.signed ≡ walking.left_sign o (sign_of s x) (sign_of s y)
  pub right_width : c.right.width ≡ walking.right_width o (width_of s x) (width_of s y)
  pub right_sign : c.right.signed ≡ walking.right_sign o (sign_of s x) (sign_of s y)
