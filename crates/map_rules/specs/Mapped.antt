-- What states and inputs are mapped to: values of their widths, and memories of their shapes.
use Rattle.std.specs.Prelude.{◌≡◌, ◌≢◌, ◌⊎◌, ℕ, ◌-◌, ◌^◌, Contains, Option, Some, None, IsTrue}
use Rattle.wb_values.specs.Value.{Name, Sort, truth, word, memory}
use Rattle.verilog_trees.specs.Syntax.{Expression}
use Rattle.verilog_meaning.specs.Expression.{object_width, width_of}
use Rattle.verilog_meaning.specs.Hierarchy.{Placed, placed_scope, dotted}
use Rattle.verilog_meaning.specs.Settled.{Design, IsPlacedIn, is_counted}
use Rattle.verilog_rules.specs.Expression.{has_width}
use Rattle.map_files.specs.Written.{Text}
use Rattle.map_rules.specs.Case.{MapCase, case_design, state_sort, input_sort}
use Rattle.map_rules.specs.Expressions.{ReadsAs, design_scope}

-- the width of what a value of the sort is mapped to; a memory is mapped otherwise
abbrev pub wanted_width : Option Sort → Option ℕ
wanted_width (Some truth) = Some 1
wanted_width (Some (word w)) = Some w
wanted_width _ = None

-- The text stands for a state or an input whose expression is to have this width.
pub data WantsWidth (c : MapCase) (t : Text) (w : ℕ) : Type 0 where
  of_state : (n : Name) → Contains c.written.states (n, t) → wanted_width (state_sort c.model n) ≡ Some w → WantsWidth c t w
  of_input : (n : Name) → Contains c.written.inputs (n, t) → wanted_width (input_sort c.model n) ≡ Some w → WantsWidth c t w

-- WidthMismatch: the expression of a word has another width by itself than the word, or that of a truth value another than 1. One whose
-- width has no value is refused otherwise.
pub record HasWidthMismatch (c : MapCase) : Type 0 where
  pub text : Text
  pub tree : Expression
  pub width : ℕ
  pub wants : WantsWidth c text width
  pub is_read : ReadsAs text tree
  pub has_one : IsTrue (has_width (design_scope (case_design c)) tree)
  pub differs : width_of (design_scope (case_design c)) tree ≢ width

-- The text is the path of a memory of words of w bits with the indexes 0 to 2^a - 1, in either order, of which a clocked block may
-- assign a bit.
pub record IsMemoryPath (d : Design) (t : Text) (a w : ℕ) : Type 0 where
  pub within : Placed
  pub memory_name : Name
  pub is_placed : IsPlacedIn d within
  pub is_path : t ≡ dotted within.path memory_name
  pub indexes :
      ((placed_scope within memory_name).addresses ≡ Some (0, 2 ^ a - 1)) ⊎ ((placed_scope within memory_name).addresses ≡ Some (2 ^ a - 1, 0))
  pub word_width : object_width (placed_scope within memory_name) ≡ w
  pub index : ℕ
  pub place : ℕ
  pub is_assigned : IsTrue (is_counted within memory_name index place)

-- MemoryMismatch: a memory of the model is not mapped to such a path.
pub record HasMemoryMismatch (c : MapCase) : Type 0 where
  pub state : Name
  pub text : Text
  pub address_width : ℕ
  pub width : ℕ
  pub stands : Contains c.written.states (state, text)
  pub is_memory : state_sort c.model state ≡ Some (memory address_width width)
  pub no_path : ¬ IsMemoryPath (case_design c) text address_width width
