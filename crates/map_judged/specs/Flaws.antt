-- What is wrong with expressions of a map for a design, by the rules on maps, and which is the first.
use Rattle.std.specs.Prelude.{◌≡◌, ◌≢◌, ◌<◌, ℕ, List, slice_get, Option, Some, None, is_some, IsTrue}
use Rattle.verilog_trees.specs.Syntax.{Expression}
use Rattle.verilog_meaning.specs.Expression.{width_of}
use Rattle.verilog_meaning.specs.Settled.{Design}
use Rattle.verilog_rules.specs.Expression.{has_width, refusal_of}
use Rattle.map_rules.specs.Expressions.{design_scope, NamesClock}
use Rattle.map_judged.specs.declared.flaw.Flaw.{Flaw}
use Rattle.map_judged.specs.declared.flaw.Flaw.TheVariants as flaws
use Rattle.map_judged.specs.declared.flaw.FirstFlaw.{FirstFlaw}
use Rattle.map_judged.specs.Asked.{Asked}

-- ---- bad expressions

-- The expression breaks a rule on expressions; or it breaks none, and names a clock.
abbrev pub HasFlaw : Design → Expression → Flaw → Type 0
HasFlaw d e flaws.BreaksRule = IsTrue (is_some (refusal_of (design_scope d) e))
HasFlaw d e flaws.NamesClock = (refusal_of (design_scope d) e ≡ None) × NamesClock d e

-- It breaks no rule on expressions, and names no clock.
pub record HasNoFlaw (d : Design) (e : Expression) : Type 0 where
  pub breaks_none : refusal_of (design_scope d) e ≡ None
  pub names_none : ¬ NamesClock d e

-- The first of these that has a flaw, with its number; or none has one.
abbrev pub IsFirstFlaw : Design → List Asked → Option FirstFlaw → Type 0
IsFirstFlaw d xs None = (k : ℕ) (x : Asked) → slice_get xs k ≡ Some x → HasNoFlaw d x.tree
IsFirstFlaw d xs (Some f) =
    ((x : Asked) × (slice_get xs f.index ≡ Some x) × HasFlaw d x.tree f.flaw)
    × ((k : ℕ) (x : Asked) → k < f.index → slice_get xs k ≡ Some x → HasNoFlaw d x.tree)

-- ---- widths

-- A width is wanted, and the expression has another one by itself. One whose width has no value is refused otherwise.
pub record IsMismatch (d : Design) (x : Asked) : Type 0 where
  pub width : ℕ
  pub is_wanted : x.wanted ≡ Some width
  pub has_one : IsTrue (has_width (design_scope d) x.tree)
  pub differs : width_of (design_scope d) x.tree ≢ width

-- The number of the first of these that has another width than is wanted; or none has.
abbrev pub IsFirstMismatch : Design → List Asked → Option ℕ → Type 0
IsFirstMismatch d xs None = (k : ℕ) (x : Asked) → slice_get xs k ≡ Some x → ¬ IsMismatch d x
IsFirstMismatch d xs (Some i) =
    ((x : Asked) × (slice_get xs i ≡ Some x) × IsMismatch d x)
    × ((k : ℕ) (x : Asked) → k < i → slice_get xs k ≡ Some x → ¬ IsMismatch d x)
