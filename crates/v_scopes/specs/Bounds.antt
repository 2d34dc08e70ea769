-- Declared ranges with the values of their bounds.
use Rattle.std.specs.Prelude.{ℕ, Bool, false, not, ◌==◌, Option, Some, None}
use Rattle.verilog_trees.specs.Syntax.{Expression, Range}
use Rattle.verilog_meaning.specs.Expression.{Scope}
use Rattle.verilog_designs.specs.Known.{known_bound, both_bounds}
use Rattle.v_scopes.specs.declared.range.Bounds.{Bounds}
use Rattle.v_scopes.specs.declared.range.Bounds.TheVariants.{Absent, Unknown, Known}

-- the value of a bound, under a name that does not unfold by itself
unfoldable pub bound_at : Scope → Expression → Option ℕ
bound_at s e = known_bound s e

abbrev pub known_bounds : Option (ℕ × ℕ) → Bounds
known_bounds None = Unknown
known_bounds (Some b) = Known b.0 b.1

abbrev pub range_bounds : Scope → Range → Bounds
range_bounds s r = known_bounds (both_bounds (bound_at s r.left) (bound_at s r.right))

-- a declared range, or none
abbrev pub bounds : Scope → Option Range → Bounds
bounds s None = Absent
bounds s (Some r) = range_bounds s r

-- Two declarations of one name: the first of them that has a range gives it.
abbrev pub first_bounds : Bounds → Bounds → Bounds
first_bounds Absent b = b
first_bounds Unknown b = Unknown
first_bounds (Known l r) b = Known l r

-- another number of bits than one
abbrev pub is_wide : Bounds → Bool
is_wide Absent = false
is_wide Unknown = false
is_wide (Known l r) = not (l == r)
