-- Ranges of one name that differ, one declaration after the other.
use Rattle.std.specs.Prelude.{ℕ, Bool, false, cond, ◌||◌, List, [], ◌∷◌, Option, Some, None}
use Rattle.std.specs.Borrow.{Bor}
use Rattle.std.specs.BTreeMap.{BTreeMap}
use Rattle.wb_values.specs.Value.{Name, same_name}
use Rattle.verilog_designs.specs.Ports.{is_other_range}
use Rattle.v_hier.specs.Tables.{under_name}
use Rattle.v_scopes.specs.declared.range.Bounds.{Bounds}
use Rattle.v_scopes.specs.declared.range.Bounds.TheVariants.{Absent, Unknown, Known}
use Rattle.v_scopes.specs.Rows.{Row}

-- the range with values that was met first, after one declaration more
abbrev pub first_after : Option (ℕ × ℕ) → Bounds → Option (ℕ × ℕ)
first_after None (Known l r) = Some (l, r)
first_after None Absent = None
first_after None Unknown = None
first_after (Some a) b = Some a

-- a range with values that is another one than the first
abbrev pub is_other : Option (ℕ × ℕ) → Bounds → Bool
is_other None b = false
is_other (Some a) (Known l r) = is_other_range a (l, r)
is_other (Some a) Absent = false
is_other (Some a) Unknown = false

-- Some declaration of the name has another range than the first of those with values, where this was the first before.
abbrev pub differs_after : Option (ℕ × ℕ) → List Row → Name → Bool
differs_after first [] n = false
differs_after first (r ∷ rs) n =
    cond (same_name r.of_name n) (is_other first r.range || differs_after (first_after first r.range) rs n) (differs_after first rs n)

-- the first range of a name by a table
abbrev pub first_in : BTreeMap (Bor (List ℕ)) (ℕ × ℕ) → Name → Option (ℕ × ℕ)
first_in t n = under_name t n
