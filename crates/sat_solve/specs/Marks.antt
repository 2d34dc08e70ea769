-- How many variables a set has.
use Rattle.std.specs.Prelude.{ℕ, Bool, if◌then◌else◌, List, sum_by}

abbrev pub member_count : List Bool → ℕ
member_count marked = sum_by (λ b. if b then 1 else 0) marked
