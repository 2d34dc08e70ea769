-- How many steps nested child programs take at most, each of 4,096 steps at most.
use Rattle.std.specs.Prelude.{ℕ, zero, suc, ◌*◌}

-- with so many levels
abbrev pub most_at : (levels : ℕ) → ℕ
most_at zero = 1
most_at (suc levels) = 4096 * most_at levels
