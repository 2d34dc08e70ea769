-- Tables of terms that have some of the terms of others.
use Rattle.std.specs.Prelude.{◌≡◌, ℕ, Some}
use Rattle.wb_values.specs.Value.{Name}
use Rattle.v_lower.specs.Lowered.{Images}

-- Each term of the one is that of the other.
abbrev pub IsWithin : Images → Images → Type 0
IsWithin a b = (n : Name) (id : ℕ) → a n ≡ Some id → b n ≡ Some id
