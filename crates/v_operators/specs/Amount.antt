-- By how many places a number of w bits is shifted, as a word of w bits.
use Rattle.std.specs.Prelude.{ℕ, min, cond, nat_le}

-- a number of u bits, or w in its place where it is more and might not fit
abbrev pub amount : ℕ → ℕ → ℕ → ℕ
amount u w n = cond (nat_le u w) n (min n w)
