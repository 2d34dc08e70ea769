-- What a sink over standard output counts.
use Rattle.std.specs.Prelude.{ℕ}

-- how many writes and how many faults there were; each stops at the last value of a u64
pub record SinkCounts : Type 0 where
  pub writes : ℕ
  pub faults : ℕ
