-- Lemmas on powers of two.
use Rattle.std.proofs.Common.{ℕ, zero, suc, ◌^◌, ◌<◌, arith, lit<}
use Rattle.std.proofs.Math.Pow.{pow-add}

pub below_pow : (n : ℕ) → n < 2 ^ n
below_pow zero = lit< tt
below_pow (suc n) = omega (arith, below_pow n, pow-add 2 n 1)
