-- The hash of a name.
use Rattle.std.specs.Prelude.{ℕ, ◌+◌, ◌*◌, ◌%◌, ◌^◌, [], ◌∷◌}
use Rattle.wb_values.specs.Value.{Name}

-- its letters as the digits of a number in base 257, below 2^64
abbrev pub hash_from : ℕ → Name → ℕ
hash_from n [] = n
hash_from n (b ∷ bs) = hash_from ((n * 257 % 2 ^ 64 + b) % 2 ^ 64) bs

unfoldable pub hash_of : Name → ℕ
hash_of q = hash_from 0 q
