-- The word of a bit of what is no memory is 0.
use Rattle.std.proofs.Common.{◌≡◌, ℕ, arith, true, false, Option, Some, None}
use Rattle.std.specs.Prelude.{nat_lt, is_some}
use Rattle.std.proofs.lemmas.Bool.{true≢false, and_parts, ltb-true}
use Rattle.verilog_meaning.specs.Expression.{Object, object_width, is_memory}
use Rattle.verilog_meaning.specs.Register.{words_between, word_count, is_bit_of}

one-word : (a : Option (ℕ × ℕ)) (k : ℕ) → is_some a ≡ false → nat_lt k (words_between a) ≡ true → k ≡ 0
one-word None k e h = let l = ltb-true k 1 h in omega (arith, l)
one-word (Some x) k e h = absurd (true≢false e)

pub first-word : (o : Object) (k b : ℕ) → is_memory o ≡ false → is_bit_of o k b ≡ true → k ≡ 0
first-word o k b e h = one-word o.addresses k e (and_parts (nat_lt k (word_count o)) (nat_lt b (object_width o)) h).0
