-- The bits of digits as the code counts them.
use Rattle.std.specs.Prelude.{ℕ, ◌+◌, ◌*◌, cond}
use Rattle.verilog_text.specs.Spelling.{digit_value, is_x, is_z, is_silent, filled_where}
use Rattle.v_expr.specs.declared.number.DigitPart.{DigitPart}
use Rattle.v_expr.specs.declared.number.DigitPart.TheVariants.{Value, Unknown, Wild}

-- what a digit of a base stands for in this part of a number
unfoldable pub standing : DigitPart → (base : ℕ) → ℕ → ℕ
standing Value base b = digit_value b
standing Unknown base b = filled_where base is_x b
standing Wild base b = filled_where base is_z b

-- a number with one digit more
abbrev pub with_digit : (base : ℕ) → (ℕ → ℕ) → ℕ → ℕ → ℕ
with_digit base value n b = cond (is_silent b) n (n * base + value b)

-- the bits of one digit more
abbrev pub with_bits : (bits : ℕ) → ℕ → ℕ → ℕ
with_bits bits n b = cond (is_silent b) 0 bits + n
