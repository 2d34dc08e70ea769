-- The integers and bits that the code's indexes and spans stand for.
use Rattle.std.specs.Prelude.{ℕ, cond, ℤ, pos, negsuc, ◌-ℤ◌, ◌+◌, int_lt}
use Rattle.verilog_meaning.specs.Expression as meaning
use Rattle.v_value.specs.declared.select.Integer.{Integer}
use Rattle.v_value.specs.declared.select.Span.{Span}

abbrev pub integer_at : Integer → ℤ
integer_at i = cond i.negative (negsuc i.magnitude) (pos i.magnitude)

abbrev pub span_of : Span → meaning.Bits
span_of b = record { low = integer_at b.place -ℤ pos b.back; count = b.count }

-- how many bits stand from the bound h to the bound l, both among them
abbrev pub count_between : ℤ → ℤ → ℕ
count_between h l = meaning.natural_of (cond (int_lt h l) (l -ℤ h) (h -ℤ l)) + 1
