use Rattle.std.proofs.Common.{◌≡◌, ◌<◌, ◌≤◌, ◌^◌, length, drop}
use Rattle.std.specs.List.{list_all}
use Rattle.model_files.specs.Shape.{with_hexadecimal_digits, is_lower_digit}
use Rattle.trace_reading.proofs.numbers.number_of_digits.Given as goal

abbrev pub invariant-loop-digit : goal.invariant-loop-digit
invariant-loop-digit l = record {
  read : with_hexadecimal_digits 0 l.digits ≡ with_hexadecimal_digits l.number (drop l.digit-index l.digits);
  below : l.number < 16 ^ l.digit-index;
  count : length l.digits ≤ 32;
  are : list_all is_lower_digit l.digits ≡ list_all is_lower_digit (drop l.digit-index l.digits);
}
