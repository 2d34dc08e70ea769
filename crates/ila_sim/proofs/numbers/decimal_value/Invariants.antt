use Rattle.std.proofs.Common.{◌≡◌, drop, ◌<◌, ◌^◌}
use Rattle.scripts.specs.Script.{with_decimal_digits}
use Rattle.ila_sim.proofs.numbers.decimal_value.Given as goal

abbrev pub invariant-loop-digit : goal.invariant-loop-digit
invariant-loop-digit l = record {
  read : with_decimal_digits 0 l.digits ≡ with_decimal_digits l.number (drop l.digit-index l.digits);
  below : l.number < 2 ^ 128;
}
