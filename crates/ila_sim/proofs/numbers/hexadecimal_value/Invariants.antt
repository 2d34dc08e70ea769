use Rattle.std.proofs.Common.{◌≡◌, drop, ◌<◌, ◌^◌}
use Rattle.scripts.specs.Script.{with_either_digits}
use Rattle.ila_sim.proofs.numbers.hexadecimal_value.Given as goal

abbrev pub invariant-loop-digit : goal.invariant-loop-digit
invariant-loop-digit l = record {
  read : with_either_digits 0 l.digits ≡ with_either_digits l.number (drop l.digit-index l.digits);
  below : l.number < 2 ^ 128;
}
