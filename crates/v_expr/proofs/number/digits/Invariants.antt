use Rattle.std.proofs.Common.{◌≡◌, ◌%◌, ◌^◌, drop}
use Rattle.verilog_text.specs.Spelling.{digits_from}
use Rattle.v_expr.specs.Digits.{standing}
use Rattle.v_expr.proofs.number.digits.Given as goal

abbrev pub invariant-loop-byte : goal.invariant-loop-byte
invariant-loop-byte l = record {
  same : digits_from l.base (standing l.part l.base) 0 l.text % 2 ^ 128 ≡ digits_from l.base (standing l.part l.base) l.number (drop l.byte-index l.text) % 2 ^ 128;
  whole : l.number % 2 ^ 128 ≡ l.number;
}
