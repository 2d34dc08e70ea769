use Rattle.std.proofs.Common.{◌≡◌, ◌+◌, ◌≤◌, min, drop}
use Rattle.verilog_text.specs.Spelling.{bits_of_digits}
use Rattle.v_expr.proofs.number.bits_of.Given as goal

abbrev pub invariant-loop-byte : goal.invariant-loop-byte
invariant-loop-byte l = record {
  same : min (bits_of_digits l.bits l.text) 128 ≡ min (bits_of_digits l.bits (drop l.byte-index l.text) + l.count) 128;
  few : l.count ≤ 128;
}
