use Rattle.std.proofs.Common.{◌≡◌, min, drop}
use Rattle.verilog_text.specs.Spelling.{digits_from, digit_value, greatest_size}
use Rattle.v_expr.proofs.number.size_of.Given as goal

abbrev pub invariant-loop-byte : goal.invariant-loop-byte
invariant-loop-byte l = record {
  same : min (digits_from 10 digit_value 0 l.text) greatest_size ≡ min (digits_from 10 digit_value l.size (drop l.byte-index l.text)) greatest_size;
  whole : min l.size greatest_size ≡ l.size;
}
