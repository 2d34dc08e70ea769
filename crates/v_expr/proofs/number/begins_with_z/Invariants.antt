use Rattle.std.proofs.Common.{◌≡◌, drop}
use Rattle.verilog_text.specs.Spelling.{begins_with_z}
use Rattle.v_expr.proofs.number.begins_with_z.Given as goal

abbrev pub invariant-loop-byte : goal.invariant-loop-byte
invariant-loop-byte l = begins_with_z l.text ≡ begins_with_z (drop l.byte-index l.text)
