use Rattle.std.proofs.Common.{◌≡◌, ◌≤◌, ◌++◌}
use Rattle.std.specs.String.{string_bytes}
use Rattle.v_print.specs.Spelled.{bit_digits}
use Rattle.v_print.proofs.number.append_bits.Given as goal

abbrev pub invariant-loop-left : goal.invariant-loop-left
invariant-loop-left l = (l.left ≤ 128) × (string_bytes l.out.text ++ bit_digits l.left l.number.value l.number.unknown l.number.wild ≡ string_bytes l.initial.out.text ++ bit_digits l.fn.bits l.number.value l.number.unknown l.number.wild)

abbrev pub decreases-loop-left : goal.decreases-loop-left
decreases-loop-left l = l.left
