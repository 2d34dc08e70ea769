use Rattle.std.proofs.Common.{◌-◌, ◌/◌, ◌%◌, ◌^◌, ◌≤◌, count_ones}
use Rattle.v_operators.specs.Meaning.{Grows, Makes}
use Rattle.v_lower.proofs.reducing.parity.Given as goal

abbrev pub invariant-loop-i : goal.invariant-loop-i
invariant-loop-i l = record {
  grows : Grows l.fn.terms l.terms;
  some : 1 ≤ l.i;
  made : Makes l.fn.terms l.terms l.operand.0 l.width l.sum.0 1 (λ a. count_ones (a / 2 ^ (l.width - l.i)) % 2);
}
