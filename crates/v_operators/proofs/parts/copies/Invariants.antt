use Rattle.std.proofs.Common.{◌≡◌, ◌*◌}
use Rattle.verilog_meaning.specs.Expression.{side_by_side}
use Rattle.v_operators.specs.Meaning.{Grows, Makes}
use Rattle.v_operators.proofs.parts.copies.Given as goal

abbrev pub invariant-loop-i : goal.invariant-loop-i
invariant-loop-i l = record {
  grows : Grows l.fn.terms l.terms;
  total : l.total ≡ l._i * l.width;
  made : Makes l.fn.terms l.terms l.operand.0 l.width l.all.0 l.total (side_by_side l._i l.width);
}
