use Rattle.std.proofs.Common.{◌≡◌, ◌*◌}
use Rattle.verilog_meaning.specs.Expression.{side_by_side}
use Rattle.v_value.proofs.value.copies.Given as goal

abbrev pub invariant-loop-i : goal.invariant-loop-i
invariant-loop-i l = record {
  width : l.all.width ≡ l._i * l.word.width;
  value : l.all.value ≡ side_by_side l._i l.word.width l.word.value;
}
