use Rattle.std.proofs.Common.{◌≡◌, ◌≤◌, ℕ, length, slice_index}
use Rattle.std.specs.Prelude.{◌&&◌, ◌||◌, ◌⊎◌}
use Rattle.verilog_meaning.specs.Register.{is_set}
use Rattle.v_flow.specs.Spans.{is_between}
use Rattle.v_registers.proofs.masks.add_bits.Given as goal

abbrev pub invariant-loop-k : goal.invariant-loop-k
invariant-loop-k l = record {
  long : length l.masks ≡ length l.initial.masks;
  bits : (j b : ℕ) → is_set (slice_index l.masks j) b ≡ (is_set (slice_index l.initial.masks j) b || (is_between l.from l.k j && is_set l.bits b));
  from : l.from ≤ l.k;
  upto : (l.k ≡ l.from) ⊎ (l.k ≤ l.last);
}
