use Rattle.std.proofs.Common.{◌≡◌, ◌<◌, ℕ, drop, length, slice_index}
use Rattle.std.specs.Prelude.{◌||◌}
use Rattle.verilog_meaning.specs.Register.{is_set}
use Rattle.v_registers.specs.Masks.{part_bits}
use Rattle.v_registers.proofs.masks.add_parts.Given as goal

abbrev pub invariant-loop-span : goal.invariant-loop-span
invariant-loop-span l = record {
  long : length l.masks ≡ length l.initial.masks;
  bits : (k b : ℕ) → k < length l.initial.masks
      → (is_set (slice_index l.masks k) b || part_bits (drop l.span-index l.spans) l.name (length l.initial.masks) k b)
      ≡ (is_set (slice_index l.initial.masks k) b || part_bits l.spans l.name (length l.initial.masks) k b);
}
