use Rattle.std.proofs.Common.{◌≡◌, ℕ, drop}
use Rattle.std.specs.Prelude.{◌||◌}
use Rattle.verilog_meaning.specs.Register.{is_set}
use Rattle.v_registers.specs.Masks.{whole_bits}
use Rattle.v_registers.proofs.masks.all_whole_bits.Given as goal

abbrev pub invariant-loop-span : goal.invariant-loop-span
invariant-loop-span l =
    (b : ℕ) → (is_set l.bits b || whole_bits (drop l.span-index l.spans) l.name l.count b) ≡ whole_bits l.spans l.name l.count b
