use Rattle.std.specs.Prelude.{◌≡◌, ◌+◌, ◌*◌, ◌^◌, ◌≤◌, drop}
use Rattle.v_design.specs.Parts.{registers_of}
use Rattle.v_design.specs.Seen.{parts_of}
use Rattle.check_limits.specs.Limits.{register_bits}
use Rattle.check_limits.proofs.memories.bits_of_registers.Given as goal

abbrev pub invariant-loop-place : goal.invariant-loop-place
invariant-loop-place l =
    (l.total + register_bits (drop l.place (registers_of (parts_of l.design))) (drop l.place (parts_of l.design).bits) ≡ register_bits (registers_of (parts_of l.design)) (parts_of l.design).bits)
    × (l.total ≤ l.place * 2 ^ 23)
