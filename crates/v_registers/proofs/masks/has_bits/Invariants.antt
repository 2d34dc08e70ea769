use Rattle.std.proofs.Common.{◌≡◌, drop}
use Rattle.v_registers.specs.Masks.{has_bits}
use Rattle.v_registers.proofs.masks.has_bits.Given as goal

abbrev pub invariant-loop-mask : goal.invariant-loop-mask
invariant-loop-mask l = has_bits l.masks ≡ has_bits (drop l.mask-index l.masks)
