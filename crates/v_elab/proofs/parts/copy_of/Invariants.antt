use Rattle.std.proofs.Common.{◌≡◌, take}
use Rattle.v_elab.proofs.parts.copy_of.Given as goal

abbrev pub invariant-loop-mask : goal.invariant-loop-mask
invariant-loop-mask l = l.copy.items ≡ take l.mask-index l.masks
