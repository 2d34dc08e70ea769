use Rattle.std.proofs.Common.{◌≡◌, ◌+◌, drop}
use Rattle.v_write.specs.Parts.{counts}
use Rattle.v_write.proofs.preparing.width_of_parts.Given as goal

abbrev pub invariant-loop-part : goal.invariant-loop-part
invariant-loop-part l = counts l.parts ≡ l.width + counts (drop l.part-index l.parts)
