use Rattle.std.proofs.Common.{◌≡◌, drop}
use Rattle.map_judged.specs.Told.{first_mismatch_from}
use Rattle.map_judged.proofs.width.first_differing.Given as goal

abbrev pub invariant-loop-index : goal.invariant-loop-index
invariant-loop-index l = first_mismatch_from l.known 0 l.expressions ≡ first_mismatch_from l.known l.index (drop l.index l.expressions)
