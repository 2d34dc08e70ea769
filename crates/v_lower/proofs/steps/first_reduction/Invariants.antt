use Rattle.std.proofs.Common.{◌≡◌, false, take}
use Rattle.v_value.specs.Links.{has_reduction}
use Rattle.v_lower.proofs.steps.first_reduction.Given as goal

abbrev pub invariant-loop-i : goal.invariant-loop-i
invariant-loop-i l = has_reduction (take l.i l.operators) ≡ false
