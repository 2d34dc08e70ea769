use Rattle.std.proofs.Common.{◌≡◌, drop}
use Rattle.v_value.specs.Links.{has_reduction}
use Rattle.v_lower.proofs.steps.reduces.Given as goal

abbrev pub invariant-loop-operator : goal.invariant-loop-operator
invariant-loop-operator l = has_reduction l.operators ≡ has_reduction (drop l.operator-index l.operators)
