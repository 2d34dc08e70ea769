use Rattle.std.proofs.Common.{◌≡◌, ◌*◌, ◌^◌, ◌%◌}
use Rattle.v_value.proofs.arithmetic.power.Given as goal

abbrev pub invariant-loop-left : goal.invariant-loop-left
invariant-loop-left l = l.fn.base ^ l.fn.exponent % 2 ^ 128 ≡ l.product * l.square ^ l.left % 2 ^ 128

abbrev pub decreases-loop-left : goal.decreases-loop-left
decreases-loop-left l = l.left
