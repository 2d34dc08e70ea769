use Rattle.v_expr.proofs.Digits.{mask_below}
use Rattle.v_expr.proofs.number.above.Goals as goal

pub overflow_sub-result : goal.overflow_sub-result
overflow_sub-result c = rw (c.mask.ensures, c.mask-then-begins_with_z.ensures, c.min.ensures) (mask_below c.bits_of.result c.args.width)
