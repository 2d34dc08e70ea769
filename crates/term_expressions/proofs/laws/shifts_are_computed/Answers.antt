use Rattle.term_expressions.proofs.Shifts.{shift_left_is_shl, shift_right_is_lshr, arithmetic_shift_is_ashr}
use Rattle.term_expressions.proofs.laws.shifts_are_computed.Goals as goal

pub returns : goal.returns
returns c = record { left = shift_left_is_shl; right = shift_right_is_lshr; arithmetic = arithmetic_shift_is_ashr }
