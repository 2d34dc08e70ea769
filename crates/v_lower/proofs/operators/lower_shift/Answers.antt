use Rattle.std.proofs.Common.{sym, subst, refl}
use Rattle.wb_values.specs.Number.{word_shl, word_lshr}
use Rattle.verilog_trees.specs.Syntax as pure
use Rattle.verilog_meaning.specs.Expression.{shift_value}
use Rattle.v_syntax.specs.Tree.{combined}
use Rattle.v_lower.specs.Lowered.{IsLowered}
use Rattle.v_lower.proofs.Lowering.{shift_lowered}
use Rattle.v_lower.proofs.operators.lower_shift.Goals as goal

pub returns-in_ok-id-in-ShiftLeft-clause-lowered : goal.returns-in_ok-id-in-ShiftLeft-clause-lowered
returns-in_ok-id-in-ShiftLeft-clause-lowered c s im x y known l o =
    subst (λ q. IsLowered s im c.shifted_left.new.terms (combined q x y) c.args.width c.args.signed c.in_ok-id-in-ShiftLeft.id.0) (sym c.in-ShiftLeft.is)
    (shift_lowered s im c.args.terms.now c.shifted_left.new.terms c.in_ok-id-in-ShiftLeft.ensures.grows known pure.left x y c.args.width c.args.count_width c.args.signed c.args.operand.0 c.args.count.0 c.in_ok-id-in-ShiftLeft.id.0 (word_shl c.args.width) (λ m n. refl) l o c.in_ok-id-in-ShiftLeft.ensures.made)

pub returns-in_ok-id-in-ShiftRight-clause-lowered : goal.returns-in_ok-id-in-ShiftRight-clause-lowered
returns-in_ok-id-in-ShiftRight-clause-lowered c s im x y known l o =
    subst (λ q. IsLowered s im c.shifted_right.new.terms (combined q x y) c.args.width c.args.signed c.in_ok-id-in-ShiftRight.id.0) (sym c.in-ShiftRight.is)
    (shift_lowered s im c.args.terms.now c.shifted_right.new.terms c.in_ok-id-in-ShiftRight.ensures.grows known pure.right x y c.args.width c.args.count_width c.args.signed c.args.operand.0 c.args.count.0 c.in_ok-id-in-ShiftRight.id.0 (word_lshr c.args.width) (λ m n. refl) l o c.in_ok-id-in-ShiftRight.ensures.made)

pub returns-in_ok-id-in-ArithmeticShiftRight-clause-lowered : goal.returns-in_ok-id-in-ArithmeticShiftRight-clause-lowered
returns-in_ok-id-in-ArithmeticShiftRight-clause-lowered c s im x y known l o =
    subst (λ q. IsLowered s im c.shift_by_sign.new.terms (combined q x y) c.args.width c.args.signed c.in_ok-id-in-ArithmeticShiftRight.id.0) (sym c.in-ArithmeticShiftRight.is)
    (shift_lowered s im c.args.terms.now c.shift_by_sign.new.terms c.in_ok-id-in-ArithmeticShiftRight.ensures.grows known pure.arithmetic_right x y c.args.width c.args.count_width c.args.signed c.args.operand.0 c.args.count.0 c.in_ok-id-in-ArithmeticShiftRight.id.0 (shift_value pure.arithmetic_right c.args.width c.args.signed) (λ m n. refl) l o c.in_ok-id-in-ArithmeticShiftRight.ensures.made)
