use Rattle.std.proofs.Common.{sym, subst}
use Rattle.std.specs.Prelude.{int_lt, int_le}
use Rattle.verilog_meaning.specs.Expression.{integer_from}
use Rattle.v_lower.specs.Deciding.{Decides, compared}
use Rattle.v_lower.proofs.Decisions.{decides, decides_turned, decides_equal, decides_unequal}
use Rattle.v_lower.proofs.deciding.compared.Goals as goal

pub returns-in_ok-id-in-Less-clause-made : goal.returns-in_ok-id-in-Less-clause-made
returns-in_ok-id-in-Less-clause-made c =
    subst (λ o. Decides c.args.terms.now c.is_below.new.terms c.args.left.0 c.args.width c.args.right.0 c.args.width c.in_ok-id-in-Less.id.0 (compared o c.args.signed c.args.width)) (sym c.in-Less.is)
    (decides c.args.terms.now c.is_below.new.terms c.args.left.0 c.args.right.0 c.args.width c.in_ok-id-in-Less.id.0 (λ m n. int_lt (integer_from c.args.signed c.args.width m) (integer_from c.args.signed c.args.width n)) c.in_ok-id-in-Less.ensures.made)

pub returns-in_ok-id-in-LessOrEqual-clause-made : goal.returns-in_ok-id-in-LessOrEqual-clause-made
returns-in_ok-id-in-LessOrEqual-clause-made c =
    subst (λ o. Decides c.args.terms.now c.is_at_most.new.terms c.args.left.0 c.args.width c.args.right.0 c.args.width c.in_ok-id-in-LessOrEqual.id.0 (compared o c.args.signed c.args.width)) (sym c.in-LessOrEqual.is)
    (decides c.args.terms.now c.is_at_most.new.terms c.args.left.0 c.args.right.0 c.args.width c.in_ok-id-in-LessOrEqual.id.0 (λ m n. int_le (integer_from c.args.signed c.args.width m) (integer_from c.args.signed c.args.width n)) c.in_ok-id-in-LessOrEqual.ensures.made)

pub returns-in_ok-id-in-Greater-clause-made : goal.returns-in_ok-id-in-Greater-clause-made
returns-in_ok-id-in-Greater-clause-made c =
    subst (λ o. Decides c.args.terms.now c.is_below-in-Greater.new.terms c.args.left.0 c.args.width c.args.right.0 c.args.width c.in_ok-id-in-Greater.id.0 (compared o c.args.signed c.args.width)) (sym c.in-Greater.is)
    (decides_turned c.args.terms.now c.is_below-in-Greater.new.terms c.args.left.0 c.args.right.0 c.args.width c.in_ok-id-in-Greater.id.0 (λ m n. int_lt (integer_from c.args.signed c.args.width m) (integer_from c.args.signed c.args.width n)) c.in_ok-id-in-Greater.ensures.made)

pub returns-in_ok-id-in-GreaterOrEqual-clause-made : goal.returns-in_ok-id-in-GreaterOrEqual-clause-made
returns-in_ok-id-in-GreaterOrEqual-clause-made c =
    subst (λ o. Decides c.args.terms.now c.is_at_most-in-GreaterOrEqual.new.terms c.args.left.0 c.args.width c.args.right.0 c.args.width c.in_ok-id-in-GreaterOrEqual.id.0 (compared o c.args.signed c.args.width)) (sym c.in-GreaterOrEqual.is)
    (decides_turned c.args.terms.now c.is_at_most-in-GreaterOrEqual.new.terms c.args.left.0 c.args.right.0 c.args.width c.in_ok-id-in-GreaterOrEqual.id.0 (λ m n. int_le (integer_from c.args.signed c.args.width m) (integer_from c.args.signed c.args.width n)) c.in_ok-id-in-GreaterOrEqual.ensures.made)

pub returns-in_ok-id-in-Equal-clause-made : goal.returns-in_ok-id-in-Equal-clause-made
returns-in_ok-id-in-Equal-clause-made c =
    subst (λ o. Decides c.args.terms.now c.is_equal.new.terms c.args.left.0 c.args.width c.args.right.0 c.args.width c.in_ok-id-in-Equal.id.0 (compared o c.args.signed c.args.width)) (sym c.in-Equal.is)
    (decides_equal c.args.signed c.args.terms.now c.is_equal.new.terms c.args.left.0 c.args.right.0 c.args.width c.in_ok-id-in-Equal.id.0 c.in_ok-id-in-Equal.ensures.made)

pub returns-in_ok-id-in-NotEqual-clause-made : goal.returns-in_ok-id-in-NotEqual-clause-made
returns-in_ok-id-in-NotEqual-clause-made c =
    subst (λ o. Decides c.args.terms.now c.differ.new.terms c.args.left.0 c.args.width c.args.right.0 c.args.width c.in_ok-id-in-NotEqual.id.0 (compared o c.args.signed c.args.width)) (sym c.in-NotEqual.is)
    (decides_unequal c.args.signed c.args.terms.now c.differ.new.terms c.args.left.0 c.args.right.0 c.args.width c.in_ok-id-in-NotEqual.id.0 c.in_ok-id-in-NotEqual.ensures.made)
