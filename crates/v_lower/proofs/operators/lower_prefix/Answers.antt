use Rattle.std.proofs.Common.{sym, subst}
use Rattle.v_syntax.specs.Tree.{prefixed}
use Rattle.v_operators.proofs.Growing.{Grows-refl}
use Rattle.v_lower.specs.Lowered.{IsLowered}
use Rattle.v_lower.proofs.Lowering.{plus_lowered, minus_lowered, complement_lowered}
use Rattle.v_lower.proofs.operators.lower_prefix.Goals as goal

pub returns-in-Plus-clause-lowered : goal.returns-in-Plus-clause-lowered
returns-in-Plus-clause-lowered c s im x t known l =
    subst (λ o. IsLowered s im c.args.terms.now (prefixed o x) c.args.width t c.args.operand.0) (sym c.in-Plus.is)
    (plus_lowered s im c.args.terms.now c.args.terms.now (Grows-refl c.args.terms.now) known x c.args.width t c.args.operand.0 l)

pub returns-in_ok-id-in-Minus-clause-lowered : goal.returns-in_ok-id-in-Minus-clause-lowered
returns-in_ok-id-in-Minus-clause-lowered c s im x t known l =
    subst (λ o. IsLowered s im c.negated.new.terms (prefixed o x) c.args.width t c.in_ok-id-in-Minus.id.0) (sym c.in-Minus.is)
    (minus_lowered s im c.args.terms.now c.negated.new.terms c.in_ok-id-in-Minus.ensures.grows known x c.args.width t c.args.operand.0 c.in_ok-id-in-Minus.id.0 l c.in_ok-id-in-Minus.ensures.made)

pub returns-in_ok-id-in-Complement-clause-lowered : goal.returns-in_ok-id-in-Complement-clause-lowered
returns-in_ok-id-in-Complement-clause-lowered c s im x t known l =
    subst (λ o. IsLowered s im c.complement.new.terms (prefixed o x) c.args.width t c.in_ok-id-in-Complement.id.0) (sym c.in-Complement.is)
    (complement_lowered s im c.args.terms.now c.complement.new.terms c.in_ok-id-in-Complement.ensures.grows known x c.args.width t c.args.operand.0 c.in_ok-id-in-Complement.id.0 l c.in_ok-id-in-Complement.ensures.made)

pub returns-in-Plus-clause-grows : goal.returns-in-Plus-clause-grows
returns-in-Plus-clause-grows c = Grows-refl c.args.terms.now
