use Rattle.std.proofs.Common.{refl}
use Rattle.v_syntax.specs.Tree.{number_of}
use Rattle.v_lower.proofs.Decisions.{number_lowered}
use Rattle.v_lower.proofs.parts.lower_number.Goals as goal

pub returns-clause-lowered : goal.returns-clause-lowered
returns-clause-lowered c s im =
    number_lowered s im c.constant.new.terms c.widened.new.terms (number_of c.args.digits) c.args.digits.width c.args.width c.args.digits.value c.args.signed c.in_ok-value.value.0 c.in_ok-id.id.0 refl refl
    c.in_ok-value.ensures.value c.in_ok-id.ensures.made
