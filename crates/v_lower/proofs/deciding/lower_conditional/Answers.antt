use Rattle.wb_values.specs.Value.{word}
use Rattle.v_operators.proofs.Growing.{IsOfSort-kept}
use Rattle.v_lower.proofs.Decisions.{conditional_lowered}
use Rattle.v_lower.proofs.deciding.lower_conditional.Goals as goal

pub choice-requires-clause-chosen : goal.choice-requires-clause-chosen
choice-requires-clause-chosen c = IsOfSort-kept c.args.chosen.0 (word c.args.width) c.in_ok-holds.ensures.grows c.requires.chosen

pub choice-requires-clause-other : goal.choice-requires-clause-other
choice-requires-clause-other c = IsOfSort-kept c.args.other.0 (word c.args.width) c.in_ok-holds.ensures.grows c.requires.other

pub returns-clause-lowered : goal.returns-clause-lowered
returns-clause-lowered c s im x y z t known l m n =
    conditional_lowered s im c.args.terms.now c.is_nonzero.new.terms c.choice.new.terms c.in_ok-holds.ensures.grows c.in_ok-id.ensures.grows known x y z c.args.condition_width c.args.width t c.args.condition.0 c.args.chosen.0 c.args.other.0
    c.in_ok-holds.holds.0 c.in_ok-id.id.0 l m n c.in_ok-holds.ensures.made c.in_ok-id.ensures.made
