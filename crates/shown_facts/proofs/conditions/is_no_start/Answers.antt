use Rattle.shown_facts.proofs.Telling.{denied}
use Rattle.shown_facts.proofs.conditions.is_no_start.Goals as goal

pub returns : goal.returns
returns c = denied c.is_start.result _ c.is_start.ensures
