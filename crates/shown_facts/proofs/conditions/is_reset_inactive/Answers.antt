use Rattle.shown_facts.proofs.Telling.{denied}
use Rattle.shown_facts.proofs.conditions.is_reset_inactive.Goals as goal

pub returns : goal.returns
returns c = denied c.is_reset_active.result _ c.is_reset_active.ensures
