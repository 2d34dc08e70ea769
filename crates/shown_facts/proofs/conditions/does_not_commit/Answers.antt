use Rattle.shown_facts.proofs.Telling.{denied}
use Rattle.shown_facts.proofs.conditions.does_not_commit.Goals as goal

pub returns : goal.returns
returns c = denied c.commits.result _ c.commits.ensures
