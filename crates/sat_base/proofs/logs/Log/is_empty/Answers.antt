use Rattle.sat_base.specs.Steps.{lemma_in}
use Rattle.sat_base.proofs.StepLemmas.{empty_map}
use Rattle.sat_base.proofs.logs.Log.is_empty.Goals as goal

pub returns : goal.returns
returns c = empty_map (lemma_in c.self.inside.codes.items c.self.inside.hints.items) c.self.inside.steps.items c.args.self.now c.is_empty.result _ c.self.view_is c.self.inside.steps.ok.0 c.is_empty.ensures
