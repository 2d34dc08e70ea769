use Rattle.std.proofs.Common.{◌∙◌}
use Rattle.ila_sim.proofs.Found.{within_of}
use Rattle.ila_sim.proofs.index.place_of.Goals as goal

pub returns-clause-within : goal.returns-clause-within
returns-clause-within c =
    within_of c.args.index.now.settables.now c.args.name.now c.copied.result (c.copied.ensures ∙ (c.get.ensures.value ∙ c.args.index.now.finds c.args.name.now))
