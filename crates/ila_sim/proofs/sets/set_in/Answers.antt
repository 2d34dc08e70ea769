use Rattle.std.proofs.Common.{◌+◌, ◌∙◌, ap, drop, add-one}
use Rattle.ila_sim.proofs.Words.{from_there}
use Rattle.ila_sim.proofs.Found.{set_in_there}
use Rattle.ila_sim.proofs.sets.set_in.Goals as goal

pub returns-in-Some-clause-set : goal.returns-in-Some-clause-set
returns-in-Some-clause-set c =
    set_in_there c.args.index.now.settables.now c.args.text.now _ c.in-Some.equals c.number_in.result _ c.in-Some.ensures.cut
    (from_there c.args.text.now (c.in-Some.equals + 1) ∙ ap (λ k. drop k c.args.text.now) (add-one _)) c.number_in.ensures c.set_of.ensures.set
