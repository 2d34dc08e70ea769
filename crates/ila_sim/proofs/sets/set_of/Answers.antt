use Rattle.std.proofs.Common.{◌+◌, ◌∙◌, ap, drop, add-one}
use Rattle.ila_sim.proofs.Words.{from_there}
use Rattle.ila_sim.proofs.Found.{set_of_there}
use Rattle.ila_sim.proofs.sets.set_of.Goals as goal

pub returns-in-Some-clause-set : goal.returns-in-Some-clause-set
returns-in-Some-clause-set c =
    set_of_there c.args.index.now.settables.now c.args.left.now _ c.in-Some.open c.before_bracket-address.result c.args.value _ c.in-Some.ensures.cut
    (from_there c.args.left.now (c.in-Some.open + 1) ∙ ap (λ k. drop k c.args.left.now) (add-one _)) c.before_bracket-address.ensures c.set_named-in-Some.ensures.set
