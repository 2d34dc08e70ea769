use Rattle.std.proofs.Common.{refl}
use Rattle.ila_sim.proofs.Found.{is_at, is_nowhere, set_there, right_there}
use Rattle.ila_sim.proofs.sets.set_named.Goals as goal

pub returns-in-Some-clause-set : goal.returns-in-Some-clause-set
returns-in-Some-clause-set c =
    set_there c.args.index.now.settables.now c.args.name.now c.in-Some.place _ c.args.address c.args.value c.fitting.result
    (is_at c.args.index.now.settables.now c.args.name.now c.in-Some.place c.in-Some.ensures.place) c.fitting.ensures.set c.fitting.ensures.place

pub returns-in-Some-clause-right : goal.returns-in-Some-clause-right
returns-in-Some-clause-right c =
    right_there c.args.index.now.settables.now c.in-Some.place _ c.fitting.result c.in-Some.ensures.within c.fitting.ensures.place c.fitting.ensures.right

pub returns-in-None-clause-set : goal.returns-in-None-clause-set
returns-in-None-clause-set c = rw (is_nowhere c.args.index.now.settables.now c.args.name.now c.in-None.ensures.place) refl
