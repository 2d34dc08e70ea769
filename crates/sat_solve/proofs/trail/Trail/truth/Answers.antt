use Rattle.std.proofs.Common.{reverse, length}
use Rattle.sat_solve.proofs.TruthLemmas.{truth_got}
use Rattle.sat_solve.proofs.trail.Trail.truth.Goals as goal

pub returns-in-Some : goal.returns-in-Some
returns-in-Some c = rw (← c.self.view_is) (truth_got (reverse c.self.inside.entries.items) (length c.self.inside.signs.items) c.self.inside.truths.items c.deref.result.now c.args.code c.get.result c.in-Some.truth c.deref.ensures.value c.in-Some.is c.get.ensures.lookup.3 c.self.invariant.1)
