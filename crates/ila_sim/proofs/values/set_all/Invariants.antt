use Rattle.std.proofs.Common.{◌≡◌, drop, map}
use Rattle.wb_terms.specs.Environment.{as_value}
use Rattle.ila_sim.specs.Outcomes.{with_all}
use Rattle.ila_sim.proofs.values.set_all.Given as goal

abbrev pub invariant-loop-one : goal.invariant-loop-one
invariant-loop-one l = with_all (map as_value l.values.items) (drop l.one-index l.sets) ≡ with_all (map as_value l.initial.values.items) l.sets
