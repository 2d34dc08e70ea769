use Rattle.std.proofs.Common.{◌≡◌, drop, map}
use Rattle.wb_values.specs.Value.{number}
use Rattle.ila_sim.specs.Outcomes.{with_all}
use Rattle.v_sim.proofs.beginning.set_numbers.Given as goal

abbrev pub invariant-loop-one : goal.invariant-loop-one
invariant-loop-one l = with_all (map number l.numbers) (drop l.one-index l.sets) ≡ with_all (map number l.initial.numbers) l.sets
