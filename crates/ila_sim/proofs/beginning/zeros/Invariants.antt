use Rattle.std.proofs.Common.{◌≡◌, map, take}
use Rattle.wb_terms.specs.Environment.{as_value}
use Rattle.ila_model.specs.Model.{model_of}
use Rattle.ila_sim.specs.Outcomes.{zero_values}
use Rattle.ila_sim.proofs.beginning.zeros.Given as goal

abbrev pub invariant-loop-place : goal.invariant-loop-place
invariant-loop-place l = map as_value l.zeros.items ≡ take l.place (zero_values (model_of l.model).inputs)
