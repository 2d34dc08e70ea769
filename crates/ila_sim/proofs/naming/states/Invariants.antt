use Rattle.std.proofs.Common.{◌≡◌, map, take}
use Rattle.scripts.specs.Script.{settables_of}
use Rattle.ila_model.specs.Model.{model_of}
use Rattle.ila_sim.specs.Names.{settable_of}
use Rattle.ila_sim.proofs.naming.states.Given as goal

abbrev pub invariant-loop-place : goal.invariant-loop-place
invariant-loop-place l = map settable_of l.states.items ≡ take l.place (settables_of (model_of l.model)).states
