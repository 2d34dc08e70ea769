use Rattle.std.proofs.Common.{◌≡◌, map, take}
use Rattle.v_design.specs.Seen.{parts_of}
use Rattle.ila_sim.specs.Names.{settable_of}
use Rattle.v_sim.specs.Names.{names_by}
use Rattle.v_sim.proofs.naming.inputs.Given as goal

abbrev pub invariant-loop-place : goal.invariant-loop-place
invariant-loop-place l = map settable_of l.inputs.items ≡ take l.place (names_by (parts_of l.design)).inputs
