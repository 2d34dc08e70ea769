use Rattle.std.proofs.Common.{◌≡◌, map, take}
use Rattle.wb_terms.specs.Environment.{as_value}
use Rattle.v_design.specs.Seen.{parts_of}
use Rattle.v_design.specs.Parts.{registers_of}
use Rattle.v_sim.specs.Texts.{zeros}
use Rattle.v_sim.proofs.beginning.zeros.Given as goal

abbrev pub invariant-loop-place : goal.invariant-loop-place
invariant-loop-place l = map as_value l.zeros.items ≡ take l.place (zeros (registers_of (parts_of l.design)))
