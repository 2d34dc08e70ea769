use Rattle.place_kinds.proofs.Flat.{flat_designs_are_ready, undriven_bits_are_flat, loops_are_flat}
use Rattle.place_kinds.proofs.laws.flat_kinds_are_kinds_of_the_design.Goals as goal

pub returns : goal.returns
returns c = record { ready = flat_designs_are_ready; undriven = undriven_bits_are_flat; loops = loops_are_flat }
