use Rattle.flat_designs.proofs.Driven.{bits_are_driven_the_same}
use Rattle.flat_designs.proofs.laws.flat_drivers_drive_the_same_bits.Goals as goal

pub returns : goal.returns
returns c = record { driven = bits_are_driven_the_same }
