use Rattle.flat_drivers.proofs.Reading.{bits_are_read_the_same, undriven_bits_are_the_same}
use Rattle.flat_drivers.proofs.laws.flat_drivers_read_the_same_bits.Goals as goal

pub returns : goal.returns
returns c = record { read = bits_are_read_the_same; undriven = undriven_bits_are_the_same }
