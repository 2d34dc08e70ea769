use Rattle.flat_designs.proofs.Depending.{bits_depend_on_the_same}
use Rattle.flat_designs.proofs.laws.bits_depend_on_the_same_bits.Goals as goal

pub returns : goal.returns
returns c = record { depend = bits_depend_on_the_same }
