use Rattle.map_inputs.proofs.Coming.{comes-the-same}
use Rattle.map_inputs.proofs.laws.bits_come_the_same.Goals as goal

pub returns : goal.returns
returns c = λ d f s items names p u h at named there. comes-the-same c.bits_depend_on_the_same_bits.ensures.depend d f s items names h p u at named there
