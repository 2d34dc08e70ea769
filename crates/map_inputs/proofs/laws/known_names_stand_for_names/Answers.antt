use Rattle.map_inputs.proofs.Dotted.{stands-somewhere}
use Rattle.map_inputs.proofs.laws.known_names_stand_for_names.Goals as goal

pub returns : goal.returns
returns c = λ d n h. stands-somewhere d n h
