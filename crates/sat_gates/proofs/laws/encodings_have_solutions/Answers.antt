use Rattle.sat_gates.proofs.Solved.{has_solutions}
use Rattle.sat_gates.proofs.laws.encodings_have_solutions.Goals as goal

pub returns : goal.returns
returns c = λ f m t e. has_solutions f m t e
