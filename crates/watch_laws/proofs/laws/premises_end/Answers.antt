use Rattle.watch_laws.proofs.Deciding.{premise_end}
use Rattle.watch_laws.proofs.laws.premises_end.Goals as goal

pub returns : goal.returns
returns c = λ s run cycles t le before. premise_end s run cycles t le before
