use Rattle.v_paths.proofs.Alone.{latches}
use Rattle.v_paths.proofs.laws.latches_of_one_module.Goals as goal

pub returns : goal.returns
returns c = λ d m h e. latches d m h e
