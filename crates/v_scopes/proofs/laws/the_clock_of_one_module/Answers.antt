use Rattle.v_scopes.proofs.OneClock.{clock_found, clock_alone}
use Rattle.v_scopes.proofs.laws.the_clock_of_one_module.Goals as goal

pub returns : goal.returns
returns c = record { found = clock_found; alone = clock_alone }
