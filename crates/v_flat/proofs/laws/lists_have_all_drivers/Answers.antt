use Rattle.v_flat.proofs.Children.{lists_have_all_drivers}
use Rattle.v_flat.proofs.laws.lists_have_all_drivers.Goals as goal

pub returns : goal.returns
returns c = lists_have_all_drivers
