use Rattle.v_settle.proofs.Alone.{one-driver-of-accepted, no-memory}
use Rattle.v_settle.proofs.laws.an_accepted_module_has_one_driver_for_a_bit.Goals as goal

pub returns : goal.returns
returns c = record { one_driver = one-driver-of-accepted; parameters = no-memory }
