use Rattle.design_cycles.proofs.Reading.{one_reading}
use Rattle.design_cycles.proofs.laws.a_script_is_read_in_one_way.Goals as goal

pub returns : goal.returns
returns c = one_reading
