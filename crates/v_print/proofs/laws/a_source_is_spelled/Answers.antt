use Rattle.v_print.proofs.Items.{source_spelled}
use Rattle.v_print.proofs.laws.a_source_is_spelled.Goals as goal

pub returns : goal.returns
returns c = source_spelled
