use Rattle.design_cycles.proofs.Reading.{one_text}
use Rattle.design_cycles.proofs.laws.a_script_has_one_text.Goals as goal

pub returns : goal.returns
returns c = one_text
