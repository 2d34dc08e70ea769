use Rattle.map_judged.proofs.Whole.{mismatches_told}
use Rattle.map_judged.proofs.laws.mismatches_are_width_mismatches.Goals as goal

pub returns : goal.returns
returns c = mismatches_told c.a_text_is_read_as_one_expression.ensures
