use Rattle.map_judged.proofs.Whole.{flaws_told}
use Rattle.map_judged.proofs.laws.flaws_are_bad_expressions.Goals as goal

pub returns : goal.returns
returns c = flaws_told c.a_text_is_read_as_one_expression.ensures
