use Rattle.map_expressions.proofs.Readings.{one_reading}
use Rattle.map_expressions.proofs.laws.a_text_is_read_as_one_expression.Goals as goal

pub returns : goal.returns
returns c = one_reading
