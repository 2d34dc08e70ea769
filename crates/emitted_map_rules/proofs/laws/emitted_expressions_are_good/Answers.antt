use Rattle.emitted_map_rules.proofs.Expressions.{expressions_are_good}
use Rattle.emitted_map_rules.proofs.laws.emitted_expressions_are_good.Goals as goal

pub returns : goal.returns
returns c = expressions_are_good c.a_text_is_read_as_one_expression.ensures
