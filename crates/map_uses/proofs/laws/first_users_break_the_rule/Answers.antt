use Rattle.map_uses.proofs.Whole.{users_told}
use Rattle.map_uses.proofs.laws.first_users_break_the_rule.Goals as goal

pub returns : goal.returns
returns c = users_told c.a_text_is_read_as_one_expression.ensures
