use Rattle.emitted_map_rules.proofs.Widths.{widths_match}
use Rattle.emitted_map_rules.proofs.laws.emitted_widths_match.Goals as goal

pub returns : goal.returns
returns c = widths_match c.a_text_is_read_as_one_expression.ensures
