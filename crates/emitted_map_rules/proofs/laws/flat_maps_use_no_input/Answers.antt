use Rattle.emitted_map_rules.proofs.Inputs.{maps_use_no_input}
use Rattle.emitted_map_rules.proofs.laws.flat_maps_use_no_input.Goals as goal

pub returns : goal.returns
returns c = maps_use_no_input c.a_text_is_read_as_one_expression.ensures
