use Rattle.emitted_map_rules.proofs.Accepted.{none_broken}
use Rattle.emitted_map_rules.proofs.laws.flat_maps_break_none.Goals as goal

pub returns : goal.returns
returns c =
    none_broken c.flat_models_are_emitted.ensures c.emitted_widths_match.ensures c.emitted_memories_match.ensures c.emitted_expressions_are_good.ensures
    c.flat_maps_use_no_input.ensures
