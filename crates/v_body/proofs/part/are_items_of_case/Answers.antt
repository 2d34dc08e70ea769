use Rattle.std.proofs.Common.{◌∙◌}
use Rattle.v_body.specs.View.{item_of}
use Rattle.v_body.proofs.Few.{few_of_list}
use Rattle.v_body.proofs.part.are_items_of_case.Goals as goal

pub returns-in-len1-up : goal.returns-in-len1-up
returns-in-len1-up c = c.has_few_defaults.ensures ∙ few_of_list item_of c.args.items.now c.in-len1-up.len_at_least
