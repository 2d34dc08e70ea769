use Rattle.std.proofs.Common.{◌∙◌, ap}
use Rattle.v_flow.specs.Spans.{bits_in}
use Rattle.v_masks.specs.Masks.{spread}
use Rattle.v_reach.proofs.driver.part_of.Goals as goal

pub returns : goal.returns
returns c = c.in_ok-part.ensures ∙ ap spread (ap bits_in c.deref.ensures.value ∙ c.in_ok-kept.ensures)
