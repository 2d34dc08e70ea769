use Rattle.v_fitting.proofs.Items.{items-narrow}
use Rattle.v_fitting.proofs.laws.narrow_items.Goals as goal

pub returns : goal.returns
returns c = λ source s items objects h. items-narrow source s objects items h
