use Rattle.v_fitting.proofs.Items.{items-fit}
use Rattle.v_fitting.proofs.laws.fit_items.Goals as goal

pub returns : goal.returns
returns c = λ source s items objects h. items-fit source s objects items h
