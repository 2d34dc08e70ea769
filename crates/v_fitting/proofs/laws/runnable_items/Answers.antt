use Rattle.v_fitting.proofs.Items.{items-runnable}
use Rattle.v_fitting.proofs.laws.runnable_items.Goals as goal

pub returns : goal.returns
returns c = λ source s items objects w h. items-runnable source s objects items w h
