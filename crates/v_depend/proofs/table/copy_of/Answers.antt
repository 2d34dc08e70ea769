use Rattle.v_masks.specs.Masks.{masked}
use Rattle.v_depend.proofs.Uniting.{from-none}
use Rattle.v_depend.proofs.table.copy_of.Goals as goal

pub returns : goal.returns
returns c = from-none c.new-copy.result _ (masked c.args.table.now) c.new-copy.ensures.empty c.in_ok-unite.ensures
