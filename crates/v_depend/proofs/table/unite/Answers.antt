use Rattle.std.proofs.Common.{◌∙◌}
use Rattle.v_depend.proofs.Uniting.{united}
use Rattle.v_depend.proofs.table.unite.Goals as goal

pub returns : goal.returns
returns c = united c.args.from.now c.deref.result.now _ _ (c.deref.ensures.value ∙ c.in_ok-entries.ensures) c.in_ok-add_names.ensures
