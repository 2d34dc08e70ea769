use Rattle.v_registers.proofs.ByNames.{other_kept}
use Rattle.v_registers.proofs.groups.taken.Goals as goal

pub returns-in-Some-clause-others : goal.returns-in-Some-clause-others
returns-in-Some-clause-others c = other_kept c.args.table.now c.remove.new.self c.args.name.now c.remove.ensures.updates
