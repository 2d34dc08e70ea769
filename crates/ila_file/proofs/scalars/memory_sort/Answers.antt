use Rattle.ila_file.proofs.Operations.{no_memory_below, no_memory_above}
use Rattle.ila_file.proofs.scalars.memory_sort.Goals as goal

pub returns-in_default : goal.returns-in_default
returns-in_default c = no_memory_below c.args.items.now c.in_default.len_below

pub returns-in_default-2 : goal.returns-in_default-2
returns-in_default-2 c = no_memory_above c.args.items.now c.in_default.len_at_least
