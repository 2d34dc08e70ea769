use Rattle.trace_reading.proofs.Turns.{other_length}
use Rattle.trace_reading.proofs.fitting.all_keep_to.Goals as goal

pub returns-then-masks-items : goal.returns-then-masks-items
returns-then-masks-items c = other_length c.args.masks.now c.args.items.now c.if-masks-items.true
