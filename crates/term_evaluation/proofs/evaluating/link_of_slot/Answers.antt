use Rattle.term_evaluation.proofs.SlotLemmas.{slot_link, other_slot}
use Rattle.term_evaluation.proofs.evaluating.link_of_slot.Goals as goal

pub returns-in-Memory : goal.returns-in-Memory
returns-in-Memory c = slot_link c.args.pool.now c.args.slot c.in-Memory.field-0 c.in-Memory.memory c.requires c.in-Memory.is

pub returns-in_default : goal.returns-in_default
returns-in_default c = other_slot c.args.pool.now c.args.slot c.zeros.result c.in_default.not-Memory
