use Rattle.std.proofs.Common.{arith}
use Rattle.term_evaluation.proofs.SlotLemmas.{loaded_past}
use Rattle.term_evaluation.proofs.slots.load_in.Goals as goal

pub returns-then-from-address : goal.returns-then-from-address
returns-then-from-address c =
    loaded_past c.args.pool.now c.args.depth c.args.memory c.word_count.result c.args.address c.word_count.ensures (omega arith)
