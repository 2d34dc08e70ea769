use Rattle.std.proofs.Common.{arith}
use Rattle.term_evaluation.proofs.SlotLemmas.{keeps_same, keeps_then, memory_over, stored_past, stored_over}
use Rattle.term_evaluation.proofs.slots.store_in.Goals as goal

pub returns-then-from-address-clause-words : goal.returns-then-from-address-clause-words
returns-then-from-address-clause-words c =
    stored_past c.args.pool.now c.args.depth c.args.memory c.word_count.result c.args.address c.args.word c.word_count.ensures (omega arith)

pub returns-in_err-reserve-clause-keeps : goal.returns-in_err-reserve-clause-keeps
returns-in_err-reserve-clause-keeps c = keeps_same c.args.pool.now c.reserve.new.self c.in_err-reserve.ensures.nodes

pub store-requires-clause-memory : goal.store-requires-clause-memory
store-requires-clause-memory c = memory_over c.args.pool.now c.reserve.new.self c.args.depth c.args.memory c.in_ok-reserve.ensures.nodes c.requires.memory

pub returns-clause-words : goal.returns-clause-words
returns-clause-words c =
    stored_over c.args.pool.now c.reserve.new.self c.store.new.self c.args.depth c.args.memory c.store.result c.args.address c.args.word c.in_ok-reserve.ensures.nodes c.store.ensures.words

pub returns-clause-keeps : goal.returns-clause-keeps
returns-clause-keeps c =
    keeps_then c.args.pool.now c.reserve.new.self c.store.new.self (keeps_same c.args.pool.now c.reserve.new.self c.in_ok-reserve.ensures.nodes) c.store.ensures.keeps
