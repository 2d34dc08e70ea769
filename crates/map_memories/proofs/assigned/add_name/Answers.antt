use Rattle.std.proofs.Common.{sym, ◌∙◌}
use Rattle.map_memories.proofs.Bits.{name_added}
use Rattle.map_memories.proofs.assigned.add_name.Goals as goal

pub returns-in_ok-insert : goal.returns-in_ok-insert
returns-in_ok-insert c = λ q.
    name_added c.args.span c.args.names.now c.insert.new.self q (sym c.has_bits.ensures ∙ c.if-has_bits.true) c.in_ok-insert.ensures.updates
