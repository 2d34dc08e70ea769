use Rattle.std.proofs.Common.{◌≡◌, ◌≤◌}
use Rattle.wb_terms.specs.Environment.{value_of}
use Rattle.v_cycle.specs.Changing.{stored_by}
use Rattle.v_cycle.proofs.chain.note_chain.Given as goal

abbrev pub invariant-loop-base : goal.invariant-loop-base
invariant-loop-base l = record {
  earlier : l.memory.0 ≤ l.fn.id.0;
  chain : value_of l.terms l.env l.fn.id.0 ≡ stored_by (value_of l.terms l.env l.memory.0) l.changes.chain.items;
  list : l.changes.list ≡ l.fn.changes.list;
  complete : l.changes.is_complete ≡ l.fn.changes.is_complete;
}

abbrev pub decreases-loop-base : goal.decreases-loop-base
decreases-loop-base l = l.memory.0
