use Rattle.std.proofs.Common.{◌≡◌, length}
use Rattle.sparse_memories.specs.Memories.{Keeps}
use Rattle.term_evaluation.specs.Slots.{values_in, AreSlotsOf}
use Rattle.term_evaluation.specs.Pending.{AreNotAfter, ArePending, IsFor, work_left, AreKept}
use Rattle.term_evaluation.proofs.evaluating.fill_term.Given as goal

abbrev pub invariant-loop-words : goal.invariant-loop-words
invariant-loop-words l = record {
  slots : AreSlotsOf l.pool l.names;
  values : values_in l.pool l.names ≡ values_in l.initial.pool l.names;
  keeps : Keeps l.initial.pool l.pool;
  kept : AreKept l.terms (values_in l.initial.pool l.names) l.pool l.words l.links l.stamps l.time;
  pending : ArePending l.stamps l.time (length l.terms.nodes) l.pending.items;
  first : IsFor l.stamps l.time l.fn.id.0 l.pending.items;
  past : AreNotAfter l.time l.initial.stamps → AreNotAfter l.time l.stamps;
}

abbrev pub decreases-loop-words : goal.decreases-loop-words
decreases-loop-words l = work_left l.stamps l.time (length l.terms.nodes) l.pending.items
