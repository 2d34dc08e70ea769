use Rattle.std.proofs.Common.{◌≡◌, take}
use Rattle.sparse_memories.specs.Memories.{Keeps}
use Rattle.sparse_memories.specs.Copying.{AreCopies}
use Rattle.term_evaluation.specs.Slots.{values_in, AreSlotsOf}
use Rattle.term_evaluation.proofs.slots.copy_slots.Given as goal

abbrev pub invariant-loop-k : goal.invariant-loop-k
invariant-loop-k l = record {
  slots : AreSlotsOf l.to l.copied.items;
  values : values_in l.to l.copied.items ≡ take l.k (values_in l.from l.slots.items);
  keeps : Keeps l.initial.to l.to;
  copies : AreCopies l.copies l.from.nodes l.to.nodes;
}
