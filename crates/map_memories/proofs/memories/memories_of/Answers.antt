use Rattle.v_value.specs.Narrow.{HasNarrowObjects}
use Rattle.map_memories.proofs.Numbers.{asked_of}
use Rattle.map_memories.proofs.memories.memories_of.Goals as goal

pub assigned_names-requires-clause-objects : goal.assigned_names-requires-clause-objects
assigned_names-requires-clause-objects c = asked_of (λ s xs. HasNarrowObjects s) _ _ c.in_ok-scope.ensures _ _ c.items_of.ensures c.requires.0

pub invariant_of-result : goal.invariant_of-result
invariant_of-result c = record { narrow = asked_of (λ s xs. HasNarrowObjects s) _ _ c.in_ok-scope.ensures _ _ c.items_of.ensures c.requires.0 }
