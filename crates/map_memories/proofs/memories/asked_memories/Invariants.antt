use Rattle.std.proofs.Common.{map, take}
use Rattle.v_places.specs.Views.{spot_of}
use Rattle.map_memories.specs.Memories.{HaveMemories}
use Rattle.map_memories.proofs.memories.asked_memories.Given as goal

abbrev pub invariant-loop-number : goal.invariant-loop-number
invariant-loop-number l = HaveMemories (map spot_of (take l.number l.places)) l.list.items
