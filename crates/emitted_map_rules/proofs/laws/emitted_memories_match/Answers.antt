use Rattle.emitted_map_rules.proofs.Memories.{memories_match}
use Rattle.emitted_map_rules.proofs.laws.emitted_memories_match.Goals as goal

pub returns : goal.returns
returns c = memories_match
