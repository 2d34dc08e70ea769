use Rattle.v_paths.proofs.Named.{no-memory-named}
use Rattle.v_paths.proofs.laws.memories_by_names.Goals as goal

pub returns : goal.returns
returns c = no-memory-named
