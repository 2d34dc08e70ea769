use Rattle.std.proofs.Common.{take}
use Rattle.read_cases.specs.Named.{AreNamesInAll, AreNamesInCommit, HasAdded}
use Rattle.read_cases.proofs.names.add_commits.Given as goal

abbrev pub invariant-loop-instruction : goal.invariant-loop-instruction
invariant-loop-instruction l = HasAdded (AreNamesInAll AreNamesInCommit (take l.instruction-index l.instructions)) l.initial.names.items l.names.items
