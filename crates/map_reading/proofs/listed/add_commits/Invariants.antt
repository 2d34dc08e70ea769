use Rattle.std.proofs.Common.{take}
use Rattle.map_reading.specs.Listed.{IsMore, all_asked, commit_asked}
use Rattle.map_reading.proofs.listed.add_commits.Given as goal

abbrev pub invariant-loop-index : goal.invariant-loop-index
invariant-loop-index l = IsMore l.initial.list.items l.list.items (all_asked commit_asked (take l.index l.trees))
