use Rattle.std.proofs.Common.{take}
use Rattle.map_reading.specs.Listed.{IsMore, all_asked, input_asked}
use Rattle.map_reading.proofs.listed.add_inputs.Given as goal

abbrev pub invariant-loop-index : goal.invariant-loop-index
invariant-loop-index l = IsMore l.initial.list.items l.list.items (all_asked (input_asked l.sorts) (take l.index l.trees))
