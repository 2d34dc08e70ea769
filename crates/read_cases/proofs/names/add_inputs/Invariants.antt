use Rattle.std.proofs.Common.{take}
use Rattle.read_cases.specs.Named.{AreNamesInAll, AreNamesInInput, HasAdded}
use Rattle.read_cases.proofs.names.add_inputs.Given as goal

abbrev pub invariant-loop-input : goal.invariant-loop-input
invariant-loop-input l = HasAdded (AreNamesInAll AreNamesInInput (take l.input-index l.inputs)) l.initial.names.items l.names.items
