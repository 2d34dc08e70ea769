use Rattle.std.proofs.Common.{take}
use Rattle.read_cases.specs.Named.{AreNamesInAll, AreNamesInText, HasAdded}
use Rattle.read_cases.proofs.names.add_texts.Given as goal

abbrev pub invariant-loop-text : goal.invariant-loop-text
invariant-loop-text l = HasAdded (AreNamesInAll AreNamesInText (take l.text-index l.texts)) l.initial.names.items l.names.items
