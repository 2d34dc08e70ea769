use Rattle.std.proofs.Common.{take}
use Rattle.sat_check.specs.Numbering.{Numbers}
use Rattle.sat_check.proofs.numbering.number_all.Given as goal

abbrev pub invariant-loop-lit : goal.invariant-loop-lit
invariant-loop-lit l = Numbers l.variables l.numbers.items (take l.lit-index l.lits)
