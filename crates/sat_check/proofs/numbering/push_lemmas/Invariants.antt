use Rattle.std.proofs.Common.{take, map}
use Rattle.sat_check.specs.Numbering.{KeepsAll, HasVariables}
use Rattle.sat_check.proofs.numbering.push_lemmas.Given as goal

abbrev pub invariant-loop-k : goal.invariant-loop-k
invariant-loop-k l = record {
  kept : KeepsAll l.initial.variables.items l.variables.items;
  added : HasVariables l.variables.items (map (λ s. s.lits) (take l.k l.log));
}
