use Rattle.std.proofs.Common.{take}
use Rattle.sat_check.specs.Numbering.{KeepsAll, HasVariables}
use Rattle.sat_check.proofs.numbering.push_clauses.Given as goal

abbrev pub invariant-loop-clause : goal.invariant-loop-clause
invariant-loop-clause l = record {
  kept : KeepsAll l.initial.variables.items l.variables.items;
  added : HasVariables l.variables.items (take l.clause-index l.clauses);
}
