use Rattle.std.proofs.Common.{All, take}
use Rattle.sat_base.specs.Formula.{IsClauseOver}
use Rattle.sat_base.proofs.formulas.first_unknown.Given as goal

abbrev pub invariant-loop-i : goal.invariant-loop-i
invariant-loop-i l = All (IsClauseOver l.vars) (take l.i l.clauses)
