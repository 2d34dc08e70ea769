use Rattle.std.proofs.Common.{All, take}
use Rattle.sat_base.specs.Formula.{SatisfiesClause}
use Rattle.sat_base.proofs.formulas.Assignment.satisfies.Given as goal

abbrev pub invariant-loop-clause : goal.invariant-loop-clause
invariant-loop-clause l = All (SatisfiesClause l.self) (take l.clause-index l.clause-items)
