use Rattle.std.proofs.Common.{take}
use Rattle.sat_check.specs.Numbering.{AddsNumbered}
use Rattle.sat_check.proofs.numbering.add_clauses.Given as goal

abbrev pub invariant-loop-clause : goal.invariant-loop-clause
invariant-loop-clause l = AddsNumbered l.variables l.initial.arena l.arena (take l.clause-index l.clauses)
