use Rattle.sat_solve.specs.Search.{IsLoaded}
use Rattle.sat_solve.proofs.watches.load.Given as goal

abbrev pub invariant-loop-number : goal.invariant-loop-number
invariant-loop-number l = IsLoaded l.cnf l.trail l.watches.pairs l.watches.lists l.watches.head l.number
