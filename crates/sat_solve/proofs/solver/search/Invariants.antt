use Rattle.std.proofs.Common.{◌≤◌, ◌+◌, ◌-◌, ◌*◌, length}
use Rattle.sat_solve.specs.Search.{IsSearch}
use Rattle.sat_solve.proofs.solver.search.Given as goal

abbrev pub invariant-loop-log : goal.invariant-loop-log
invariant-loop-log l = record {
  search : IsSearch l.cnf l.log l.trail l.watches.pairs l.watches.lists l.watches.head;
  within : length l.log ≤ l.budget;
  restarts : l.pace.restarts ≤ length l.log;
}

-- each lemma uses up one of the budget, and allows one restart; between them each decision takes one variable
abbrev pub decreases-loop-log : goal.decreases-loop-log
decreases-loop-log l = ((l.budget - length l.log) + (l.budget - l.pace.restarts)) * (l.cnf.vars + 1) + (l.cnf.vars - length l.trail.entries)
