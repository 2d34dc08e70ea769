use Rattle.std.proofs.Common.{◌≤◌, ◌-◌, length}
use Rattle.sat_solve.specs.Search.{IsSearch}
use Rattle.sat_solve.proofs.watches.propagate.Given as goal

abbrev pub invariant-loop-watches : goal.invariant-loop-watches
invariant-loop-watches l = record {
  search : IsSearch l.cnf l.log l.trail l.watches.pairs l.watches.lists l.watches.head;
  grown : length l.initial.trail.entries ≤ length l.trail.entries;
}

abbrev pub decreases-loop-watches : goal.decreases-loop-watches
decreases-loop-watches l = l.cnf.vars - l.watches.head
