use Rattle.std.proofs.Common.{◌≡◌, ◌≤◌, length}
use Rattle.sat_solve.specs.State.{known_clauses}
use Rattle.sat_solve.specs.Search.{held_of}
use Rattle.sat_solve.proofs.Visits.{IsVisiting}
use Rattle.sat_solve.proofs.watches.visit.Given as goal

abbrev pub invariant-loop-rest : goal.invariant-loop-rest
invariant-loop-rest l = record {
  visiting : IsVisiting l.cnf l.log l.trail (held_of l.cnf l.log l.watches.pairs) l.watches.lists l.watches.head l.code l.rest l.list.items;
  paired : length l.watches.pairs ≡ length (known_clauses l.cnf l.log);
  head : l.watches.head ≡ l.initial.watches.head;
  grown : length l.initial.trail.entries ≤ length l.trail.entries;
}

abbrev pub decreases-loop-rest : goal.decreases-loop-rest
decreases-loop-rest l = l.rest
