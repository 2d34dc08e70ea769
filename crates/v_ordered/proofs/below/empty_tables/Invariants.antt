use Rattle.std.proofs.Common.{◌≡◌, ℕ, List, None, length}
use Rattle.v_ordered.specs.Tables.{number_at}
use Rattle.v_ordered.proofs.below.empty_tables.Given as goal

abbrev pub invariant-loop : goal.invariant-loop
invariant-loop l = record {
  count : length l.tables.items ≡ l.counter;
  empty : (k : ℕ) (n : List ℕ) → number_at l.tables.items k n ≡ None;
}
