use Rattle.std.proofs.Common.{◌≡◌, ℕ, length}
use Rattle.v_places.specs.Views.{spots_of}
use Rattle.v_ordered.specs.Tables.{number_at}
use Rattle.v_ordered.proofs.Entered.{AreBelowUpTo}
use Rattle.v_ordered.proofs.below.tables_below.Given as goal

abbrev pub invariant-loop-number : goal.invariant-loop-number
invariant-loop-number l = record {
  count : length l.tables.items ≡ length l.places;
  below : (k : ℕ) → AreBelowUpTo (spots_of l.places) l.number k (number_at l.tables.items k);
}
