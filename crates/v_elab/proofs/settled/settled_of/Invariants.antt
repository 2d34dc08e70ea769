use Rattle.std.proofs.Common.{◌≡◌, ℕ, length, map}
use Rattle.v_value.specs.Scope.{scope_at}
use Rattle.v_places.specs.Views.{spots_of}
use Rattle.v_flat.specs.Views.{names_in}
use Rattle.v_lower.specs.Table.{images_at}
use Rattle.v_design.specs.Table.{place_in}
use Rattle.v_elab.specs.Settled.{HaveOwnTerms}
use Rattle.v_elab.proofs.PutBelow.{AreBelowUpTo}
use Rattle.v_elab.proofs.settled.settled_of.Given as goal

abbrev pub invariant-loop-number : goal.invariant-loop-number
invariant-loop-number l = record {
  count : length l.list.items ≡ length l.places;
  terms : HaveOwnTerms (scope_at l.scope) (images_at l.table) (spots_of l.places) (map names_in l.names.places.items) (length l.places) l.list.items;
  below : (k : ℕ) → AreBelowUpTo (spots_of l.places) l.number k (place_in l.list.items k);
}
