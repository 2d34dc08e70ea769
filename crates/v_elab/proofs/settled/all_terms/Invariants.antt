use Rattle.std.proofs.Common.{◌≡◌, ℕ, List, None, length, map}
use Rattle.v_value.specs.Scope.{scope_at}
use Rattle.v_places.specs.Views.{spots_of}
use Rattle.v_flat.specs.Views.{names_in}
use Rattle.v_lower.specs.Table.{images_at}
use Rattle.v_design.specs.Table.{place_in}
use Rattle.v_elab.specs.Settled.{HaveOwnTerms}
use Rattle.v_elab.proofs.settled.all_terms.Given as goal

abbrev pub invariant-loop-number : goal.invariant-loop-number
invariant-loop-number l = record {
  count : length l.list.items ≡ l.number;
  terms : HaveOwnTerms (scope_at l.scope) (images_at l.table) (spots_of l.places) (map names_in l.names) l.number l.list.items;
  below : (k : ℕ) (u : List ℕ) → place_in l.list.items k u ≡ None;
}
