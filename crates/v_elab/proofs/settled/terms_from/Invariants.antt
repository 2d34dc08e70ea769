use Rattle.std.proofs.Common.{◌≡◌, ℕ, List, None, drop, map}
use Rattle.v_value.specs.Scope.{scope_at}
use Rattle.v_flat.specs.Views.{entry_in}
use Rattle.v_lower.specs.Table.{images_at}
use Rattle.v_design.specs.Table.{term_under}
use Rattle.v_elab.specs.Settled.{after_entries}
use Rattle.v_elab.proofs.settled.terms_from.Given as goal

abbrev pub invariant-loop-number : goal.invariant-loop-number
invariant-loop-number l =
    (n : List ℕ) → after_entries (scope_at l.scope) (images_at l.table) (drop l.first (map entry_in l.names)) n None
    ≡ after_entries (scope_at l.scope) (images_at l.table) (drop l.number (map entry_in l.names)) n (term_under l.found n)
