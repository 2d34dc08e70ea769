use Rattle.std.proofs.Common.{◌≡◌, drop}
use Rattle.std.specs.Prelude.{map}
use Rattle.v_syntax.specs.Source.{item_of}
use Rattle.v_value.specs.Scope.{scope_at}
use Rattle.v_assigned.specs.Assigned.{names_are_bad}
use Rattle.v_assigned.proofs.item.has_bad_name.Given as goal

abbrev pub invariant-loop-item : goal.invariant-loop-item
invariant-loop-item l =
    names_are_bad l.names (scope_at l.scope) (map item_of l.items)
    ≡ names_are_bad l.names (scope_at l.scope) (map item_of (drop l.item-index l.items))
