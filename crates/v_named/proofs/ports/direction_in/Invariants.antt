use Rattle.std.proofs.Common.{◌≡◌, drop, map}
use Rattle.v_syntax.specs.Source.{item_of}
use Rattle.v_scopes.specs.Ports.{direction_in}
use Rattle.v_named.proofs.ports.direction_in.Given as goal

abbrev pub invariant-loop-item : goal.invariant-loop-item
invariant-loop-item l =
    direction_in l.name (map item_of l.items) ≡ direction_in l.name (map item_of (drop l.item-index l.items))
