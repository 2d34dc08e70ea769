use Rattle.std.proofs.Common.{◌≡◌, ◌++◌, drop}
use Rattle.std.specs.Prelude.{map}
use Rattle.v_syntax.specs.Source.{item_of}
use Rattle.v_order.specs.Drivers.{drivings}
use Rattle.v_order.specs.Lists.{drivings_in}
use Rattle.v_order.proofs.listing.drivers_of.Given as goal

abbrev pub invariant-loop-item : goal.invariant-loop-item
invariant-loop-item l =
    drivings (map item_of l.items) ≡ drivings_in l.found.items ++ drivings (map item_of (drop l.item-index l.items))
