use Rattle.std.proofs.Common.{◌≡◌, ◌++◌, drop}
use Rattle.v_drivers.specs.Lists.{wire_links}
use Rattle.v_order.specs.Drivers.{all_links}
use Rattle.v_order.specs.Lists.{drivings_in}
use Rattle.v_order.proofs.listing.add_wires.Given as goal

abbrev pub invariant-loop-wire : goal.invariant-loop-wire
invariant-loop-wire l =
    drivings_in l.initial.found.items ++ all_links (wire_links l.wires)
    ≡ drivings_in l.found.items ++ all_links (wire_links (drop l.wire-index l.wires))
