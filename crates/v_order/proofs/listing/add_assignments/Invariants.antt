use Rattle.std.proofs.Common.{◌≡◌, ◌++◌, drop}
use Rattle.v_drivers.specs.Lists.{links_of}
use Rattle.v_order.specs.Drivers.{all_links}
use Rattle.v_order.specs.Lists.{drivings_in}
use Rattle.v_order.proofs.listing.add_assignments.Given as goal

abbrev pub invariant-loop-assignment : goal.invariant-loop-assignment
invariant-loop-assignment l =
    drivings_in l.initial.found.items ++ all_links (links_of l.assignments)
    ≡ drivings_in l.found.items ++ all_links (links_of (drop l.assignment-index l.assignments))
