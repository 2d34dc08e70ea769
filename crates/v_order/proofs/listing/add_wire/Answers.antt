use Rattle.std.proofs.Common.{[], ◌∷◌, ap}
use Rattle.verilog_meaning.specs.Settled.{wire_assignments}
use Rattle.v_syntax.specs.Source.{boxed_tree_of}
use Rattle.v_drivers.specs.Lists.{wire_links}
use Rattle.v_order.specs.Drivers.{all_links}
use Rattle.v_order.specs.Lists.{drivings_in}
use Rattle.v_order.proofs.Growing.{none}
use Rattle.v_order.proofs.listing.add_wire.Goals as goal

pub returns-in-None : goal.returns-in-None
returns-in-None c =
    none (drivings_in c.args.found.now.items) (all_links (wire_links (c.args.wire.now ∷ [])))
    (ap (λ v. all_links (wire_assignments ((c.args.wire.now.name.now, boxed_tree_of v) ∷ []))) c.in-None.is)
