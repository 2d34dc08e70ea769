use Rattle.std.proofs.Common.{arith}
use Rattle.v_places.specs.Views.{spot_of}
use Rattle.map_paths.proofs.Put.{child_put}
use Rattle.map_paths.proofs.instances.add_child.Goals as goal

pub returns-clause-below : goal.returns-clause-below
returns-clause-below c =
    child_put c.args.tables.now.items (spot_of c.args.place.now) c.index_mut-table.result.now c.insert.new.self _ c.instance_name-name.result c.len-number.result
    (omega arith) c.index_mut-table.ensures.value c.in_ok-insert.ensures.updates c.instance_name-name.ensures (omega arith)
