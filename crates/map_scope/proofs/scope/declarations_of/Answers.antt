use Rattle.std.proofs.Common.{arith}
use Rattle.v_places.specs.Views.{spots_of}
use Rattle.map_paths.specs.Tables.{numbers_in}
use Rattle.map_scope.proofs.Kept.{name_turn}
use Rattle.map_scope.proofs.scope.declarations_of.Goals as goal

pub loop-name-preserved : goal.loop-name-preserved
loop-name-preserved c =
    name_turn (spots_of c.args.places.now) (numbers_in c.args.instances.now) c.args.names.now c.loop-name.name-index _ c.loop-name.list.items c.push.new.self.items c.in_ok-object.object _
    (omega arith) c.in_ok-push.ensures.items c.in_ok-object.ensures c.loop-name.invariant
