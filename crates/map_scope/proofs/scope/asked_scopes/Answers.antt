use Rattle.std.proofs.Common.{arith}
use Rattle.map_scope.proofs.Kept.{scope_turn}
use Rattle.map_scope.proofs.scope.asked_scopes.Goals as goal

pub loop-number-preserved : goal.loop-number-preserved
loop-number-preserved c =
    scope_turn c.loop-number.scopes.items c.push.new.self.items c.args.places.now c.in_ok-scope.scope c.loop-number.number c.index-places-number.result _
    (omega arith) c.index-places-number.is c.in_ok-push.ensures.items c.in_ok-scope.ensures c.loop-number.invariant
