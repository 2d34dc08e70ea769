use Rattle.std.proofs.Common.{arith}
use Rattle.v_value.specs.Scope.{scope_at}
use Rattle.v_design.specs.Seen.{parts_of}
use Rattle.path_terms.proofs.Filling.{one_origin}
use Rattle.path_terms.proofs.origins.origins_of.Goals as goal

pub loop-declaration-preserved : goal.loop-declaration-preserved
loop-declaration-preserved c =
    one_origin (scope_at c.args.scope.now) (parts_of c.args.design.now) c.declarations-declaration-items.result.now c.loop-declaration.declaration-index _
    c.loop-declaration.list.items c.push.new.self.items c.origin_of.result (omega arith) c.loop-declaration.invariant c.origin_of.ensures c.in_ok-push.ensures.items
