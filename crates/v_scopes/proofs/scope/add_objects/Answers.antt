use Rattle.std.proofs.Common.{refl, arith}
use Rattle.v_scopes.specs.Scopes.{scope_in}
use Rattle.v_scopes.proofs.Objects.{object_turn, list_end}
use Rattle.v_scopes.proofs.scope.add_objects.Goals as goal

pub loop-each-preserved : goal.loop-each-preserved
loop-each-preserved c =
    object_turn (scope_in c.args.names.now) c.args.declared.now c.loop-each.each-index _ c.loop-each.list.items c.push.new.self.items _ _ (omega arith)
    c.in_ok-push.ensures.items refl c.object.ensures c.loop-each.invariant

pub returns : goal.returns
returns c =
    list_end (scope_in c.args.names.now) c.args.declared.now c.loop-each.each-index c.loop-each.list.items _ (omega (arith, c.loop-each-test.false)) c.loop-each.invariant
