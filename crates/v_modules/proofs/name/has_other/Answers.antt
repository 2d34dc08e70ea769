use Rattle.std.proofs.Common.{arith}
use Rattle.v_value.specs.Scope.{object_of, scope_at}
use Rattle.v_modules.proofs.Named.{other-here, other-later}
use Rattle.v_modules.proofs.name.has_other.Goals as goal

pub returns-then-not-is_net : goal.returns-then-not-is_net
returns-then-not-is_net c =
    other-here (scope_at c.args.names.now) c.args.declared.now c.loop-each.each-index _ _ c.is_net.result (object_of c.object.result) (omega arith) c.object.ensures c.is_net.ensures
    c.loop-each.invariant c.if-not-is_net.true

pub loop-each-preserved : goal.loop-each-preserved
loop-each-preserved c =
    other-later (scope_at c.args.names.now) c.args.declared.now c.loop-each.each-index _ _ c.is_net.result (object_of c.object.result) (omega arith) c.object.ensures c.is_net.ensures
    c.loop-each.invariant c.if-not-is_net.false
