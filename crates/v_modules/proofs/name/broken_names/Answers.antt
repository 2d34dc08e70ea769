use Rattle.std.proofs.Common.{arith}
use Rattle.v_value.specs.Scope.{object_of, scope_at}
use Rattle.v_modules.proofs.Named.{names-turn}
use Rattle.v_modules.proofs.name.broken_names.Goals as goal

pub loop-each-preserved : goal.loop-each-preserved
loop-each-preserved c =
    names-turn (scope_at c.args.names.now) c.args.declared.now c.loop-each.each-index _ _ c.loop-each.all c.broken_name.result c.also-all.result (object_of c.object.result) c.is_port.result (omega arith)
    c.object.ensures c.is_port.ensures c.broken_name.ensures c.also-all.ensures c.loop-each.invariant
