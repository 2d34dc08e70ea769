use Rattle.std.proofs.Common.{refl, ap, ◌∙◌, arith}
use Rattle.v_value.specs.Scope.{scope_at}
use Rattle.v_scopes.proofs.Objects.{object_turn, list_end}
use Rattle.v_modules.specs.Combined.{narrowed}
use Rattle.v_modules.proofs.scope.add_narrowed.Goals as goal

pub loop-each-preserved : goal.loop-each-preserved
loop-each-preserved c =
    object_turn (λ n. narrowed (scope_at c.args.names.now n)) c.args.declared.now c.loop-each.each-index _ c.loop-each.list.items c.push.new.self.items _ _ (omega arith)
    c.in_ok-push.ensures.items refl (c.narrowed.ensures ∙ ap narrowed c.object.ensures) c.loop-each.invariant

pub returns : goal.returns
returns c =
    list_end (λ n. narrowed (scope_at c.args.names.now n)) c.args.declared.now c.loop-each.each-index c.loop-each.list.items _ (omega (arith, c.loop-each-test.false)) c.loop-each.invariant
