use Rattle.std.proofs.Common.{arith, refl}
use Rattle.ila_model.specs.declared.parts.Update.{Update}
use Rattle.emitted_names.proofs.Turns.{onward, ended}
use Rattle.emitted_names.proofs.keeping.add_updates.Goals as goal

pub loop-place-preserved : goal.loop-place-preserved
loop-place-preserved c =
    onward (λ (u : Update). u.term) c.args.updates.now c.loop-place.place c.update_at.result _ c.loop-place.ids.items _ _ c.update_at.ensures c.loop-place.invariant refl c.in_ok-push.ensures.items

pub returns : goal.returns
returns c = ended (λ (u : Update). u.term) c.args.updates.now c.loop-place.place _ c.loop-place.ids.items (omega (arith, c.loop-place-test.false)) c.loop-place.invariant
