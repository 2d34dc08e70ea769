use Rattle.std.proofs.Common.{arith, ap}
use Rattle.std.proofs.lemmas.List.{drop_all}
use Rattle.v_named.proofs.Earlier.{past_begun, past_more, past_ended, names_of, names_drop}
use Rattle.v_named.proofs.before.with_values.Goals as goal

pub loop-value-init : goal.loop-value-init
loop-value-init c = λ b h. past_begun _ _ _ b h

pub loop-value-preserved : goal.loop-value-preserved
loop-value-preserved c = λ b h.
    past_more _ _ _ _ _ _ _ b (names_drop c.args.values.now c.loop-value.value-index c.value-item.result (omega arith) c.value-item.is) c.in_ok-known.ensures (c.loop-value.invariant b h)

pub returns : goal.returns
returns c = λ b h. past_ended _ _ _ _ b (ap names_of (drop_all c.loop-value.value-index c.args.values.now (omega arith))) (c.loop-value.invariant b h)
