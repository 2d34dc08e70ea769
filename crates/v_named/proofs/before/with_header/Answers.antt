use Rattle.std.proofs.Common.{arith, ap, sym, ◌∙◌, ◌++◌, ◌+◌, drop}
use Rattle.std.proofs.lemmas.List.{drop_all}
use Rattle.v_named.proofs.Earlier.{past_begun, past_part, past_ended, names_of, all_names, all_drop}
use Rattle.v_named.proofs.before.with_header.Goals as goal

pub loop-declaration-init : goal.loop-declaration-init
loop-declaration-init c = λ b h. past_begun _ _ _ b h

pub loop-declaration-preserved : goal.loop-declaration-preserved
loop-declaration-preserved c = λ b h.
    past_part _ _ _ _ _ _ _ b
    (all_drop c.args.declarations.now c.loop-declaration.declaration-index c.declaration-item.result (omega arith) c.declaration-item.is
    ∙ ap (λ vs. names_of vs ++ all_names (drop (c.loop-declaration.declaration-index + 1) c.args.declarations.now)) (sym c.deref.ensures.value))
    c.in_ok-known.ensures (c.loop-declaration.invariant b h)

pub returns : goal.returns
returns c = λ b h. past_ended _ _ _ _ b (ap all_names (drop_all c.loop-declaration.declaration-index c.args.declarations.now (omega arith))) (c.loop-declaration.invariant b h)
