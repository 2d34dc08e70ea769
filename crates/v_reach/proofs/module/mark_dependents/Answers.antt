use Rattle.std.proofs.Common.{◌≡◌, ◌∙◌, ◌+◌, ◌*◌, ap, sym, subst, arith, refl}
use Rattle.std.specs.Prelude.{map}
use Rattle.verilog_meaning.specs.Register.{one_may_assign}
use Rattle.v_syntax.specs.Source.{item_of}
use Rattle.v_value.specs.Scope.{scope_at}
use Rattle.v_flow.specs.Spans.{bits_in, existing}
use Rattle.v_masks.specs.Masks.{masked}
use Rattle.v_order.specs.Drivers.{drivers}
use Rattle.v_order.specs.Lists.{statements_in}
use Rattle.v_loops.proofs.Listed.{fit-drivers}
use Rattle.v_loops.proofs.Driven.{fit-of, narrow-of, are-of}
use Rattle.v_reach.specs.Marking.{AreRounds}
use Rattle.v_reach.proofs.Spreading.{none-spread, spread-then}
use Rattle.v_reach.proofs.Counting.{none-more, more-by, later-more, later-closed, closed-at-end}
use Rattle.v_reach.proofs.Answering.{marked-comes}
use Rattle.v_reach.proofs.module.mark_dependents.Goals as goal

pub order_of-requires-clause-narrow : goal.order_of-requires-clause-narrow
order_of-requires-clause-narrow c =
    narrow-of (scope_at c.args.scope.now) (map item_of c.args.items.now) c.requires.fit (statements_in c.deref.result.now) (ap statements_in c.deref.ensures.value ∙ c.in_ok-drivers.ensures.statements)

pub all_driven-requires-clause-narrow : goal.all_driven-requires-clause-narrow
all_driven-requires-clause-narrow c =
    narrow-of (scope_at c.args.scope.now) (map item_of c.args.items.now) c.requires.fit (statements_in c.deref-2.result.now) (ap statements_in c.deref-2.ensures.value ∙ c.in_ok-drivers.ensures.statements)

pub loop-init : goal.loop-init
loop-init c =
    let s = scope_at c.args.scope.now in
    let xs = drivers (map item_of c.args.items.now) in
    record { spread = none-spread s xs (masked c.args.marked.now); more = none-more s xs (masked c.args.marked.now) }

pub rounds-requires-clause-fit : goal.rounds-requires-clause-fit
rounds-requires-clause-fit c =
    fit-of (scope_at c.args.scope.now) (map item_of c.args.items.now) c.requires.fit (statements_in c.deref-in-loop.result.now) (ap statements_in c.deref-in-loop.ensures.value ∙ c.in_ok-drivers.ensures.statements)

pub rounds-requires-clause-variables : goal.rounds-requires-clause-variables
rounds-requires-clause-variables c = c.loop.invariant.spread.free c.requires.variables

pub returns-then-lasts : goal.returns-then-lasts
returns-then-lasts c =
    let s = scope_at c.args.scope.now in
    let items = map item_of c.args.items.now in
    let xs = drivers items in
    let before = masked c.args.marked.now in
    let now = masked c.loop.marked in
    let after = masked c.rounds.new.marked in
    let r = subst (λ ys. AreRounds c.in_ok-lasts.lasts s ys now after) (ap statements_in c.deref-in-loop.ensures.value ∙ c.in_ok-drivers.ensures.statements) c.in_ok-lasts.ensures in
    marked-comes c.rests_where_it_depends.ensures s items xs (are-of s items c.requires.fit xs refl) before after c.requires.variables
    (spread-then s xs before now after c.loop.invariant.spread r.spread) (later-closed c.in_ok-lasts.lasts s xs now after c.if-lasts.true r.later)

pub loop-preserved : goal.loop-preserved
loop-preserved c =
    let s = scope_at c.args.scope.now in
    let xs = drivers (map item_of c.args.items.now) in
    let before = masked c.args.marked.now in
    let now = masked c.loop.marked in
    let after = masked c.rounds.new.marked in
    let r = subst (λ ys. AreRounds c.in_ok-lasts.lasts s ys now after) (ap statements_in c.deref-in-loop.ensures.value ∙ c.in_ok-drivers.ensures.statements) c.in_ok-lasts.ensures in
    let e : c.loop.counter * 128 + 128 ≡ (c.loop.counter + 1) * 128 = omega arith in
    record {
      spread = spread-then s xs before now after c.loop.invariant.spread r.spread;
      more = more-by (c.loop.counter * 128) 128 ((c.loop.counter + 1) * 128) s xs before now after e c.loop.invariant.more
          (later-more c.in_ok-lasts.lasts s xs now after c.if-lasts.false r.later);
    }

pub returns : goal.returns
returns c =
    let s = scope_at c.args.scope.now in
    let items = map item_of c.args.items.now in
    let xs = drivers items in
    let before = masked c.args.marked.now in
    let now = masked c.loop.marked in
    marked-comes c.rests_where_it_depends.ensures s items xs (are-of s items c.requires.fit xs refl) before now c.requires.variables c.loop.invariant.spread
    (closed-at-end s xs c.in_ok-driven.driven.items c.loop.counter before now c.requires.objects (fit-drivers s items c.requires.fit)
    (c.in_ok-driven.ensures ∙ ap (λ ys. existing s (one_may_assign s ys)) (ap statements_in c.deref-2.ensures.value ∙ c.in_ok-drivers.ensures.statements))
    (omega arith) c.loop.invariant.more)
