use Rattle.std.proofs.Common.{◌∙◌, ◌*◌, ap, subst, arith, inl, inr}
use Rattle.std.specs.Prelude.{map, ◌↔◌, IsTrue}
use Rattle.verilog_meaning.specs.Register.{one_may_assign}
use Rattle.verilog_designs.specs.Reads.{no_bits}
use Rattle.v_syntax.specs.Source.{item_of}
use Rattle.v_operators.proofs.Growing.{Grows-refl, Grows-trans}
use Rattle.v_value.specs.Scope.{scope_at}
use Rattle.v_lower.specs.Table.{images_at}
use Rattle.v_flow.specs.Spans.{bits_in, existing}
use Rattle.v_masks.specs.Masks.{masked, spread}
use Rattle.v_depend.specs.Resting.{OneIsUnsettled}
use Rattle.v_order.specs.Lists.{drivings_in, statements_in}
use Rattle.v_loops.proofs.Driven.{narrow-of}
use Rattle.v_settle.specs.Turns.{state_of}
use Rattle.v_settle.proofs.Copying.{copied-known}
use Rattle.v_settle.proofs.Ends.{first-open, begun, answered-loops, answered-settled}
use Rattle.v_settle.proofs.Ending.{next-turns, last-turn}
use Rattle.v_settle.proofs.module.settle_all.Goals as goal

pub all_driven-requires-clause-narrow : goal.all_driven-requires-clause-narrow
all_driven-requires-clause-narrow c =
    narrow-of (scope_at c.args.scope.now) (map item_of c.args.items.now) c.requires.ready.runnable (statements_in c.deref.result.now) (ap statements_in c.deref.ensures.value ∙ c.in_ok-drivers.ensures.statements)

pub order_of-requires-clause-narrow : goal.order_of-requires-clause-narrow
order_of-requires-clause-narrow c =
    narrow-of (scope_at c.args.scope.now) (map item_of c.args.items.now) c.requires.ready.runnable (statements_in c.deref-2.result.now) (ap statements_in c.deref-2.ensures.value ∙ c.in_ok-drivers.ensures.statements)

pub loop-init : goal.loop-init
loop-init c =
    let s = scope_at c.args.scope.now in
    let items = map item_of c.args.items.now in
    let is_d = c.in_ok-spans.ensures ∙ ap (λ xs. existing s (one_may_assign s xs)) (ap statements_in c.deref.ensures.value ∙ c.in_ok-drivers.ensures.statements) in
    let is_p = c.in_ok-unsettled.ensures ∙ ap (λ xs. spread (bits_in xs)) c.deref-3.ensures.value in
    record {
      grows = Grows-refl c.args.terms.now;
      opens = first-open s items c.requires.ready (bits_in c.in_ok-spans.spans.items) is_d (images_at c.args.table.now) (images_at c.in_ok-spare.spare) c.args.terms.now (masked c.in_ok-unsettled.unsettled) is_p c.requires.known (copied-known (scope_at c.args.scope.now) (images_at c.args.table.now) (images_at c.in_ok-spare.spare) c.args.terms.now c.requires.known c.in_ok-spare.ensures.within c.in_ok-spare.ensures.all) c.in_ok-spare.ensures.within;
      way = begun s items c.requires.ready (bits_in c.in_ok-spans.spans.items) is_d (images_at c.args.table.now) (images_at c.in_ok-spare.spare) c.args.terms.now (masked c.in_ok-unsettled.unsettled) is_p c.requires.known (copied-known (scope_at c.args.scope.now) (images_at c.args.table.now) (images_at c.in_ok-spare.spare) c.args.terms.now c.requires.known c.in_ok-spare.ensures.within c.in_ok-spare.ensures.all) c.in_ok-spare.ensures.within;
    }

pub turns-requires-clause-opens : goal.turns-requires-clause-opens
turns-requires-clause-opens c = c.loop.invariant.opens

pub turns-requires-clause-ready : goal.turns-requires-clause-ready
turns-requires-clause-ready c = c.requires.ready

pub turns-requires-clause-drivings : goal.turns-requires-clause-drivings
turns-requires-clause-drivings c = ap drivings_in c.deref-in-loop.ensures.value ∙ c.in_ok-drivers.ensures.drivings

pub turns-requires-clause-statements : goal.turns-requires-clause-statements
turns-requires-clause-statements c = ap statements_in c.deref-in-loop.ensures.value ∙ c.in_ok-drivers.ensures.statements

pub turns-requires-clause-driven : goal.turns-requires-clause-driven
turns-requires-clause-driven c =
    let s = scope_at c.args.scope.now in
    ap bits_in c.deref-in-loop-3.ensures.value ∙ c.in_ok-spans.ensures
    ∙ ap (λ xs. existing s (one_may_assign s xs)) (ap statements_in c.deref.ensures.value ∙ c.in_ok-drivers.ensures.statements)

pub loop-preserved : goal.loop-preserved
loop-preserved c =
    record {
      grows = Grows-trans c.loop.invariant.grows c.in_ok-ended.ensures.grows;
      opens = c.in_ok-ended.ensures.opens;
      way = next-turns (scope_at c.args.scope.now) (map item_of c.args.items.now) (state_of (images_at c.args.table.now) (images_at c.args.table.now) c.args.terms.now no_bits) c.in_ok-ended.ended c.loop.counter (state_of (images_at c.turns.new.table) (images_at c.turns.new.spare) c.turns.new.terms (masked c.turns.new.unsettled)) c.if-ended.false
          (c.in_ok-ended.ensures.made (state_of (images_at c.args.table.now) (images_at c.args.table.now) c.args.terms.now no_bits) (c.loop.counter * 128) c.loop.invariant.way);
    }

pub returns-then-ended-clause-grows : goal.returns-then-ended-clause-grows
returns-then-ended-clause-grows c = Grows-trans c.loop.invariant.grows c.in_ok-ended.ensures.grows

pub returns-then-ended-clause-settled : goal.returns-then-ended-clause-settled
returns-then-ended-clause-settled c =
    let s = scope_at c.args.scope.now in
    let items = map item_of c.args.items.now in
    let is_d = c.in_ok-spans.ensures ∙ ap (λ xs. existing s (one_may_assign s xs)) (ap statements_in c.deref.ensures.value ∙ c.in_ok-drivers.ensures.statements) in
    let is_p = c.in_ok-unsettled.ensures ∙ ap (λ xs. spread (bits_in xs)) c.deref-3.ensures.value in
    let l = last-turn s items (state_of (images_at c.args.table.now) (images_at c.args.table.now) c.args.terms.now no_bits) c.in_ok-ended.ended (c.loop.counter * 128) (state_of (images_at c.turns.new.table) (images_at c.turns.new.spare) c.turns.new.terms (masked c.turns.new.unsettled)) c.if-ended.true (c.in_ok-ended.ensures.made (state_of (images_at c.args.table.now) (images_at c.args.table.now) c.args.terms.now no_bits) (c.loop.counter * 128) c.loop.invariant.way) in
    answered-settled s items c.requires.ready (bits_in c.in_ok-spans.spans.items) is_d (images_at c.args.table.now) (images_at c.in_ok-spare.spare) c.args.terms.now (masked c.in_ok-unsettled.unsettled) is_p c.requires.known (copied-known (scope_at c.args.scope.now) (images_at c.args.table.now) (images_at c.in_ok-spare.spare) c.args.terms.now c.requires.known c.in_ok-spare.ensures.within c.in_ok-spare.ensures.all) c.in_ok-spare.ensures.within
    c.requires.objects c.in_ok-spans.spans.items (λ i. bits_in c.in_ok-spans.spans.items) (state_of (images_at c.turns.new.table) (images_at c.turns.new.spare) c.turns.new.terms (masked c.turns.new.unsettled)) l.0 l.1 c.meets-left.result
    (subst (λ xs. IsTrue c.meets-left.result ↔ OneIsUnsettled (masked c.turns.new.unsettled) (bits_in xs)) c.deref-then-ended.ensures.value c.meets-left.ensures)

pub returns-then-ended-clause-loops : goal.returns-then-ended-clause-loops
returns-then-ended-clause-loops c =
    let s = scope_at c.args.scope.now in
    let items = map item_of c.args.items.now in
    let is_d = c.in_ok-spans.ensures ∙ ap (λ xs. existing s (one_may_assign s xs)) (ap statements_in c.deref.ensures.value ∙ c.in_ok-drivers.ensures.statements) in
    let is_p = c.in_ok-unsettled.ensures ∙ ap (λ xs. spread (bits_in xs)) c.deref-3.ensures.value in
    let l = last-turn s items (state_of (images_at c.args.table.now) (images_at c.args.table.now) c.args.terms.now no_bits) c.in_ok-ended.ended (c.loop.counter * 128) (state_of (images_at c.turns.new.table) (images_at c.turns.new.spare) c.turns.new.terms (masked c.turns.new.unsettled)) c.if-ended.true (c.in_ok-ended.ensures.made (state_of (images_at c.args.table.now) (images_at c.args.table.now) c.args.terms.now no_bits) (c.loop.counter * 128) c.loop.invariant.way) in
    answered-loops s items c.requires.ready (bits_in c.in_ok-spans.spans.items) is_d (images_at c.args.table.now) (images_at c.in_ok-spare.spare) c.args.terms.now (masked c.in_ok-unsettled.unsettled) is_p c.requires.known (copied-known (scope_at c.args.scope.now) (images_at c.args.table.now) (images_at c.in_ok-spare.spare) c.args.terms.now c.requires.known c.in_ok-spare.ensures.within c.in_ok-spare.ensures.all) c.in_ok-spare.ensures.within
    c.requires.objects c.in_ok-spans.spans.items (λ i. bits_in c.in_ok-spans.spans.items) (state_of (images_at c.turns.new.table) (images_at c.turns.new.spare) c.turns.new.terms (masked c.turns.new.unsettled)) l.0 l.1 c.meets-left.result
    (subst (λ xs. IsTrue c.meets-left.result ↔ OneIsUnsettled (masked c.turns.new.unsettled) (bits_in xs)) c.deref-then-ended.ensures.value c.meets-left.ensures)
    (inl l.2)

pub returns-clause-grows : goal.returns-clause-grows
returns-clause-grows c = c.loop.invariant.grows

pub returns-clause-settled : goal.returns-clause-settled
returns-clause-settled c =
    let s = scope_at c.args.scope.now in
    let items = map item_of c.args.items.now in
    let is_d = c.in_ok-spans.ensures ∙ ap (λ xs. existing s (one_may_assign s xs)) (ap statements_in c.deref.ensures.value ∙ c.in_ok-drivers.ensures.statements) in
    let is_p = c.in_ok-unsettled.ensures ∙ ap (λ xs. spread (bits_in xs)) c.deref-3.ensures.value in
    answered-settled s items c.requires.ready (bits_in c.in_ok-spans.spans.items) is_d (images_at c.args.table.now) (images_at c.in_ok-spare.spare) c.args.terms.now (masked c.in_ok-unsettled.unsettled) is_p c.requires.known (copied-known (scope_at c.args.scope.now) (images_at c.args.table.now) (images_at c.in_ok-spare.spare) c.args.terms.now c.requires.known c.in_ok-spare.ensures.within c.in_ok-spare.ensures.all) c.in_ok-spare.ensures.within
    c.requires.objects c.in_ok-spans.spans.items (λ i. bits_in c.in_ok-spans.spans.items) (state_of (images_at c.loop.table) (images_at c.loop.spare) c.loop.terms (masked c.loop.unsettled)) (c.loop.counter * 128) c.loop.invariant.way c.meets-left-2.result
    (subst (λ xs. IsTrue c.meets-left-2.result ↔ OneIsUnsettled (masked c.loop.unsettled) (bits_in xs)) c.deref-4.ensures.value c.meets-left-2.ensures)

pub returns-clause-loops : goal.returns-clause-loops
returns-clause-loops c =
    let s = scope_at c.args.scope.now in
    let items = map item_of c.args.items.now in
    let is_d = c.in_ok-spans.ensures ∙ ap (λ xs. existing s (one_may_assign s xs)) (ap statements_in c.deref.ensures.value ∙ c.in_ok-drivers.ensures.statements) in
    let is_p = c.in_ok-unsettled.ensures ∙ ap (λ xs. spread (bits_in xs)) c.deref-3.ensures.value in
    answered-loops s items c.requires.ready (bits_in c.in_ok-spans.spans.items) is_d (images_at c.args.table.now) (images_at c.in_ok-spare.spare) c.args.terms.now (masked c.in_ok-unsettled.unsettled) is_p c.requires.known (copied-known (scope_at c.args.scope.now) (images_at c.args.table.now) (images_at c.in_ok-spare.spare) c.args.terms.now c.requires.known c.in_ok-spare.ensures.within c.in_ok-spare.ensures.all) c.in_ok-spare.ensures.within
    c.requires.objects c.in_ok-spans.spans.items (λ i. bits_in c.in_ok-spans.spans.items) (state_of (images_at c.loop.table) (images_at c.loop.spare) c.loop.terms (masked c.loop.unsettled)) (c.loop.counter * 128) c.loop.invariant.way c.meets-left-2.result
    (subst (λ xs. IsTrue c.meets-left-2.result ↔ OneIsUnsettled (masked c.loop.unsettled) (bits_in xs)) c.deref-4.ensures.value c.meets-left-2.ensures)
    (inr (omega (arith, c.loop-test.false)))

pub returns-in_err-spare-clause-grows : goal.returns-in_err-spare-clause-grows
returns-in_err-spare-clause-grows c = Grows-refl c.args.terms.now

pub returns-in_err-drivers-clause-grows : goal.returns-in_err-drivers-clause-grows
returns-in_err-drivers-clause-grows c = Grows-refl c.args.terms.now

pub returns-in_err-order-clause-grows : goal.returns-in_err-order-clause-grows
returns-in_err-order-clause-grows c = Grows-refl c.args.terms.now

pub returns-in_err-spans-clause-grows : goal.returns-in_err-spans-clause-grows
returns-in_err-spans-clause-grows c = Grows-refl c.args.terms.now

pub returns-in_err-unsettled-clause-grows : goal.returns-in_err-unsettled-clause-grows
returns-in_err-unsettled-clause-grows c = Grows-refl c.args.terms.now
