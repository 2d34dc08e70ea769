use Rattle.std.proofs.Common.{◌∙◌, ◌*◌, ap, sym, subst, arith, refl, false}
use Rattle.std.specs.Prelude.{map, ◌==◌, ◌↔◌, IsTrue}
use Rattle.verilog_designs.specs.Reads.{and_in}
use Rattle.v_syntax.specs.Source.{item_of}
use Rattle.v_value.specs.Scope.{scope_at}
use Rattle.v_flow.specs.Spans.{bits_in}
use Rattle.v_masks.specs.Masks.{masked}
use Rattle.v_order.specs.Drivers.{drivers}
use Rattle.v_order.specs.Lists.{statements_in}
use Rattle.v_loops.specs.Turns.{HasFirst, AreApartBut}
use Rattle.v_loops.proofs.Driven.{fit-of, are-of, driven-free, driven-stage}
use Rattle.v_loops.proofs.Held.{none-masked, no-items, no-first}
use Rattle.v_loops.proofs.Sharing.{begun-list, begun-table}
use Rattle.v_loops.proofs.Adding.{table-free}
use Rattle.v_loops.proofs.Turning.{first-loops, first-left, kept-free}
use Rattle.v_loops.proofs.Answering.{next-turns, answered-none, answered-lasting, answered-ended}
use Rattle.v_loops.proofs.module.has_loop.Goals as goal

pub add_all-requires-clause-fit : goal.add_all-requires-clause-fit
add_all-requires-clause-fit c =
    fit-of (scope_at c.args.scope.now) (map item_of c.args.items.now) c.requires.fit (statements_in c.deref.result.now) (ap statements_in c.deref.ensures.value ∙ c.in_ok-drivers.ensures.statements)

pub passes-requires-clause-fit : goal.passes-requires-clause-fit
passes-requires-clause-fit c =
    fit-of (scope_at c.args.scope.now) (map item_of c.args.items.now) c.requires.fit (statements_in c.deref-2.result.now) (ap statements_in c.deref-2.ensures.value ∙ c.in_ok-drivers.ensures.statements)

pub passes-requires-clause-apart : goal.passes-requires-clause-apart
passes-requires-clause-apart c =
    subst (λ xs. AreApartBut (scope_at c.args.scope.now) (statements_in xs) (masked c.add_all.new.twice)) (c.deref.ensures.value ∙ sym c.deref-2.ensures.value)
    c.in_ok-add_all.ensures.apart

pub passes-requires-clause-variables : goal.passes-requires-clause-variables
passes-requires-clause-variables c =
    let s = scope_at c.args.scope.now in
    let items = map item_of c.args.items.now in
    let d = bits_in c.add_all.new.driven.items in
    let same = ap statements_in c.deref.ensures.value ∙ c.in_ok-drivers.ensures.statements in
    let is_d = begun-list s (statements_in c.deref.result.now) (drivers items) c.new-driven.result.items d c.new-driven.ensures.items same c.in_ok-add_all.ensures.driven in
    let is_p = begun-table s (statements_in c.deref.result.now) (drivers items) (masked c.new-unsettled.result) d (masked c.add_all.new.once)
    (none-masked c.new-unsettled.result c.new-unsettled.ensures.empty) same is_d c.in_ok-add_all.ensures.once in
    table-free s d (masked c.add_all.new.once) is_p (driven-free s items c.requires.fit d is_d)

pub returns-then-is_empty : goal.returns-then-is_empty
returns-then-is_empty c =
    let s = scope_at c.args.scope.now in
    let items = map item_of c.args.items.now in
    let d = bits_in c.add_all.new.driven.items in
    let same = ap statements_in c.deref.ensures.value ∙ c.in_ok-drivers.ensures.statements in
    let is_d = begun-list s (statements_in c.deref.result.now) (drivers items) c.new-driven.result.items d c.new-driven.ensures.items same c.in_ok-add_all.ensures.driven in
    let is_p = begun-table s (statements_in c.deref.result.now) (drivers items) (masked c.new-unsettled.result) d (masked c.add_all.new.once)
    (none-masked c.new-unsettled.result c.new-unsettled.ensures.empty) same is_d c.in_ok-add_all.ensures.once in
    let free = driven-free s items c.requires.fit d is_d in
    let first = driven-stage s items c.requires.fit d is_d in
    let of = are-of s items c.requires.fit (statements_in c.deref-2.result.now) (ap statements_in c.deref-2.ensures.value ∙ c.in_ok-drivers.ensures.statements) in
    let all = c.in_ok-passes.ensures.loops items of (first-loops s items d free first (masked c.add_all.new.once) is_p) in
    let is_left = c.in_ok-left.ensures ∙ ap (λ xs. and_in (bits_in xs) (masked c.passes.new.unsettled)) c.deref-4.ensures.value in
    answered-none s items (bits_in c.in_ok-left.left.items) false (kept-free s d (masked c.passes.new.unsettled) (bits_in c.in_ok-left.left.items) free is_left)
    (first-left s items d free first (masked c.passes.new.unsettled) (bits_in c.in_ok-left.left.items) all is_left).loops
    (no-first c.in_ok-left.left.items
    (no-items c.in_ok-left.left.items (sym (ap (λ n. n == 0) c.in_ok-left.left.ok.0) ∙ (sym c.is_empty.ensures ∙ c.if-is_empty.true)))) refl

pub loop-init : goal.loop-init
loop-init c =
    let s = scope_at c.args.scope.now in
    let items = map item_of c.args.items.now in
    let d = bits_in c.add_all.new.driven.items in
    let same = ap statements_in c.deref.ensures.value ∙ c.in_ok-drivers.ensures.statements in
    let is_d = begun-list s (statements_in c.deref.result.now) (drivers items) c.new-driven.result.items d c.new-driven.ensures.items same c.in_ok-add_all.ensures.driven in
    let is_p = begun-table s (statements_in c.deref.result.now) (drivers items) (masked c.new-unsettled.result) d (masked c.add_all.new.once)
    (none-masked c.new-unsettled.result c.new-unsettled.ensures.empty) same is_d c.in_ok-add_all.ensures.once in
    let free = driven-free s items c.requires.fit d is_d in
    let first = driven-stage s items c.requires.fit d is_d in
    let of = are-of s items c.requires.fit (statements_in c.deref-2.result.now) (ap statements_in c.deref-2.ensures.value ∙ c.in_ok-drivers.ensures.statements) in
    let all = c.in_ok-passes.ensures.loops items of (first-loops s items d free first (masked c.add_all.new.once) is_p) in
    let is_left = c.in_ok-left.ensures ∙ ap (λ xs. and_in (bits_in xs) (masked c.passes.new.unsettled)) c.deref-4.ensures.value in
    record {
      stays = first-left s items d free first (masked c.passes.new.unsettled) (bits_in c.in_ok-left.left.items) all is_left;
      variables = kept-free s d (masked c.passes.new.unsettled) (bits_in c.in_ok-left.left.items) free is_left;
    }

pub turns-requires-clause-fit : goal.turns-requires-clause-fit
turns-requires-clause-fit c =
    fit-of (scope_at c.args.scope.now) (map item_of c.args.items.now) c.requires.fit (statements_in c.deref-in-loop.result.now) (ap statements_in c.deref-in-loop.ensures.value ∙ c.in_ok-drivers.ensures.statements)

pub turns-requires-clause-variables : goal.turns-requires-clause-variables
turns-requires-clause-variables c = c.loop.invariant.variables

pub loop-preserved : goal.loop-preserved
loop-preserved c =
    let s = scope_at c.args.scope.now in
    let items = map item_of c.args.items.now in
    let of = are-of s items c.requires.fit (statements_in c.deref-in-loop.result.now) (ap statements_in c.deref-in-loop.ensures.value ∙ c.in_ok-drivers.ensures.statements) in
    record {
      stays = next-turns s items c.in_ok-lasts.lasts c.loop.counter (bits_in c.turns.new.unsettled.items) c.if-lasts.false
          (c.in_ok-lasts.ensures.left items (c.loop.counter * 128) of c.loop.invariant.stays);
      variables = c.in_ok-lasts.ensures.variables;
    }

pub returns-then-lasts : goal.returns-then-lasts
returns-then-lasts c =
    let s = scope_at c.args.scope.now in
    let items = map item_of c.args.items.now in
    let d = bits_in c.add_all.new.driven.items in
    let same = ap statements_in c.deref.ensures.value ∙ c.in_ok-drivers.ensures.statements in
    let is_d = begun-list s (statements_in c.deref.result.now) (drivers items) c.new-driven.result.items d c.new-driven.ensures.items same c.in_ok-add_all.ensures.driven in
    let of = are-of s items c.requires.fit (statements_in c.deref-in-loop.result.now) (ap statements_in c.deref-in-loop.ensures.value ∙ c.in_ok-drivers.ensures.statements) in
    answered-lasting s items c.add_all.new.driven.items c.requires.objects (driven-free s items c.requires.fit d is_d) (driven-stage s items c.requires.fit d is_d)
    c.in_ok-lasts.lasts (c.loop.counter * 128) (bits_in c.turns.new.unsettled.items) c.in_ok-stay.stay c.if-lasts.true c.in_ok-lasts.ensures.variables
    (c.in_ok-lasts.ensures.left items (c.loop.counter * 128) of c.loop.invariant.stays)
    (subst (λ xs. IsTrue c.in_ok-stay.stay ↔ HasFirst (bits_in xs)) c.deref-then-lasts.ensures.value c.in_ok-stay.ensures)

pub returns : goal.returns
returns c =
    let s = scope_at c.args.scope.now in
    let items = map item_of c.args.items.now in
    let d = bits_in c.add_all.new.driven.items in
    let same = ap statements_in c.deref.ensures.value ∙ c.in_ok-drivers.ensures.statements in
    let is_d = begun-list s (statements_in c.deref.result.now) (drivers items) c.new-driven.result.items d c.new-driven.ensures.items same c.in_ok-add_all.ensures.driven in
    answered-ended s items c.add_all.new.driven.items c.requires.objects (driven-free s items c.requires.fit d is_d) (driven-stage s items c.requires.fit d is_d)
    c.loop.counter (bits_in c.loop.left.items) c.in_ok-stay-2.stay (omega arith) c.loop.invariant.variables c.loop.invariant.stays
    (subst (λ xs. IsTrue c.in_ok-stay-2.stay ↔ HasFirst (bits_in xs)) c.deref-5.ensures.value c.in_ok-stay-2.ensures)
