use Rattle.std.proofs.Common.{◌∙◌, ap, sym, subst}
use Rattle.std.specs.Prelude.{IsTrue, ◌↔◌}
use Rattle.verilog_meaning.specs.Register.{may_assign}
use Rattle.verilog_designs.specs.Reads.{or_in}
use Rattle.v_value.specs.Scope.{scope_at}
use Rattle.v_flow.specs.Spans.{bits_in, existing}
use Rattle.v_masks.specs.Masks.{masked, spread}
use Rattle.v_depend.specs.Resting.{OneIsUnsettled}
use Rattle.v_order.specs.Lists.{statement_in}
use Rattle.v_reach.proofs.Visiting.{unmarked-is, nothing-visited, something-visited}
use Rattle.v_reach.proofs.visit.visit_reached.Goals as goal

pub add_driven-requires-clause-narrow : goal.add_driven-requires-clause-narrow
add_driven-requires-clause-narrow c = c.requires.fit.narrow

pub resting-requires-clause-fit : goal.resting-requires-clause-fit
resting-requires-clause-fit c = c.requires.fit

pub resting-requires-clause-variables : goal.resting-requires-clause-variables
resting-requires-clause-variables c = c.requires.variables

pub returns-then-not-some : goal.returns-then-not-some
returns-then-not-some c =
    let s = scope_at c.args.scope.now in
    let x = statement_in c.args.driver in
    let d = ap bits_in c.deref.ensures.value ∙ c.in_ok-add_driven.ensures ∙ ap (λ ys. or_in (bits_in ys) (existing s (may_assign s x))) c.new-driven.ensures.items in
    let e = unmarked-is s x c.args.marked.now c.in_ok-table.table (bits_in c.deref.result.now) (bits_in c.deref-2.result.now) (bits_in c.add_left.new.found.items) (bits_in c.new-added.result.items)
    d (ap bits_in c.deref-2.ensures.value ∙ c.in_ok-found.ensures) (ap bits_in c.new-added.ensures.items) c.in_ok-add_left.ensures in
    let met = subst (λ ys. IsTrue c.meets-some.result ↔ OneIsUnsettled (masked c.in_ok-own.own) (bits_in ys)) (c.deref-4.ensures.value ∙ sym c.deref-3.ensures.value) c.meets-some.ensures in
    nothing-visited s x c.args.marked.now c.in_ok-table.table c.requires.fit.plain c.in_ok-table.ensures (bits_in c.deref-3.result.now) (ap bits_in c.deref-3.ensures.value ∙ e)
    c.in_ok-own.own c.meets-some.result c.in_ok-own.ensures met c.if-not-some.true

pub returns : goal.returns
returns c =
    let s = scope_at c.args.scope.now in
    let x = statement_in c.args.driver in
    let d = ap bits_in c.deref.ensures.value ∙ c.in_ok-add_driven.ensures ∙ ap (λ ys. or_in (bits_in ys) (existing s (may_assign s x))) c.new-driven.ensures.items in
    let e = unmarked-is s x c.args.marked.now c.in_ok-table.table (bits_in c.deref.result.now) (bits_in c.deref-2.result.now) (bits_in c.add_left.new.found.items) (bits_in c.new-added.result.items)
    d (ap bits_in c.deref-2.ensures.value ∙ c.in_ok-found.ensures) (ap bits_in c.new-added.ensures.items) c.in_ok-add_left.ensures in
    let met = subst (λ ys. IsTrue c.meets-some.result ↔ OneIsUnsettled (masked c.in_ok-own.own) (bits_in ys)) (c.deref-4.ensures.value ∙ sym c.deref-3.ensures.value) c.meets-some.ensures in
    something-visited s x c.args.marked.now c.in_ok-table.table c.requires.fit.plain c.in_ok-table.ensures (bits_in c.deref-3.result.now) (ap bits_in c.deref-3.ensures.value ∙ e)
    (masked c.add_spans.new.table) (c.in_ok-add_spans.ensures ∙ ap (λ ys. or_in (masked c.args.marked.now) (spread (bits_in ys))) (c.deref-5.ensures.value ∙ sym c.deref-3.ensures.value))
    c.in_ok-own.own c.meets-some.result c.in_ok-own.ensures met c.if-not-some.false
