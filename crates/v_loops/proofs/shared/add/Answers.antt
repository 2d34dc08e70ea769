use Rattle.std.proofs.Common.{◌∙◌, ap}
use Rattle.verilog_meaning.specs.Register.{may_assign}
use Rattle.verilog_designs.specs.Reads.{or_in, and_in}
use Rattle.v_value.specs.Scope.{scope_at}
use Rattle.v_flow.specs.Spans.{bits_in, existing}
use Rattle.v_masks.specs.Masks.{masked, spread}
use Rattle.v_order.specs.Lists.{statement_in}
use Rattle.v_loops.proofs.shared.add.Goals as goal

pub returns-clause-driven : goal.returns-clause-driven
returns-clause-driven c =
    let s = scope_at c.args.scope.now in
    let x = statement_in c.args.driver in
    c.in_ok-append.ensures ∙ ap (or_in (bits_in c.args.driven.now.items))
    (ap bits_in c.deref-4.ensures.value ∙ c.in_ok-add_driven.ensures ∙ ap (λ ys. or_in (bits_in ys) (existing s (may_assign s x))) c.new-spans.ensures.items)

pub returns-clause-once : goal.returns-clause-once
returns-clause-once c =
    let s = scope_at c.args.scope.now in
    let x = statement_in c.args.driver in
    c.in_ok-add_spans-2.ensures ∙ ap (λ p. or_in (masked c.args.once.now) (spread p))
    (ap bits_in c.deref-3.ensures.value ∙ c.in_ok-add_driven.ensures ∙ ap (λ ys. or_in (bits_in ys) (existing s (may_assign s x))) c.new-spans.ensures.items)

pub returns-clause-twice : goal.returns-clause-twice
returns-clause-twice c =
    let s = scope_at c.args.scope.now in
    let x = statement_in c.args.driver in
    c.in_ok-add_spans.ensures ∙ ap (λ p. or_in (masked c.args.twice.now) (spread p))
    (ap bits_in c.deref-2.ensures.value ∙ c.in_ok-both.ensures ∙ ap (λ p. and_in p (masked c.args.once.now))
    (ap bits_in c.deref.ensures.value ∙ c.in_ok-add_driven.ensures ∙ ap (λ ys. or_in (bits_in ys) (existing s (may_assign s x))) c.new-spans.ensures.items))
