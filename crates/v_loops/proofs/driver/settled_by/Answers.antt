use Rattle.std.proofs.Common.{◌∙◌, ap, sym}
use Rattle.std.specs.Prelude.{◌==◌}
use Rattle.verilog_meaning.specs.Register.{may_assign}
use Rattle.verilog_designs.specs.Reads.{or_in, but_not_in}
use Rattle.verilog_designs.specs.Drivers.{statement_reads}
use Rattle.v_value.specs.Scope.{scope_at}
use Rattle.v_flow.specs.Spans.{bits_in, existing}
use Rattle.v_masks.specs.Masks.{masked}
use Rattle.v_order.specs.Lists.{statement_in}
use Rattle.v_loops.proofs.Held.{no-items}
use Rattle.v_loops.proofs.Adding.{both-needed, no-spans}
use Rattle.v_loops.proofs.Passing.{none-settled, waiting-settled, are-settled}
use Rattle.v_loops.proofs.driver.settled_by.Goals as goal

pub add_driven-requires-clause-narrow : goal.add_driven-requires-clause-narrow
add_driven-requires-clause-narrow c = c.requires.fit.narrow

pub returns-then-is_empty : goal.returns-then-is_empty
returns-then-is_empty c =
    let s = scope_at c.args.scope.now in
    let x = statement_in c.args.driver in
    none-settled s x (masked c.args.unsettled.now) (bits_in c.deref.result.now)
    (ap bits_in c.deref.ensures.value ∙ c.in_ok-add_driven.ensures ∙ ap (λ ys. or_in (bits_in ys) (existing s (may_assign s x))) c.new-spans.ensures.items)
    (bits_in c.in_ok-waiting.waiting.items) c.in_ok-waiting.ensures
    (no-spans c.in_ok-waiting.waiting.items
    (no-items c.in_ok-waiting.waiting.items (sym (ap (λ n. n == 0) c.in_ok-waiting.waiting.ok.0) ∙ (sym c.is_empty.ensures ∙ c.if-is_empty.true))))

pub add_read-requires-clause-narrow : goal.add_read-requires-clause-narrow
add_read-requires-clause-narrow c = c.requires.fit.narrow

pub rests_nowhere-nowhere-requires-clause-fit : goal.rests_nowhere-nowhere-requires-clause-fit
rests_nowhere-nowhere-requires-clause-fit c = c.requires.fit

pub rests_nowhere-nowhere-requires-clause-read : goal.rests_nowhere-nowhere-requires-clause-read
rests_nowhere-nowhere-requires-clause-read c =
    let s = scope_at c.args.scope.now in
    let x = statement_in c.args.driver in
    ap bits_in c.deref-2.ensures.value ∙ c.in_ok-add_read.ensures ∙ ap (λ ys. or_in (bits_in ys) (statement_reads s x)) c.new-needed.ensures.items

pub returns-then-nowhere : goal.returns-then-nowhere
returns-then-nowhere c =
    let s = scope_at c.args.scope.now in
    let x = statement_in c.args.driver in
    waiting-settled s x (masked c.args.unsettled.now) (bits_in c.deref.result.now)
    (ap bits_in c.deref.ensures.value ∙ c.in_ok-add_driven.ensures ∙ ap (λ ys. or_in (bits_in ys) (existing s (may_assign s x))) c.new-spans.ensures.items)
    (bits_in c.in_ok-waiting.waiting.items) c.in_ok-waiting.ensures (c.rests_nowhere-nowhere.ensures c.if-nowhere.true)

pub resting-requires-clause-fit : goal.resting-requires-clause-fit
resting-requires-clause-fit c = c.requires.fit

pub resting-requires-clause-variables : goal.resting-requires-clause-variables
resting-requires-clause-variables c = c.requires.variables

pub resting-requires-clause-needed : goal.resting-requires-clause-needed
resting-requires-clause-needed c =
    let s = scope_at c.args.scope.now in
    let x = statement_in c.args.driver in
    ap bits_in c.deref-4.ensures.value
    ∙ both-needed (bits_in c.add_read.new.found.items) (bits_in c.deref-3.result.now) (statement_reads s x) (existing s (may_assign s x)) (bits_in c.append.new.found.items)
    (c.in_ok-add_read.ensures ∙ ap (λ ys. or_in (bits_in ys) (statement_reads s x)) c.new-needed.ensures.items)
    (ap bits_in c.deref-3.ensures.value ∙ c.in_ok-add_driven.ensures ∙ ap (λ ys. or_in (bits_in ys) (existing s (may_assign s x))) c.new-spans.ensures.items)
    c.in_ok-append.ensures

pub returns : goal.returns
returns c =
    let s = scope_at c.args.scope.now in
    let x = statement_in c.args.driver in
    are-settled s x (masked c.args.unsettled.now) (bits_in c.deref.result.now)
    (ap bits_in c.deref.ensures.value ∙ c.in_ok-add_driven.ensures ∙ ap (λ ys. or_in (bits_in ys) (existing s (may_assign s x))) c.new-spans.ensures.items)
    (masked c.in_ok-table.table) (bits_in c.in_ok-waiting.waiting.items) (bits_in c.new-settled.result.items) (bits_in c.add_left.new.found.items)
    c.in_ok-table.ensures c.in_ok-waiting.ensures (ap bits_in c.new-settled.ensures.items)
    (c.in_ok-add_left.ensures ∙ ap (λ ys. or_in (bits_in c.new-settled.result.items) (but_not_in (bits_in ys) (masked c.in_ok-table.table))) c.deref-5.ensures.value)
