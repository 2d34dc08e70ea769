use Rattle.std.proofs.Common.{◌∙◌, ap}
use Rattle.verilog_meaning.specs.Register.{may_assign}
use Rattle.verilog_designs.specs.Reads.{or_in}
use Rattle.verilog_designs.specs.Drivers.{statement_reads}
use Rattle.v_value.specs.Scope.{scope_at}
use Rattle.v_flow.specs.Spans.{bits_in, existing}
use Rattle.v_masks.specs.Masks.{masked}
use Rattle.v_order.specs.Lists.{statement_in}
use Rattle.v_loops.proofs.Adding.{both-needed, driver-adds}
use Rattle.v_loops.proofs.turn.add_resting.Goals as goal

pub add_driven-requires-clause-narrow : goal.add_driven-requires-clause-narrow
add_driven-requires-clause-narrow c = c.requires.fit.narrow

pub add_read-requires-clause-narrow : goal.add_read-requires-clause-narrow
add_read-requires-clause-narrow c = c.requires.fit.narrow

pub resting-requires-clause-fit : goal.resting-requires-clause-fit
resting-requires-clause-fit c = c.requires.fit

pub resting-requires-clause-variables : goal.resting-requires-clause-variables
resting-requires-clause-variables c = c.requires.variables

pub resting-requires-clause-needed : goal.resting-requires-clause-needed
resting-requires-clause-needed c =
    let s = scope_at c.args.scope.now in
    let x = statement_in c.args.driver in
    ap bits_in c.deref-2.ensures.value
    ∙ both-needed (bits_in c.add_read.new.found.items) (bits_in c.deref.result.now) (statement_reads s x) (existing s (may_assign s x)) (bits_in c.append.new.found.items)
    (c.in_ok-add_read.ensures ∙ ap (λ ys. or_in (bits_in ys) (statement_reads s x)) c.new-needed.ensures.items)
    (ap bits_in c.deref.ensures.value ∙ c.in_ok-add_driven.ensures ∙ ap (λ ys. or_in (bits_in ys) (existing s (may_assign s x))) c.new-spans.ensures.items)
    c.in_ok-append.ensures

pub returns : goal.returns
returns c =
    let s = scope_at c.args.scope.now in
    let x = statement_in c.args.driver in
    driver-adds s x (masked c.args.unsettled.now) (masked c.in_ok-table.table) (bits_in c.deref-3.result.now) (bits_in c.args.found.now.items) (bits_in c.append-2.new.found.items)
    c.in_ok-table.ensures
    (ap bits_in c.deref-3.ensures.value ∙ c.in_ok-add_driven.ensures ∙ ap (λ ys. or_in (bits_in ys) (existing s (may_assign s x))) c.new-spans.ensures.items)
    (c.in_ok-append-2.ensures ∙ ap (λ p. or_in (bits_in c.args.found.now.items) p) (ap bits_in c.deref-4.ensures.value ∙ c.in_ok-kept.ensures))
