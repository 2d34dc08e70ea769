use Rattle.std.proofs.Common.{◌∙◌, ap}
use Rattle.verilog_meaning.specs.Register.{may_assign}
use Rattle.verilog_designs.specs.Reads.{or_in, and_in}
use Rattle.verilog_designs.specs.Drivers.{statement_reads}
use Rattle.v_value.specs.Scope.{scope_at}
use Rattle.v_flow.specs.Spans.{bits_in, existing}
use Rattle.v_masks.specs.Masks.{masked, spread}
use Rattle.v_order.specs.Lists.{statement_in}
use Rattle.v_reach.proofs.Local.{own-free}
use Rattle.v_reach.proofs.Visiting.{tells}
use Rattle.v_reach.proofs.driver.resting.Goals as goal

pub add_read-requires-clause-narrow : goal.add_read-requires-clause-narrow
add_read-requires-clause-narrow c = c.requires.fit.narrow

pub add_driven-requires-clause-narrow : goal.add_driven-requires-clause-narrow
add_driven-requires-clause-narrow c = c.requires.fit.narrow

pub run-requires-clause-variables : goal.run-requires-clause-variables
run-requires-clause-variables c =
    let s = scope_at c.args.scope.now in
    let x = statement_in c.args.driver in
    own-free s x (masked c.args.marked.now) (masked c.in_ok-table.table) c.requires.variables
    (c.in_ok-table.ensures ∙ ap (λ p. spread (and_in p (masked c.args.marked.now)))
    (ap bits_in c.deref.ensures.value ∙ c.in_ok-add_driven.ensures ∙ ap (λ p. or_in p (existing s (may_assign s x)))
    (c.in_ok-add_read.ensures ∙ ap (λ ys. or_in (bits_in ys) (statement_reads s x)) c.new-needed.ensures.items)))

pub returns : goal.returns
returns c =
    let s = scope_at c.args.scope.now in
    let x = statement_in c.args.driver in
    tells s x (masked c.args.marked.now) c.rests_where_it_depends.ensures c.requires.fit.narrow c.requires.variables
    (masked c.in_ok-table.table) (masked c.run.new.marked)
    (c.in_ok-table.ensures ∙ ap (λ p. spread (and_in p (masked c.args.marked.now)))
    (ap bits_in c.deref.ensures.value ∙ c.in_ok-add_driven.ensures ∙ ap (λ p. or_in p (existing s (may_assign s x)))
    (c.in_ok-add_read.ensures ∙ ap (λ ys. or_in (bits_in ys) (statement_reads s x)) c.new-needed.ensures.items)))
    c.in_ok-run.ensures
