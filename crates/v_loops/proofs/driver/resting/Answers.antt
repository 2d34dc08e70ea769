use Rattle.std.proofs.Common.{◌∙◌, ap}
use Rattle.verilog_designs.specs.Reads.{and_in}
use Rattle.v_value.specs.Scope.{scope_at}
use Rattle.v_flow.specs.Spans.{bits_in}
use Rattle.v_masks.specs.Masks.{masked, spread}
use Rattle.v_order.specs.Lists.{statement_in}
use Rattle.v_loops.proofs.Held.{none-masked}
use Rattle.v_loops.proofs.Local.{own-free, nothing-rests}
use Rattle.v_loops.proofs.Adding.{tells}
use Rattle.v_loops.proofs.driver.resting.Goals as goal

pub returns-then-not-some : goal.returns-then-not-some
returns-then-not-some c =
    nothing-rests c.rests_where_it_depends.ensures (scope_at c.args.scope.now) (statement_in c.args.driver) (masked c.args.unsettled.now) (masked c.new-none.result)
    (bits_in c.args.needed.now) c.meets-some.result c.requires.fit.narrow c.requires.needed c.meets-some.ensures c.if-not-some.true
    (none-masked c.new-none.result c.new-none.ensures.empty)

pub run-requires-clause-variables : goal.run-requires-clause-variables
run-requires-clause-variables c =
    own-free (scope_at c.args.scope.now) (statement_in c.args.driver) (masked c.args.unsettled.now) (masked c.in_ok-table.table) c.requires.variables
    (c.in_ok-table.ensures ∙ ap (λ p. spread (and_in p (masked c.args.unsettled.now))) c.requires.needed)

pub returns : goal.returns
returns c =
    tells (scope_at c.args.scope.now) (statement_in c.args.driver) (masked c.args.unsettled.now) c.rests_where_it_depends.ensures c.requires.fit.narrow
    c.requires.variables (masked c.in_ok-table.table) (masked c.run.new.unsettled)
    (c.in_ok-table.ensures ∙ ap (λ p. spread (and_in p (masked c.args.unsettled.now))) c.requires.needed)
    c.in_ok-run.ensures
