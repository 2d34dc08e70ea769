use Rattle.std.proofs.Common.{◌∙◌, ap}
use Rattle.verilog_designs.specs.Reads.{or_in}
use Rattle.verilog_designs.specs.Drivers.{statement_reads}
use Rattle.v_value.specs.Scope.{scope_at}
use Rattle.v_flow.specs.Spans.{bits_in}
use Rattle.v_masks.specs.Masks.{masked}
use Rattle.v_order.specs.Lists.{statement_in}
use Rattle.v_reach.proofs.Visiting.{unreached-visited}
use Rattle.v_reach.proofs.visit.visit.Goals as goal

pub add_read-requires-clause-narrow : goal.add_read-requires-clause-narrow
add_read-requires-clause-narrow c = c.requires.fit.narrow

pub returns-then-not-reached : goal.returns-then-not-reached
returns-then-not-reached c =
    let s = scope_at c.args.scope.now in
    let x = statement_in c.args.driver in
    let reads_are = ap bits_in c.deref.ensures.value ∙ c.in_ok-add_read.ensures ∙ ap (λ ys. or_in (bits_in ys) (statement_reads s x)) c.new-read.ensures.items in
    unreached-visited c.rests_where_it_depends.ensures s x (masked c.args.marked.now) (bits_in c.deref.result.now) c.meets-reached.result c.requires.variables c.requires.fit.narrow
    reads_are c.meets-reached.ensures c.if-not-reached.true
