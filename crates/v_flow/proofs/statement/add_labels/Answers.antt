use Rattle.std.proofs.Common.{◌∙◌, ap, subst, arith}
use Rattle.std.proofs.lemmas.List.{at_drop_all}
use Rattle.verilog_designs.specs.Reads.{or_in}
use Rattle.v_value.specs.Scope.{scope_at}
use Rattle.v_statement.proofs.Runs.{rest_is}
use Rattle.v_flow.specs.Spans.{bits_in}
use Rattle.v_flow.specs.Flow.{labels_read, AreNarrowItems}
use Rattle.v_flow.proofs.Sets.{turn, end}
use Rattle.v_flow.proofs.Flows as flow
use Rattle.v_flow.proofs.statement.add_labels.Goals as goal

pub add_label-requires-clause-narrow : goal.add_label-requires-clause-narrow
add_label-requires-clause-narrow c =
    let s = (scope_at c.args.scope.now) in
    let xs = c.args.items.now in
    let i = c.loop-item.item-index in
    let rest = rest_is xs i c.item-item.result (omega arith) c.item-item.is in
    let n = subst (AreNarrowItems s) rest c.loop-item.invariant.narrow in
    n.0

pub loop-item-preserved : goal.loop-item-preserved
loop-item-preserved c =
    let s = (scope_at c.args.scope.now) in
    let xs = c.args.items.now in
    let i = c.loop-item.item-index in
    let rest = rest_is xs i c.item-item.result (omega arith) c.item-item.is in
    let n = subst (AreNarrowItems s) rest c.loop-item.invariant.narrow in
    record { same = turn _ _ _ _ _ (c.loop-item.invariant.same ∙ ap (λ ys. or_in (bits_in c.loop-item.found.items) (labels_read s ys)) rest) c.in_ok-add_label.ensures; narrow = n.2 }

pub returns : goal.returns
returns c = end _ _ _ c.loop-item.invariant.same (at_drop_all (labels_read (scope_at c.args.scope.now)) c.args.items.now c.loop-item.item-index c.loop-item-test.false)
