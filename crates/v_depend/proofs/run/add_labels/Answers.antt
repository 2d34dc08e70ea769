use Rattle.std.proofs.Common.{◌∙◌, ◌+◌, ap, subst, arith, drop}
use Rattle.std.proofs.lemmas.List.{at_drop_all}
use Rattle.verilog_designs.specs.Reads.{or_in, items_read}
use Rattle.v_value.specs.Scope.{scope_at}
use Rattle.v_statement.specs.Effects.{item_list}
use Rattle.v_statement.proofs.Runs.{rest_is}
use Rattle.v_flow.specs.Spans.{bits_in}
use Rattle.v_flow.specs.Flow.{AreNarrowItems}
use Rattle.v_flow.proofs.Sets.{turn, end}
use Rattle.v_depend.proofs.Runs as runs
use Rattle.v_depend.proofs.run.add_labels.Goals as goal

pub add_label_reads-requires-clause-narrow : goal.add_label_reads-requires-clause-narrow
add_label_reads-requires-clause-narrow c =
    let s = scope_at c.args.scope.now in
    let rest = rest_is c.args.items.now c.loop-item.item-index c.item-item.result (omega arith) c.item-item.is in
    (subst (AreNarrowItems s) rest c.loop-item.invariant.narrow).0

pub loop-item-preserved : goal.loop-item-preserved
loop-item-preserved c =
    let s = scope_at c.args.scope.now in
    let xs = c.args.items.now in
    let i = c.loop-item.item-index in
    let rest = rest_is xs i c.item-item.result (omega arith) c.item-item.is in
    record {
      same = turn _ _ _ _ _ (c.loop-item.invariant.same ∙ ap (λ ys. or_in (bits_in c.loop-item.found.items) (items_read s (item_list ys))) rest
          ∙ ap (or_in (bits_in c.loop-item.found.items)) (runs.label-first s c.item-item.result (drop (i + 1) xs))) c.in_ok-add_label_reads.ensures;
      narrow = (subst (AreNarrowItems s) rest c.loop-item.invariant.narrow).2;
    }

pub returns : goal.returns
returns c =
    end _ _ _ c.loop-item.invariant.same
    (at_drop_all (λ ys. items_read (scope_at c.args.scope.now) (item_list ys)) c.args.items.now c.loop-item.item-index c.loop-item-test.false)
