use Rattle.std.proofs.Common.{◌∙◌, ap, subst, arith}
use Rattle.std.specs.Prelude.{map}
use Rattle.std.proofs.lemmas.List.{at_drop_all}
use Rattle.verilog_designs.specs.Reads.{or_in}
use Rattle.v_value.specs.Scope.{scope_at}
use Rattle.v_syntax.specs.Source.{item_of}
use Rattle.v_statement.proofs.Runs.{rest_is}
use Rattle.v_flow.specs.Spans.{bits_in}
use Rattle.v_flow.proofs.Sets.{turn, end}
use Rattle.v_undriven.specs.Reads.{all_items_read}
use Rattle.v_undriven.specs.Premises.{AreNarrowReads}
use Rattle.v_undriven.proofs.read.add_items.Goals as goal

pub add_item-requires-clause-narrow : goal.add_item-requires-clause-narrow
add_item-requires-clause-narrow c =
    let s = scope_at c.args.scope.now in
    let rest = rest_is c.args.items.now c.loop-item.item-index c.item-item.result (omega arith) c.item-item.is in
    (subst (λ ys. AreNarrowReads s (map item_of ys)) rest c.loop-item.invariant.narrow).0

pub loop-item-preserved : goal.loop-item-preserved
loop-item-preserved c =
    let s = scope_at c.args.scope.now in
    let rest = rest_is c.args.items.now c.loop-item.item-index c.item-item.result (omega arith) c.item-item.is in
    record {
      same = turn _ _ _ _ _
          (c.loop-item.invariant.same ∙ ap (λ ys. or_in (bits_in c.loop-item.found.items) (all_items_read s (map item_of ys))) rest)
          c.in_ok-add_item.ensures;
      narrow = (subst (λ ys. AreNarrowReads s (map item_of ys)) rest c.loop-item.invariant.narrow).1;
    }

pub returns : goal.returns
returns c =
    let s = scope_at c.args.scope.now in
    end _ _ _ c.loop-item.invariant.same
    (at_drop_all (λ ys. all_items_read s (map item_of ys)) c.args.items.now c.loop-item.item-index c.loop-item-test.false)
