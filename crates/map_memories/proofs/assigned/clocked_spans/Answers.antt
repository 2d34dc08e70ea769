use Rattle.std.proofs.Common.{◌∙◌, ◌+◌, [], ◌∷◌, drop, ap, subst, arith}
use Rattle.std.specs.Prelude.{map}
use Rattle.std.proofs.lemmas.List.{at_drop_all}
use Rattle.verilog_designs.specs.Reads.{or_in}
use Rattle.verilog_meaning.specs.Register.{clocked_blocks, counts}
use Rattle.v_value.specs.Scope.{scope_at}
use Rattle.v_syntax.specs.Source.{item_of}
use Rattle.v_flow.specs.Spans.{bits_in}
use Rattle.v_flow.proofs.Sets.{turn, end}
use Rattle.v_statement.proofs.Runs.{rest_is}
use Rattle.v_drivers.specs.Premises.{AreNarrowBlocks}
use Rattle.v_drivers.proofs.Driving.{narrow-blocks-append, clocked-of-items}
use Rattle.v_registers.proofs.Splitting.{counts_more, counts_none}
use Rattle.map_memories.proofs.assigned.clocked_spans.Goals as goal

pub add_item-requires-clause-narrow : goal.add_item-requires-clause-narrow
add_item-requires-clause-narrow c =
    let s = scope_at c.args.scope.now in
    let xs = c.args.items.now in
    let i = c.loop-item.item-index in
    let r = c.item-item.result in
    let more = map item_of (drop (i + 1) xs) in
    let rest = ap (λ ys. clocked_blocks (map item_of ys)) (rest_is xs i r (omega arith) c.item-item.is) ∙ clocked-of-items (item_of r) more in
    (narrow-blocks-append s (clocked_blocks (item_of r ∷ [])) (clocked_blocks more) (subst (AreNarrowBlocks s) rest c.loop-item.invariant.narrow)).0

pub loop-item-preserved : goal.loop-item-preserved
loop-item-preserved c =
    let s = scope_at c.args.scope.now in
    let xs = c.args.items.now in
    let i = c.loop-item.item-index in
    let r = c.item-item.result in
    let more = map item_of (drop (i + 1) xs) in
    let rest = ap (λ ys. clocked_blocks (map item_of ys)) (rest_is xs i r (omega arith) c.item-item.is) ∙ clocked-of-items (item_of r) more in
    record {
      same = turn _ _ _ _ _
          (c.loop-item.invariant.same
          ∙ ap (λ ys. or_in (bits_in c.loop-item.found.items) (counts s (clocked_blocks (map item_of ys)))) (rest_is xs i r (omega arith) c.item-item.is)
          ∙ ap (or_in (bits_in c.loop-item.found.items)) (counts_more s (item_of r) more))
          c.in_ok-add_item.ensures;
      narrow = (narrow-blocks-append s (clocked_blocks (item_of r ∷ [])) (clocked_blocks more) (subst (AreNarrowBlocks s) rest c.loop-item.invariant.narrow)).1;
    }

pub returns : goal.returns
returns c =
    let s = scope_at c.args.scope.now in
    end _ _ _ c.loop-item.invariant.same
    (at_drop_all (λ ys. counts s (clocked_blocks (map item_of ys))) c.args.items.now c.loop-item.item-index c.loop-item-test.false ∙ counts_none s)
