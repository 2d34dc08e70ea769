use Rattle.std.proofs.Common.{arith, drop}
use Rattle.std.proofs.lemmas.List.{at_drop_all}
use Rattle.verilog_meaning.specs.Register.{is_set}
use Rattle.v_value.specs.Scope.{scope_at}
use Rattle.v_drivers.specs.Tables.{spans_mask}
use Rattle.v_drivers.proofs.Adding.{masks-turn, masks-end}
use Rattle.v_drivers.proofs.table.add_masks.Goals as goal

pub loop-span-preserved : goal.loop-span-preserved
loop-span-preserved c n b =
    masks-turn (scope_at c.args.scope.now) c.args.spans.now c.loop-span.span-index _ n b _ _ _ (omega arith) (c.in_ok-add_mask.ensures n b) (c.loop-span.invariant n b)

pub returns : goal.returns
returns c n b =
    let s = scope_at c.args.scope.now in
    masks-end s (drop c.loop-span.span-index c.args.spans.now) n b _ _ (c.loop-span.invariant n b)
    (at_drop_all (λ ys. is_set (spans_mask s ys n) b) c.args.spans.now c.loop-span.span-index c.loop-span-test.false)
