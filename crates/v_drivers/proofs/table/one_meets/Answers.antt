use Rattle.std.proofs.Common.{◌∙◌, sym, arith}
use Rattle.v_value.specs.Scope.{scope_at}
use Rattle.v_masks.specs.Masks.{mask_under}
use Rattle.v_drivers.specs.Tables.{span_meets}
use Rattle.v_drivers.proofs.Adding.{any-turn, any-found}
use Rattle.v_drivers.proofs.table.one_meets.Goals as goal

pub loop-span-preserved : goal.loop-span-preserved
loop-span-preserved c =
    any-turn (span_meets (scope_at c.args.scope.now) (mask_under c.args.table.now)) c.args.spans.now c.loop-span.span-index _ _ (omega arith)
    (sym c.span_meets.ensures ∙ c.if-span_meets.false) c.loop-span.invariant

pub returns-then-span_meets : goal.returns-then-span_meets
returns-then-span_meets c =
    any-found (span_meets (scope_at c.args.scope.now) (mask_under c.args.table.now)) c.args.spans.now c.loop-span.span-index _ _ (omega arith)
    (sym c.span_meets.ensures ∙ c.if-span_meets.true) c.loop-span.invariant
