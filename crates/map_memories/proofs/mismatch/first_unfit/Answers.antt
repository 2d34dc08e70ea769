use Rattle.std.proofs.Common.{sym, subst, map, Some, arith}
use Rattle.map_file.specs.View.{mapped_view}
use Rattle.map_memories.specs.Mismatch.{IsFirstUnfit}
use Rattle.map_memories.proofs.Entries.{one_unfit, one_fits, none_unfit}
use Rattle.map_memories.proofs.mismatch.first_unfit.Goals as goal

pub loop-entry-init : goal.loop-entry-init
loop-entry-init c = λ d m known sorts o h. h

pub loop-entry-preserved : goal.loop-entry-preserved
loop-entry-preserved c = λ d m known sorts.
    one_fits mapped_view d m c.args.entries.now c.loop-entry.entry-index c.entry-item.result _ _ (omega arith) c.entry-item.is (c.in_ok-is_unfit.ensures d m known sorts)
    (c.loop-entry.invariant d m known sorts) c.if-branch.false

pub returns-then-branch : goal.returns-then-branch
returns-then-branch c = λ d m known sorts.
    subst (λ n. IsFirstUnfit d m (map mapped_view c.args.entries.now) (Some n)) (sym c.as_str.ensures.value)
    (one_unfit mapped_view d m c.args.entries.now c.loop-entry.entry-index c.entry-item.result _ _ (omega arith) c.entry-item.is (c.in_ok-is_unfit.ensures d m known sorts)
    (c.loop-entry.invariant d m known sorts) c.if-branch.true)

pub returns : goal.returns
returns c = λ d m known sorts. none_unfit mapped_view d m c.args.entries.now c.loop-entry.entry-index c.loop-entry-test.false (c.loop-entry.invariant d m known sorts)
