use Rattle.std.proofs.Common.{◌∙◌, ap, sym, arith}
use Rattle.v_write.specs.Cases.{default_from}
use Rattle.v_write.proofs.Trees.{none_left}
use Rattle.v_write.proofs.Items.{is_below}
use Rattle.v_write.proofs.choosing.default_item.Goals as goal

pub returns-clause-below : goal.returns-clause-below
returns-clause-below c =
    is_below c.args.items.now c.loop-index.found
    (sym (c.loop-index.invariant ∙ ap (λ ys. default_from c.loop-index.index ys c.loop-index.found) (none_left c.args.items.now c.loop-index.index (omega arith))))
