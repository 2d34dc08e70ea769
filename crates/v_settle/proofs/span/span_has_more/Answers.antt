use Rattle.v_masks.specs.Masks.{mask_under}
use Rattle.v_settle.proofs.Walks.{span-covered}
use Rattle.v_settle.proofs.span.span_has_more.Goals as goal

pub returns : goal.returns
returns c = λ e. span-covered c.args.span (mask_under c.args.table.now) c.mask_under.result c.without.result c.mask_under.ensures c.without.ensures e
