use Rattle.std.proofs.Common.{◌∙◌, ap, sym}
use Rattle.v_flow.specs.Spans.{bits_in}
use Rattle.v_paths.specs.Walks.{where_full}
use Rattle.v_paths.proofs.path.sure_where.Goals as goal

pub returns-then-full : goal.returns-then-full
returns-then-full c = ap (λ f. where_full f (bits_in c.args.sure.items)) (sym c.if-full.true)

pub returns : goal.returns
returns c = ap bits_in c.new.ensures.items ∙ ap (λ f. where_full f (bits_in c.args.sure.items)) (sym c.if-full.false)
