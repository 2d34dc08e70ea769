use Rattle.std.proofs.Common.{◌∙◌, ap, cond, true}
use Rattle.wb_values.specs.Value.{same_name}
use Rattle.v_clocks.proofs.Walks.{one_more, alone_true}
use Rattle.v_clocks.proofs.nets.of_top.Goals as goal

pub returns : goal.returns
returns c = λ q.
    one_more c.none-nets.result c.insert.new.self c.args.clock _ c.in_ok-insert.ensures.updates q
    ∙ ap (λ b. cond (same_name c.args.clock.now q) true b) (c.none-nets.ensures q) ∙ alone_true (same_name c.args.clock.now q)
