use Rattle.std.proofs.Common.{◌∙◌, arith}
use Rattle.v_statement.proofs.Runs.{rest_is}
use Rattle.v_statement.proofs.Edges.{copy-turn}
use Rattle.v_statement.proofs.copy.copied.Goals as goal

pub loop-entry-preserved : goal.loop-entry-preserved
loop-entry-preserved c =
    let rest = rest_is c.args.values.now c.loop-entry.entry-index c.entry-item.result (omega arith) c.entry-item.is in
    c.loop-entry.invariant
    ∙ copy-turn c.args.values.now c.loop-entry.entries.items c.push.new.self.items c.loop-entry.entry-index c.entry-item.result c.in_ok-value.value rest
    c.in_ok-value.ensures c.in_ok-push.ensures.items
