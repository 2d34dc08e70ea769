use Rattle.std.proofs.Common.{◌∙◌}
use Rattle.ila_sim.proofs.Made.{set_turn}
use Rattle.ila_sim.proofs.beginning.set_states.Goals as goal

pub loop-k-preserved : goal.loop-k-preserved
loop-k-preserved c =
    set_turn c.loop-k.state c.args.sets.now c.loop-k.k c.index-sets-k.result c.set_word.new.self c.loop-k-test.true c.index-sets-k.is c.in_ok-set_word.ensures
    ∙ c.loop-k.invariant
