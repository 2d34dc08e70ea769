use Rattle.std.proofs.Common.{◌^◌}
use Rattle.ila_sim.proofs.Last.{not_at_end}
use Rattle.ila_sim.proofs.sets.before_bracket.Goals as goal

pub returns-then-end-text : goal.returns-then-end-text
returns-then-end-text c = rw (c.in-Some.ensures.cut) (not_at_end (2 ^ 128) c.args.text.now c.in-Some.end c.if-end-text.true)
