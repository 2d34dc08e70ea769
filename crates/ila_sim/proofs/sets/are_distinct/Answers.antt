use Rattle.std.proofs.Common.{arith, map, ap, ◌∙◌}
use Rattle.ila_sim.specs.Sets.{key_of}
use Rattle.ila_sim.proofs.UnderNames.{distinct_start, distinct_turn, distinct_stop, was_absent, was_there}
use Rattle.ila_sim.proofs.sets.are_distinct.Goals as goal

pub loop-set-init : goal.loop-set-init
loop-set-init c = distinct_start c.new-seen.result (map key_of c.args.sets.now) c.new-seen.ensures.empty

pub returns-then-not-branch : goal.returns-then-not-branch
returns-then-not-branch c = distinct_stop c.args.sets.now c.loop-set.set-index c.set-item.result c.loop-set.seen c.key_of.result _ (omega arith) (c.key_of.ensures ∙ ap key_of c.set-item.is) (was_there _ _ c.in_ok-insert.ensures.added c.if-not-branch.true) c.loop-set.invariant

pub loop-set-preserved : goal.loop-set-preserved
loop-set-preserved c = distinct_turn c.args.sets.now c.loop-set.set-index c.set-item.result c.loop-set.seen c.insert.new.self c.key_of.result _ (omega arith) (c.key_of.ensures ∙ ap key_of c.set-item.is) c.in_ok-insert.ensures.updates (was_absent _ _ c.in_ok-insert.ensures.added c.if-not-branch.false) c.loop-set.invariant
