use Rattle.gate_words.proofs.Constants.{constant_start, constant_turn, constant_end}
use Rattle.gate_words.proofs.lists.constant.Goals as goal

pub loop-place-init : goal.loop-place-init
loop-place-init c = let e = c.in_ok-bits.ensures.items in rw e (constant_start c.args.number c.args.width c.requires)

pub loop-place-preserved : goal.loop-place-preserved
loop-place-preserved c = constant_turn c.args.number c.args.width c.loop-place.place c.loop-place.rest _ _ c.loop-place-test.true c.in_ok-push.ensures.items c.loop-place.invariant

pub returns-clause-number : goal.returns-clause-number
returns-clause-number c = constant_end c.args.number c.args.width c.loop-place.place c.loop-place.rest _ c.loop-place-test.false c.loop-place.invariant
