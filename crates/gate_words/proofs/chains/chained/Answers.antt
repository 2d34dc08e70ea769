use Rattle.gate_words.proofs.Chaining.{chain_start, chain_turn, chain_end}
use Rattle.gate_words.proofs.chains.chained.Goals as goal

pub loop-place-init : goal.loop-place-init
loop-place-init c = let e = c.in_ok-bits.ensures.items in rw e (chain_start _ c.args.cell c.args.carry c.args.xs.now c.args.ys.now c.requires.carry)

pub loop-place-preserved : goal.loop-place-preserved
loop-place-preserved c =
    chain_turn _ _ _ _ _ _ _ _ _ _ _ _ c.loop-place.place _ c.loop-place.invariant c.in_ok-step.ensures.grows c.in_ok-step.ensures.cell c.in_ok-push.ensures.items c.loop-place-test.true c.requires.width

pub returns-clause-chain : goal.returns-clause-chain
returns-clause-chain c = chain_end _ _ _ _ _ _ _ _ c.loop-place.place c.loop-place.invariant c.loop-place-test.false
