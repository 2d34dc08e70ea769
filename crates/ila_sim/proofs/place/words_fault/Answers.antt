use Rattle.scripts.specs.Script.{words_of}
use Rattle.ila_sim.proofs.Again.{sets_again, sets_one}
use Rattle.ila_sim.proofs.UnderNames.{was_absent, was_there}
use Rattle.ila_sim.proofs.place.words_fault.Goals as goal

pub returns-then-not-branch : goal.returns-then-not-branch
returns-then-not-branch c =
    sets_again c.args.index.now.settables.now c.loop-word.seen (words_of c.args.line.now) (words_of c.loop-word.rest.now) (words_of c.in-Some.next.now) c.in-Some.word.now c.in-Some-set_in.set c.key_of.result
    c.loop-word.invariant c.in-Some.ensures.words c.in-Some-set_in.ensures.set c.args.index.now.apart c.in-Some-set_in.ensures.right c.key_of.ensures
    (was_there _ _ c.in_ok-insert.ensures.added c.if-not-branch.true)

pub loop-word-preserved : goal.loop-word-preserved
loop-word-preserved c =
    sets_one c.args.index.now.settables.now c.loop-word.seen c.insert.new.self (words_of c.args.line.now) (words_of c.loop-word.rest.now) (words_of c.in-Some.next.now) c.in-Some.word.now c.in-Some-set_in.set
    c.key_of.result c.loop-word.invariant c.in-Some.ensures.words c.in-Some-set_in.ensures.set c.args.index.now.apart c.in-Some-set_in.ensures.right c.key_of.ensures
    (was_absent _ _ c.in_ok-insert.ensures.added c.if-not-branch.false) c.in_ok-insert.ensures.updates
