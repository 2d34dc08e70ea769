use Rattle.gate_words.proofs.Signing.{at_most}
use Rattle.gate_words.proofs.signed.signed_at_most.Goals as goal

pub returns-clause-at_most : goal.returns-clause-at_most
returns-clause-at_most c =
    at_most c.signed_below.new.circuit c.args.xs.now c.args.ys.now c.in_ok-above.above c.negated.result c.requires.width c.in_ok-above.ensures.below c.negated.ensures.value c.negated.ensures.known
