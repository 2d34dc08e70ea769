use Rattle.v_operators.proofs.Spreading.{concat_made}
use Rattle.v_operators.proofs.parts.beside.Goals as goal

pub returns-clause-made : goal.returns-clause-made
returns-clause-made c =
    concat_made c.args.terms.now c.put.new.terms c.in_ok-id.id.0 c.args.high.0 c.args.high_width c.args.low.0 c.args.low_width c.requires.high c.requires.low c.requires.at_most_128
    c.in_ok-id.ensures.below c.in_ok-id.ensures.tree
