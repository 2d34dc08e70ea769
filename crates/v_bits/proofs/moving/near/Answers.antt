use Rattle.v_bits.proofs.Placing.{near_short, near_long}
use Rattle.v_bits.proofs.moving.near.Goals as goal

pub returns-then-width-le62-clause-made : goal.returns-then-width-le62-clause-made
returns-then-width-le62-clause-made c = near_short c.args.terms.now c.widened.new.terms c.args.index.0 c.args.width c.in_ok-id.id.0 c.args.signed c.if-width-le62.true c.in_ok-id.ensures.made

pub returns-clause-made : goal.returns-clause-made
returns-clause-made c = near_long c.args.terms.now c.near_wide.new.terms c.args.index.0 c.args.width c.in_ok-id-2.id.0 c.args.signed c.if-width-le62.false c.in_ok-id-2.ensures.made
