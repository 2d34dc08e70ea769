use Rattle.v_operators.proofs.Growing.{Grows-refl}
use Rattle.v_settle.proofs.Placed.{piece_made, piece_whole}
use Rattle.v_settle.proofs.writing.piece.Goals as goal

pub returns-then-count-width-clause-grows : goal.returns-then-count-width-clause-grows
returns-then-count-width-clause-grows c = Grows-refl c.args.terms.now

pub returns-then-count-width-clause-made : goal.returns-then-count-width-clause-made
returns-then-count-width-clause-made c =
    piece_whole c.args.terms.now c.args.number.0 c.args.width c.args.low c.args.count c.requires.number c.if-count-width.true c.requires.within

pub returns-clause-made : goal.returns-clause-made
returns-clause-made c = piece_made c.args.terms.now c.part.new.terms c.args.number.0 c.args.width c.in_ok-id.id.0 c.args.low c.args.count c.requires.some_bits c.in_ok-id.ensures.made
