use Rattle.wb_values.specs.Value.{word}
use Rattle.v_value.specs.Scope.{object_of}
use Rattle.v_operators.proofs.Growing.{Grows-trans, IsOfSort-kept}
use Rattle.v_bits.proofs.AtIndexes.{moving_made}
use Rattle.v_bits.proofs.selecting.moving_at.Goals as goal

pub moved-requires-clause-operand : goal.moved-requires-clause-operand
moved-requires-clause-operand c = IsOfSort-kept c.args.operand.0 (word c.args.width) (Grows-trans c.in_ok-close.ensures.grows c.in_ok-place.ensures.grows) c.requires.operand

pub returns-clause-made : goal.returns-clause-made
returns-clause-made c =
    moving_made c.args.terms.now c.near.new.terms c.placed.new.terms c.moved.new.terms c.args.operand.0 c.args.width c.args.index.id.0 c.args.index.width c.in_ok-close.close.0 c.in_ok-place.place.0 c.in_ok-id.id.0
    c.args.wanted.count c.args.wanted.back c.args.index.signed (object_of c.args.wanted.object) c.requires.operand c.requires.at_most_128 c.requires.small c.in_ok-place.ensures.right
    c.in_ok-close.ensures.grows c.in_ok-close.ensures.made c.in_ok-place.ensures.grows c.in_ok-place.ensures.made c.in_ok-id.ensures.made
