use Rattle.wb_values.specs.Value.{word}
use Rattle.v_operators.proofs.Growing.{IsOfSort-kept}
use Rattle.v_bits.proofs.Placing.{less_by_made}
use Rattle.v_bits.proofs.moving.less_by.Goals as goal

pub difference-requires-clause-left : goal.difference-requires-clause-left
difference-requires-clause-left c = IsOfSort-kept c.args.place.0 (word 64) c.in_ok-known.ensures.grows c.requires.place

pub returns-clause-made : goal.returns-clause-made
returns-clause-made c =
    less_by_made c.args.terms.now c.constant.new.terms c.difference.new.terms c.args.place.0 c.in_ok-known.known.0 c.in_ok-id.id.0 c.args.number c.requires.place c.in_ok-known.ensures.grows c.in_ok-known.ensures.value c.in_ok-id.ensures.made
