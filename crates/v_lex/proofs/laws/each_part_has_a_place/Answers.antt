use Rattle.v_lex.proofs.Located.{parts_have_places}
use Rattle.v_lex.proofs.laws.each_part_has_a_place.Goals as goal

pub returns : goal.returns
returns c = parts_have_places
