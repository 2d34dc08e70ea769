use Rattle.v_lex.proofs.Located.{outside_ascends}
use Rattle.v_lex.proofs.laws.places_ascend_outside_macros.Goals as goal

pub returns : goal.returns
returns c = outside_ascends
