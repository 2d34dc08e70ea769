use Rattle.v_place.proofs.Place.{the_place, the_place_in_expression}
use Rattle.v_place.proofs.laws.the_place_is_told.Goals as goal

pub returns-clause-source : goal.returns-clause-source
returns-clause-source c = the_place

pub returns-clause-expression : goal.returns-clause-expression
returns-clause-expression c = the_place_in_expression
