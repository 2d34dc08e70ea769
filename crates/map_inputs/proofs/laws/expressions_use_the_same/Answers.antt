use Rattle.map_inputs.proofs.Using.{uses-the-same}
use Rattle.map_inputs.proofs.laws.expressions_use_the_same.Goals as goal

pub returns : goal.returns
returns c = λ d f s t items names g e marked h dots known are.
    uses-the-same c.bits_come_the_same.ensures c.known_names_stand_for_names.ensures c.names_stand_in_trees.ensures.expressions c.scopes_agree_on_expressions.ensures.expressions
    d f s t items names g e marked h dots known are
