use Rattle.term_expressions.proofs.Joined.{sized_is_const, parts_are_concat, filled_is_zext}
use Rattle.term_expressions.proofs.laws.parts_are_joined.Goals as goal

pub returns : goal.returns
returns c = record { constant = sized_is_const; parts = parts_are_concat; filled = filled_is_zext }
