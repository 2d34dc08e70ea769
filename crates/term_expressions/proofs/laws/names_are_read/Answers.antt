use Rattle.term_expressions.proofs.Names.{name_is_its_value, bits_are_extract, word_is_load}
use Rattle.term_expressions.proofs.laws.names_are_read.Goals as goal

pub returns : goal.returns
returns c = record { name = name_is_its_value; bits = bits_are_extract; word = word_is_load }
