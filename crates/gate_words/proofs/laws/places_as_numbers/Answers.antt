use Rattle.gate_words.proofs.Numbers.{choose_all, number-and, number-not, number-or, number-xor}
use Rattle.gate_words.proofs.laws.places_as_numbers.Goals as goal

pub returns-clause-complement : goal.returns-clause-complement
returns-clause-complement c = number-not

pub returns-clause-conjunction : goal.returns-clause-conjunction
returns-clause-conjunction c = number-and

pub returns-clause-disjunction : goal.returns-clause-disjunction
returns-clause-disjunction c = number-or

pub returns-clause-exclusive_or : goal.returns-clause-exclusive_or
returns-clause-exclusive_or c = number-xor

pub returns-clause-choice : goal.returns-clause-choice
returns-clause-choice c = choose_all
