use Rattle.gate_words.proofs.Numbers.{last-below, last-same, number-difference, number-sum}
use Rattle.gate_words.proofs.laws.carries_as_numbers.Goals as goal

pub returns-clause-sum : goal.returns-clause-sum
returns-clause-sum c = number-sum

pub returns-clause-difference : goal.returns-clause-difference
returns-clause-difference c = number-difference

pub returns-clause-equal : goal.returns-clause-equal
returns-clause-equal c = last-same

pub returns-clause-below : goal.returns-clause-below
returns-clause-below c = last-below
