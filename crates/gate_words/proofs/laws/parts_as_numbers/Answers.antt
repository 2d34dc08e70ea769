use Rattle.gate_words.proofs.Numbers.{number-append, number-drop, number-ones, number-take, number-zeros, top_of}
use Rattle.gate_words.proofs.laws.parts_as_numbers.Goals as goal

pub returns-clause-joined : goal.returns-clause-joined
returns-clause-joined c = number-append

pub returns-clause-low : goal.returns-clause-low
returns-clause-low c = number-take

pub returns-clause-high : goal.returns-clause-high
returns-clause-high c = number-drop

pub returns-clause-zeros : goal.returns-clause-zeros
returns-clause-zeros c = number-zeros

pub returns-clause-ones : goal.returns-clause-ones
returns-clause-ones c = number-ones

pub returns-clause-top : goal.returns-clause-top
returns-clause-top c = top_of
