use Rattle.sat_base.proofs.Worked.{not_earlier, satisfied, once, twice, early, none, repeated, tautology, from_empty}
use Rattle.sat_base.proofs.examples.hints.Goals as goal

pub returns-clause-not_earlier : goal.returns-clause-not_earlier
returns-clause-not_earlier c = not_earlier

pub returns-clause-satisfied : goal.returns-clause-satisfied
returns-clause-satisfied c = satisfied

pub returns-clause-once : goal.returns-clause-once
returns-clause-once c = once

pub returns-clause-twice : goal.returns-clause-twice
returns-clause-twice c = twice

pub returns-clause-early : goal.returns-clause-early
returns-clause-early c = early

pub returns-clause-none : goal.returns-clause-none
returns-clause-none c = none

pub returns-clause-repeated : goal.returns-clause-repeated
returns-clause-repeated c = repeated

pub returns-clause-tautology : goal.returns-clause-tautology
returns-clause-tautology c = tautology

pub returns-clause-from_empty : goal.returns-clause-from_empty
returns-clause-from_empty c = from_empty
