use Rattle.v_reach.proofs.driver.run_net.Goals as goal

pub take-requires-clause-target : goal.take-requires-clause-target
take-requires-clause-target c = c.requires.fit.narrow.0

pub take-requires-clause-value : goal.take-requires-clause-value
take-requires-clause-value c = c.requires.fit.narrow.1

pub take-requires-clause-at_most_128 : goal.take-requires-clause-at_most_128
take-requires-clause-at_most_128 c = c.requires.fit.targets

pub take-requires-clause-reached : goal.take-requires-clause-reached
take-requires-clause-reached c = c.requires.fit.plain

pub take-requires-clause-variables : goal.take-requires-clause-variables
take-requires-clause-variables c = c.requires.variables

pub returns : goal.returns
returns c = c.in_ok-take.ensures
