use Rattle.gate_base.proofs.building.Builder.ite.Goals as goal

pub and-requires-clause-x : goal.and-requires-clause-x
and-requires-clause-x c = c.negated.ensures.known _ c.requires.condition

pub or-requires-in_default-default-Constant-true-clause-x : goal.or-requires-in_default-default-Constant-true-clause-x
or-requires-in_default-default-Constant-true-clause-x c = c.negated-in_default-default-Constant-true.ensures.known _ c.requires.condition
