use Rattle.shown_facts.proofs.Acting.{instruction_within}
use Rattle.shown_facts.proofs.instructions.applied.Goals as goal

pub apply-requires-clause-state : goal.apply-requires-clause-state
apply-requires-clause-state c = c.requires.shown.first_is.sorted

pub apply-requires-clause-inputs : goal.apply-requires-clause-inputs
apply-requires-clause-inputs c = c.requires.shown.inputs_sorted

pub apply-requires-clause-place : goal.apply-requires-clause-place
apply-requires-clause-place c = instruction_within c.args.given.now.model.now c.args.place c.requires.place
