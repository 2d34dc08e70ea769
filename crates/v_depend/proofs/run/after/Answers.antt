use Rattle.v_depend.proofs.run.after.Goals as goal

pub run-requires-clause-fit : goal.run-requires-clause-fit
run-requires-clause-fit c = record { narrow = c.requires.narrow; targets = c.requires.targets; plain = c.requires.plain }
