use Rattle.mapped_designs.specs.View.{mapped_of}
use Rattle.run_watch.proofs.Lists.{reset_condition}
use Rattle.run_watch.proofs.failing.failing_premise.Goals as goal

pub holds_in-is_active-requires-clause-condition : goal.holds_in-is_active-requires-clause-condition
holds_in-is_active-requires-clause-condition c = reset_condition (mapped_of c.args.mapped.now) c.requires.conditions
