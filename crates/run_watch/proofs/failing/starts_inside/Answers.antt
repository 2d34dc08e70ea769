use Rattle.mapped_designs.specs.View.{mapped_of}
use Rattle.run_watch.proofs.Lists.{start_condition}
use Rattle.run_watch.proofs.failing.starts_inside.Goals as goal

pub holds_in-requires-clause-condition : goal.holds_in-requires-clause-condition
holds_in-requires-clause-condition c = start_condition (mapped_of c.args.mapped.now) c.requires.conditions
