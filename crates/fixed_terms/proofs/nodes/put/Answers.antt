use Rattle.term_copies.proofs.Extending.{last_tree}
use Rattle.fixed_terms.proofs.nodes.put.Goals as goal

pub returns-in-Ok-clause-tree : goal.returns-in-Ok-clause-tree
returns-in-Ok-clause-tree c = last_tree c.args.terms.now c.put.new.self c.args.node c.in-Ok.id.0 c.in-Ok.ensures.id c.in-Ok.ensures.ok
