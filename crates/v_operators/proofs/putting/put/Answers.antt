use Rattle.v_operators.proofs.Growing.{Grows-same, node_tree}
use Rattle.v_operators.proofs.putting.put.Goals as goal

pub returns-in-Ok-clause-tree : goal.returns-in-Ok-clause-tree
returns-in-Ok-clause-tree c = node_tree c.args.terms.now c.put.new.self c.args.node c.in-Ok.id.0 c.in-Ok.ensures.trees c.in-Ok.ensures.id

pub returns-in-Err-NoMemory-clause-grows : goal.returns-in-Err-NoMemory-clause-grows
returns-in-Err-NoMemory-clause-grows c = Grows-same c.args.terms.now c.put.new.self c.in-Err-NoMemory.ensures.err
