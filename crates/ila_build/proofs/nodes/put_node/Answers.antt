use Rattle.ila_build.proofs.Growing.{put_as}
use Rattle.ila_build.proofs.LeavingLemmas.{added_as}
use Rattle.ila_build.proofs.nodes.put_node.Goals as goal

pub returns-clause-put : goal.returns-clause-put
returns-clause-put c = put_as c.args.terms.now c.put.new.self c.args.node c.put.result c.put.ensures.id c.put.ensures.ok c.put.ensures.trees c.put.ensures.bad_sort c.put.ensures.err

pub returns-clause-added : goal.returns-clause-added
returns-clause-added c = added_as c.args.terms.now c.put.new.self c.args.node c.put.result c.put.ensures.ok c.put.ensures.err
