use Rattle.std.proofs.Common.{ap}
use Rattle.sparse_memories.specs.Nodes.{Content}
use Rattle.sparse_memories.proofs.Trees.{keeps_leaf}
use Rattle.sparse_memories.proofs.pool.Pool.put_leaf.Goals as goal

pub returns-clause-keeps : goal.returns-clause-keeps
returns-clause-keeps c =
    rw c.push_reserved.ensures.items
    (keeps_leaf c.self.inside.branches.items c.self.inside.leaves.items c.args.word c.args.self.now.nodes (ap (λ (x : Content). x.nodes) c.self.view_is))
