use Rattle.std.proofs.Common.{ap, ◌∙◌}
use Rattle.sparse_memories.specs.Nodes.{Content}
use Rattle.sparse_memories.proofs.Trees.{keeps_branch, new_branch}
use Rattle.sparse_memories.proofs.pool.Pool.put_branch.Goals as goal

pub returns-clause-tree : goal.returns-clause-tree
returns-clause-tree c d l u =
    (new_branch c.self.inside.branches.items c.push_reserved.new.self.items c.self.inside.leaves.items (record { lower = c.args.lower; upper = c.args.upper }) c.args.self.now.nodes c.len-place.result d
    c.push_reserved.ensures.items (ap (λ (x : Content). x.nodes) c.self.view_is) (c.len-place.ensures ∙ c.self.inside.branches.ok.0) l u).0

pub returns-clause-words : goal.returns-clause-words
returns-clause-words c d l u =
    (new_branch c.self.inside.branches.items c.push_reserved.new.self.items c.self.inside.leaves.items (record { lower = c.args.lower; upper = c.args.upper }) c.args.self.now.nodes c.len-place.result d
    c.push_reserved.ensures.items (ap (λ (x : Content). x.nodes) c.self.view_is) (c.len-place.ensures ∙ c.self.inside.branches.ok.0) l u).1

pub returns-clause-keeps : goal.returns-clause-keeps
returns-clause-keeps c =
    rw c.push_reserved.ensures.items
    (keeps_branch c.self.inside.branches.items c.self.inside.leaves.items (record { lower = c.args.lower; upper = c.args.upper }) c.args.self.now.nodes (ap (λ (x : Content). x.nodes) c.self.view_is))
