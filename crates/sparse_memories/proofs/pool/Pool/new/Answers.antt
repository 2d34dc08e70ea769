use Rattle.std.proofs.Common.{rules}
use Rattle.sparse_memories.proofs.Trees.{new_zeros}
use Rattle.sparse_memories.proofs.pool.Pool.new.Goals as goal

pub returns : goal.returns
returns c d m =
    new_zeros c.in_ok-branches.branches.items c.in_ok-leaves.leaves.items
    (c.in_ok-branches.ensures.items_if_clones_equal (λ y same. search rules)) (c.in_ok-leaves.ensures.items_if_clones_equal (λ y same. search rules)) d m.0
