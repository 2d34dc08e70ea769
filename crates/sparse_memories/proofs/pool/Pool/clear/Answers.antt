use Rattle.sparse_memories.proofs.Trees.{first_stays, first_alone}
use Rattle.sparse_memories.proofs.pool.Pool.clear.Goals as goal

pub returns-clause-zeros : goal.returns-clause-zeros
returns-clause-zeros c d m =
    first_alone c.self.inside.branches.items c.truncate.new.self.items c.self.inside.leaves.items c.truncate-2.new.self.items c.self.invariant
    c.truncate.ensures.items c.truncate-2.ensures.items d m.0

pub invariant_of-self : goal.invariant_of-self
invariant_of-self c =
    rw (c.truncate.ensures.items, c.truncate-2.ensures.items)
    (first_stays c.self.inside.branches.items c.self.inside.leaves.items c.self.invariant)
