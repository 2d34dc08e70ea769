use Rattle.std.proofs.Common.{◌≡◌, ℕ, sym, subst}
use Rattle.sparse_memories.specs.Nodes.{IsTree, words_at, zeros}
use Rattle.sparse_memories.proofs.Trees.{zero_tree, zero_words}
use Rattle.sparse_memories.proofs.pool.Pool.zeros.Goals as goal

pub returns-clause-memory : goal.returns-clause-memory
returns-clause-memory c d =
    subst (λ (k : ℕ). IsTree c.args.self.now.nodes d k) (sym c.zero_link.ensures.link) (zero_tree c.args.self.now.nodes c.zero_link.ensures.zeros d)

pub returns-clause-words : goal.returns-clause-words
returns-clause-words c d =
    subst (λ (k : ℕ). words_at c.args.self.now.nodes d k ≡ zeros d) (sym c.zero_link.ensures.link) (zero_words c.args.self.now.nodes c.zero_link.ensures.zeros d)
