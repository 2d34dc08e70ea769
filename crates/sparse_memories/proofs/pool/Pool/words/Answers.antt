use Rattle.std.proofs.Common.{◌∙◌, ◌++◌, List, ℕ, length, ap}
use Rattle.sparse_memories.specs.Nodes.{words_at}
use Rattle.sparse_memories.proofs.Trees.{length-words}
use Rattle.sparse_memories.proofs.pool.Pool.words.Goals as goal

pub returns-clause-length : goal.returns-clause-length
returns-clause-length c =
    ap (λ (x : List ℕ). length x) (c.in_ok-add_words.ensures ∙ ap (λ (x : List ℕ). x ++ words_at c.args.self.now.nodes c.args.depth c.args.memory.0) c.in_ok-words.ensures.items)
    ∙ length-words c.args.self.now.nodes c.args.depth c.args.memory.0
