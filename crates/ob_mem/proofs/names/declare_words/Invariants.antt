use Rattle.std.proofs.Common.{◌≡◌, ◌++◌, map, length}
use Rattle.ob_mem.specs.Words.{AreFree, listed, word_at, entry_of_word}
use Rattle.ob_mem.proofs.names.declare_words.Given as goal

abbrev pub invariant-loop-address : goal.invariant-loop-address
invariant-loop-address l =
    (l.list.items ≡ l.fn.list.items ++ listed (word_at l.fn.memory.0 (length l.fn.terms.names)) l.address)
    × (l.terms.names ≡ l.fn.terms.names ++ map (entry_of_word l.marks l.old.names) (listed (word_at l.fn.memory.0 (length l.fn.terms.names)) l.address))
    × (l.terms.nodes ≡ l.fn.terms.nodes) × AreFree l.marks l.terms.names
