use Rattle.std.proofs.Common.{◌≡◌, ◌++◌, [], map, length, drop}
use Rattle.ob_mem.specs.Words.{AreFree, words_of, starts_of, entry_of_word}
use Rattle.ob_mem.proofs.names.with_words.Given as goal

abbrev pub invariant-loop-place : goal.invariant-loop-place
invariant-loop-place l =
    (l.list.items ++ words_of l.place (length l.terms.names) (drop l.place l.old.names) ≡ words_of 0 (length l.old.names) l.old.names)
    × (l.terms.names ≡ l.old.names ++ map (entry_of_word l.marks l.old.names) l.list.items)
    × (l.firsts.items ++ starts_of (length l.terms.names) (drop l.place l.old.names) ≡ starts_of (length l.old.names) l.old.names)
    × (l.terms.nodes ≡ []) × AreFree l.marks l.terms.names
