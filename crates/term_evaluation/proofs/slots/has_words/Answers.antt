use Rattle.std.proofs.Common.{◌≡◌, ◌∙◌, ℕ, List, length, get_or, refl, sym, ap, arith}
use Rattle.std.proofs.lemmas.Bool.{false≢true}
use Rattle.sparse_memories.specs.Memories.{words_of}
use Rattle.term_evaluation.proofs.SlotLemmas.{length-words_of, same_lists, same_more}
use Rattle.term_evaluation.proofs.slots.has_words.Goals as goal

pub returns-then-words-word_count : goal.returns-then-words-word_count
returns-then-words-word_count c =
    (λ h. absurd (false≢true h), λ h. absurd (c.if-words-word_count.true (omega (arith, ap (λ (ws : List ℕ). length ws) h, length-words_of c.args.pool.now c.args.depth c.args.memory, c.word_count.ensures))))

pub returns-then-load_in-words : goal.returns-then-load_in-words
returns-then-load_in-words c =
    (λ h. absurd (false≢true h), λ h. absurd (c.if-load_in-words.true (c.load_in.ensures ∙ ap (λ (ws : List ℕ). get_or ws c.loop-k.k 0) h)))

pub loop-k-preserved : goal.loop-k-preserved
loop-k-preserved c j l = same_more _ c.args.words.now c.loop-k.k j l c.loop-k.invariant (sym c.load_in.ensures ∙ c.if-load_in-words.false)

pub returns : goal.returns
returns c =
    let n = length-words_of c.args.pool.now c.args.depth c.args.memory in
    let count : length (words_of c.args.pool.now c.args.depth c.args.memory) ≡ length c.args.words.now = omega (arith, n, c.if-words-word_count.false, c.word_count.ensures) in
    (λ h. same_lists _ _ count (λ k l. c.loop-k.invariant k (omega (arith, l, count))), λ h. refl)
