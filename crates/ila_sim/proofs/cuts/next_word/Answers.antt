use Rattle.ila_sim.proofs.Words.{next_words, no_words, from_there, rest_shorter, is_empty, is_full}
use Rattle.ila_sim.proofs.cuts.next_word.Goals as goal

pub returns-then-is_empty-clause-words : goal.returns-then-is_empty-clause-words
returns-then-is_empty-clause-words c = no_words c.args.line.now c.behind_blanks-line.result.now c.behind_blanks-line.ensures (is_empty c.behind_blanks-line.result.now c.is_empty.result c.is_empty.ensures c.if-is_empty.true)

pub returns-clause-words : goal.returns-clause-words
returns-clause-words c =
    let xs = c.behind_blanks-line.result.now in
    rw (from_there xs c.word_length-end.result, c.word_length-end.ensures.length)
    (next_words c.args.line.now xs c.behind_blanks-line.ensures (is_full c.behind_blanks-line.result.now c.is_empty.result c.is_empty.ensures c.if-is_empty.false))

pub returns-clause-shorter : goal.returns-clause-shorter
returns-clause-shorter c =
    let xs = c.behind_blanks-line.result.now in
    rw (from_there xs c.word_length-end.result, c.word_length-end.ensures.length)
    (rest_shorter c.args.line.now xs c.behind_blanks-line.ensures (is_full c.behind_blanks-line.result.now c.is_empty.result c.is_empty.ensures c.if-is_empty.false))
