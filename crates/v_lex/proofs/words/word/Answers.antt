use Rattle.v_lex.proofs.Bytes.{word_there}
use Rattle.v_lex.proofs.words.word.Goals as goal

pub word_piece-requires : goal.word_piece-requires
word_piece-requires c =
    word_there c.args.text.now c.in-Some.more.now c.split_run.result.1.now c.taken_before.result.now _ c.in-Some.ensures.cases.0 c.split_run.ensures.rest
    c.taken_before.ensures c.requires
