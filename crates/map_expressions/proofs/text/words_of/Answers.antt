use Rattle.std.proofs.Common.{arith}
use Rattle.map_expressions.proofs.Words.{word_turn, word_end}
use Rattle.map_expressions.proofs.text.words_of.Goals as goal

pub loop-token-preserved : goal.loop-token-preserved
loop-token-preserved c =
    word_turn c.loop-token.names.items c.add_word.new.names.items c.args.tokens.now c.loop-token.token-index c.token-item.result _ _ (omega arith) c.token-item.is
    c.in_ok-add_word.ensures c.loop-token.invariant

pub returns : goal.returns
returns c = word_end c.loop-token.names.items c.args.tokens.now c.loop-token.token-index _ (omega arith) c.loop-token.invariant
