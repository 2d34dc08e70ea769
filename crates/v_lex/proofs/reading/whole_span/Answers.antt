use Rattle.std.proofs.Common.{length, arith}
use Rattle.v_lex.proofs.Quotes.{nothing_said}
use Rattle.v_lex.proofs.reading.whole_span.Goals as goal

pub invariant_of-result : goal.invariant_of-result
invariant_of-result c = record { are_alone = nothing_said (length c.args.text.now) c.args.text.now (omega arith) }
