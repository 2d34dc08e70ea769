use Rattle.verilog_text.specs.Lexical.{read_at}
use Rattle.v_lex.proofs.Quotes.{behind_at_front}
use Rattle.v_lex.proofs.state.Reader.pieces_front.Goals as goal

pub returns-in-Some-clause-alone : goal.returns-in-Some-clause-alone
returns-in-Some-clause-alone c =
    behind_at_front c.args.alone c.args.text.now c.in-Some.rest.now _ (read_at c.args.is_macro) c.requires c.in-Some.ensures.front
