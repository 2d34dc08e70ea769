use Rattle.verilog_text.specs.Lexical.{continued_length}
use Rattle.v_lex.proofs.Quotes.{behind_bytes}
use Rattle.v_lex.proofs.directive.behind_defined.Goals as goal

pub returns-then-byte-eq92-clause-alone : goal.returns-then-byte-eq92-clause-alone
returns-then-byte-eq92-clause-alone c =
    behind_bytes c.args.alone c.args.byte c.args.more.now c.behind_line_end.result.now (continued_length c.args.more.now) c.requires c.behind_line_end.ensures
