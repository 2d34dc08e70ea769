use Rattle.std.proofs.Common.{false}
use Rattle.verilog_text.specs.Lexical.{closing_length}
use Rattle.v_lex.proofs.Texts.{some_rest}
use Rattle.v_lex.proofs.Quotes.{behind_byte, behind_closed}
use Rattle.v_lex.proofs.directive.behind_passed.Goals as goal

pub returns-then-begins_with_byte-clause-alone : goal.returns-then-begins_with_byte-clause-alone
returns-then-begins_with_byte-clause-alone c =
    let n = some_rest c.behind.result.now c.in-Some.rest.now (closing_length 42 47 false c.behind.result.now) c.in-Some.ensures in
    behind_closed c.args.alone c.args.byte c.args.more.now c.behind.result.now c.in-Some.rest.now 1 n.0 c.requires c.behind.ensures n.2

pub returns-clause-alone : goal.returns-clause-alone
returns-clause-alone c = behind_byte c.args.alone c.args.byte c.args.more.now c.requires
