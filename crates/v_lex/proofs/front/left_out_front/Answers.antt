use Rattle.verilog_text.specs.Lexical.{conditional_behind}
use Rattle.v_lex.proofs.Quotes.{behind_front, behind_run}
use Rattle.v_lex.proofs.front.left_out_front.Goals as goal

pub returns-then-first-eq96-clause-alone : goal.returns-then-first-eq96-clause-alone
returns-then-first-eq96-clause-alone c =
    behind_front c.args.alone _ c.args.text.now c.in-Some.more.now _ _ (conditional_behind c.in-Some.more.now) c.requires c.in-Some.ensures.cases.0
    c.in-Some-left_out_directive.ensures.front

pub returns-then-begins_with_byte-clause-alone : goal.returns-then-begins_with_byte-clause-alone
returns-then-begins_with_byte-clause-alone c =
    behind_run c.args.alone _ c.args.text.now c.in-Some.more.now _ _ c.requires c.in-Some.ensures.cases.0 c.split_run.ensures.rest
