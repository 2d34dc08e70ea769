use Rattle.verilog_meaning.specs.Register.{is_set}
use Rattle.v_flow.specs.Spans.{is_between}
use Rattle.v_paths.proofs.Tables as tables
use Rattle.v_paths.proofs.mask.first_word.Goals as goal

pub returns-then-has_first_word : goal.returns-then-has_first_word
returns-then-has_first_word c b =
    tables.first-word (is_between c.args.span.from_word c.args.span.to_word 0) (is_set c.args.span.bits b) c.has_first_word.result c.if-has_first_word.true c.has_first_word.ensures

pub returns-else-has_first_word : goal.returns-else-has_first_word
returns-else-has_first_word c b =
    tables.no-first-word (is_between c.args.span.from_word c.args.span.to_word 0) (is_set c.args.span.bits b) c.has_first_word.result b c.if-has_first_word.false c.has_first_word.ensures
