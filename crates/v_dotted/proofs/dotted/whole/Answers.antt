use Rattle.v_token.specs.View.{tokens_of}
use Rattle.v_dotted.proofs.dotted.whole.Goals as goal

pub returns-in-Ok-clause-spelled : goal.returns-in-Ok-clause-spelled
returns-in-Ok-clause-spelled c = c.in-Ok.ensures.read (tokens_of c.args.tokens.now) c.expression.ensures.read

pub returns-in_ok-left-in-Err-Refused-clause-spelled : goal.returns-in_ok-left-in-Err-Refused-clause-spelled
returns-in_ok-left-in-Err-Refused-clause-spelled c = rw c.in-Err-Refused.field-0-is at (c.in-Err-Refused.ensures.read (tokens_of c.args.tokens.now) c.expression.ensures.read)
