use Rattle.v_token.specs.View.{tokens_of}
use Rattle.v_parse.proofs.Whole.{modules_spelled, no_modules}
use Rattle.v_parse.proofs.source.parse.Goals as goal

pub returns-in-Ok-clause-spelled : goal.returns-in-Ok-clause-spelled
returns-in-Ok-clause-spelled c = modules_spelled (tokens_of c.args.tokens.now) _ _ c.in-Ok.ensures.read

pub returns-in-Ok-left_at_first_wrong-clause-spelled : goal.returns-in-Ok-left_at_first_wrong-clause-spelled
returns-in-Ok-left_at_first_wrong-clause-spelled c = no_modules (tokens_of c.args.tokens.now) (rw c.in-Err-Refused.field-0-is at c.in-Err-Refused.ensures.read)
