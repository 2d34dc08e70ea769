use Rattle.std.proofs.Common.{◌∙◌}
use Rattle.v_lex.proofs.Marks.{front_by_length}
use Rattle.v_lex.proofs.front.mark.Goals as goal

pub returns-clause-front : goal.returns-clause-front
returns-clause-front c = c.mark_by_length.ensures.front ∙ front_by_length c.args.text.now
