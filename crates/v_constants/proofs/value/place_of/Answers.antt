use Rattle.std.proofs.Common.{ap, ◌∙◌}
use Rattle.verilog_rules.specs.Expression.{constant}
use Rattle.v_constants.specs.Values.{context_width, place_at}
use Rattle.v_constants.proofs.value.place_of.Goals as goal

pub returns : goal.returns
unfolding place_at
returns c = λ i. constant ((c.context_width.ensures ∙ ap (context_width c.args.range) c.judged_in-own.ensures.width) i) (c.sign_of-signed.ensures i)
