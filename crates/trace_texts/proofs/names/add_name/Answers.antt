use Rattle.std.proofs.Common.{ap, ◌∙◌}
use Rattle.trace_texts.specs.Numbers.{numbers_in}
use Rattle.trace_texts.proofs.Placed.{placed}
use Rattle.trace_texts.proofs.names.add_name.Goals as goal

pub returns : goal.returns
returns c = ap numbers_in c.in_ok-insert.ensures.entries ∙ placed c.args.names.now.entries c.args.name c.args.number
