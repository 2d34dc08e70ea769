use Rattle.std.proofs.Common.{◌∙◌}
use Rattle.serde_json.specs.View.{view}
use Rattle.ila_file.proofs.Shapes.{state_of-under}
use Rattle.ila_file.proofs.declarations.state_in.Goals as goal

pub returns : goal.returns
returns c = c.state_under.ensures ∙ state_of-under c.args.is_private (view c.args.value.now)
