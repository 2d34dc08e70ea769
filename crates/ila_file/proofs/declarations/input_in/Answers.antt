use Rattle.std.proofs.Common.{◌∙◌}
use Rattle.serde_json.specs.View.{view}
use Rattle.ila_file.proofs.Shapes.{input_in-under}
use Rattle.ila_file.proofs.declarations.input_in.Goals as goal

pub returns : goal.returns
returns c = c.input_under.ensures ∙ input_in-under (view c.args.value.now)
