use Rattle.std.proofs.Common.{subst}
use Rattle.serde_json.specs.View.{view}
use Rattle.ila_file.specs.Reading.{IsReading}
use Rattle.ila_file.specs.View.{model_view}
use Rattle.ila_file.proofs.Shapes.{model_in-parts}
use Rattle.ila_file.proofs.shape.model_in.Goals as goal

pub returns : goal.returns
returns c = subst (λ o. IsReading model_view c.model_by_parts.result o) (model_in-parts (view c.args.value.now)) c.model_by_parts.ensures
