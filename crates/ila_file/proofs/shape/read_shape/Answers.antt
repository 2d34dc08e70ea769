use Rattle.serde_json.specs.View.{view}
use Rattle.ila_file.specs.View.{model_view}
use Rattle.ila_file.proofs.ShapeNotes.{refused_noted}
use Rattle.ila_file.proofs.shape.read_shape.Goals as goal

pub refusal-requires : goal.refusal-requires
refusal-requires c = refused_noted model_view c.in-Err-Refused.field-0 (view c.args.value.now) c.in-Err-Refused.field-0-is c.in-Err-Refused.ensures
