use Rattle.std.proofs.Common.{ap, ◌∙◌}
use Rattle.serde_json.specs.View.{view}
use Rattle.ila_file.specs.ShapeSpots.{instruction_misfit_at}
use Rattle.ila_file.proofs.instruction_misfits.instruction_spot.Goals as goal

pub returns : goal.returns
returns c = c.in_ok-spot.ensures ∙ ap (λ s. instruction_misfit_at s (view c.args.item.now)) c.item_spot.ensures
