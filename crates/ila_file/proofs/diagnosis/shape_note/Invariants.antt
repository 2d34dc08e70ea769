use Rattle.std.proofs.Common.{◌≡◌, option_map}
use Rattle.serde_json.specs.Data.{depth}
use Rattle.serde_json.specs.View.{view}
use Rattle.model_places.specs.Notes.{site_note}
use Rattle.model_places.specs.ShapePlaces.{shape_note}
use Rattle.ila_file.specs.Places.{way_of}
use Rattle.ila_file.specs.ShapeSpots.{misfit_below}
use Rattle.ila_file.proofs.diagnosis.shape_note.Given as goal

abbrev pub invariant-loop-place : goal.invariant-loop-place
invariant-loop-place l = shape_note (view l.value) ≡ option_map site_note (misfit_below (way_of l.place) (view l.machine))

abbrev pub decreases-loop-place : goal.decreases-loop-place
decreases-loop-place l = depth (view l.machine)
