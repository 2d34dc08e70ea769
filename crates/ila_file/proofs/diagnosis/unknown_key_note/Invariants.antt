use Rattle.std.proofs.Common.{◌≡◌, option_map}
use Rattle.serde_json.specs.Data.{depth}
use Rattle.serde_json.specs.View.{view}
use Rattle.model_places.specs.KeyPlaces.{unknown_key_note}
use Rattle.model_places.specs.Notes.{site_note}
use Rattle.ila_file.specs.KeySpots.{below}
use Rattle.ila_file.specs.Places.{way_of}
use Rattle.ila_file.proofs.diagnosis.unknown_key_note.Given as goal

abbrev pub invariant-loop-index : goal.invariant-loop-index
invariant-loop-index l = unknown_key_note (view l.value) ≡ option_map site_note (below (way_of l.place) (view l.machine))

abbrev pub decreases-loop-index : goal.decreases-loop-index
decreases-loop-index l = depth (view l.machine)
