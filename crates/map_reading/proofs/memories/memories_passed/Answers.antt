use Rattle.ila_model.specs.Model.{model_of}
use Rattle.map_file.specs.View.{map_view}
use Rattle.map_rules.specs.Accepted.{case_of}
use Rattle.v_places.specs.Views.{spots_of}
use Rattle.map_reading.proofs.Standing.{unfit_there}
use Rattle.map_reading.proofs.memories.memories_passed.Goals as goal

pub returns : goal.returns
returns c = λ s stands.
    c.passed.ensures.told (case_of (map_view c.args.map.now) (model_of c.args.model.now) s)
    (unfit_there (λ u. case_of (map_view c.args.map.now) (model_of c.args.model.now) u) (spots_of c.args.places.now) c.unfit_memory-unfit.result
    c.unfit_memory-unfit.ensures s stands)
