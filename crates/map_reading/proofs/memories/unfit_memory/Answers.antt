use Rattle.v_places.specs.Views.{spots_of}
use Rattle.ila_file.specs.Places.{spot_view}
use Rattle.ila_model.specs.Model.{model_of}
use Rattle.map_file.specs.View.{map_view}
use Rattle.map_rules.specs.Accepted.{case_of}
use Rattle.map_paths.specs.Tables.{numbers_in}
use Rattle.map_reading.proofs.Standing.{narrow_spots, unfit_told}
use Rattle.map_reading.proofs.memories.unfit_memory.Goals as goal

pub memory_mismatch-requires : goal.memory_mismatch-requires
memory_mismatch-requires c = narrow_spots c.requires.0 (spots_of c.args.places.now) c.requires.1 c.block_kinds_are_at_places.ensures.ready

pub returns : goal.returns
returns c =
    unfit_told spot_view (λ s. case_of (map_view c.args.map.now) (model_of c.args.model.now) s) (spots_of c.args.places.now) (numbers_in c.in_ok-instances.instances)
    c.memory_mismatch.result c.memory_mismatch.ensures c.sound_modules_are_known.ensures c.in_ok-instances.ensures
