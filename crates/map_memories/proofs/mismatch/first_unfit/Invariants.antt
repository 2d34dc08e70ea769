use Rattle.map_file.specs.View.{mapped_view}
use Rattle.model_meaning.specs.Model.{Model}
use Rattle.verilog_meaning.specs.Settled.{Design}
use Rattle.v_places.specs.Views.{spots_of}
use Rattle.map_paths.specs.Tables.{numbers_in}
use Rattle.map_memories.specs.Mismatch.{HasInstances, KnowsStates}
use Rattle.map_memories.proofs.Entries.{IsLeft}
use Rattle.map_memories.proofs.mismatch.first_unfit.Given as goal

abbrev pub invariant-loop-entry : goal.invariant-loop-entry
invariant-loop-entry l =
    (d : Design) (m : Model) → HasInstances d (spots_of l.places) (numbers_in l.instances) → KnowsStates l.sorts m → IsLeft mapped_view d m l.entries l.entry-index l.entry-index
