-- What a watch is of: a setting, and a run of it that has the values of a script.
use Rattle.std.specs.Prelude.{◌≡◌, ℕ, ◌<◌, ◌≤◌, ◌⊎◌}
use Rattle.model_meaning.specs.Model.{Model}
use Rattle.refinement.specs.Map.{Setting}
use Rattle.refinement.specs.Run.{Run, IsRun}
use Rattle.refinement.specs.Soundness.{IsComplete}
use Rattle.v_cycle.specs.declared.cycle.Cycle.{Cycle}
use Rattle.v_cycle.specs.Running.{HasRun}
use Rattle.mapped_designs.specs.Mapped.{Mapped}
use Rattle.mapped_designs.specs.Broken.{HasCountsOf}
use Rattle.mapped_designs.specs.Meaning.{IsMappedBy}
use Rattle.mapped_designs.specs.Runs.{Values, registers_at, zero_inputs}
use Rattle.mapped_runs.specs.Sound.{IsSoundDesign}
use Rattle.mapped_runs.specs.Valued.{HasValues}

-- The setting is of the model and of the design with its map, which has an entry for each instruction, and the run, of so many cycles, is
-- one of the design that begins in these registers and has these inputs.
pub record IsWatchOf (m : Model) (e : Mapped) (x : Values) (s : Setting) (run : Run) (cycles : ℕ) : Type 0 where
  pub model : s.model ≡ m
  pub mapped : IsMappedBy s e
  pub sound : IsSoundDesign e.parts
  pub counts : HasCountsOf s.map e
  pub complete : IsComplete s
  pub is_run : IsRun s run cycles
  pub values : HasValues e.parts run cycles x

-- The last cycle of a simulation is cycle t of such a run, or the one after its last, with inputs that are 0.
pub record IsCycleOfWatch (m : Model) (e : Mapped) (c : Cycle) (t : ℕ) (x : Values) (s : Setting) (run : Run) (cycles : ℕ) : Type 0 where
  pub watch : IsWatchOf m e x s run cycles
  pub within : t ≤ cycles
  pub ran : HasRun e.parts c (registers_at e.parts x t) (x.inputs t)
  pub inputs : (t < cycles) ⊎ (x.inputs t ≡ zero_inputs e.parts)
