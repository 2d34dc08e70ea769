-- The laws on disagreements and answers.
use Rattle.std.specs.Prelude.{◌≡◌, ℕ, Some, slice_get}
use Rattle.model_meaning.specs.Model.{Model, StateDeclaration, states_of, state_named}
use Rattle.refinement.specs.Map.{Setting}
use Rattle.refinement.specs.Run.{Run}
use Rattle.refinement.specs.Refinement.{Refines}
use Rattle.watched_runs.specs.Disagreements.{Disagreement, DisagreesAt}
use Rattle.watched_runs.specs.Watched.{Watched, IsWatched}

-- Each state of the model is found by its name: no two share one.
abbrev pub StatesAreNamed : Model → Type 0
StatesAreNamed m =
    (k : ℕ) (d : StateDeclaration) → slice_get (states_of m.top) k ≡ Some d → state_named (states_of m.top) d.state_name ≡ Some d

-- A run that refines the model disagrees with it nowhere.
abbrev pub RefiningRunsDoNotDisagree : Type 0
RefiningRunsDoNotDisagree =
    (s : Setting) (run : Run) (cycles t : ℕ) (which : Disagreement) → StatesAreNamed s.model → Refines s run cycles → ¬ DisagreesAt s run cycles t which

-- A run has at most one answer.
abbrev pub RunsHaveOneAnswer : Type 0
RunsHaveOneAnswer =
    (s : Setting) (run : Run) (cycles : ℕ) (a b : Watched) → IsWatched s run cycles a → IsWatched s run cycles b → a ≡ b
