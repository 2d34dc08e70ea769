-- What follows from a design's being emitted.
use Rattle.std.specs.Prelude.{◌≡◌, ℕ, ◌+◌, ◌*◌, ◌≤◌, length}
use Rattle.model_meaning.specs.Model.{Model}
use Rattle.model_meaning.specs.Invariant.{IsModel}
use Rattle.verilog_trees.specs.Syntax.{Module}
use Rattle.refinement.specs.Run.{Run, IsRun, IsFromReset}
use Rattle.refinement.specs.Refinement.{HasOneInFlight, Refines}
use Rattle.refinement.specs.Obligation.{obligations}
use Rattle.refinement.specs.Soundness.{AllHold}
use Rattle.emitted_designs.specs.Bounds.{nesting_of}
use Rattle.emitted_designs.specs.Size.{model_size, most_bytes}
use Rattle.emitted_designs.specs.Map.{emitted_map, setting_of}
use Rattle.emitted_designs.specs.Emits.{most_file_bytes, IsEmittedModule, IsTotal}
use Rattle.emitted_designs.specs.Bench.{bench_model, bench_obligations}

-- A model without child programs is total.
abbrev pub ModelsWithoutChildrenAreTotal : Type 0
ModelsWithoutChildrenAreTotal = (m : Model) → nesting_of m.top ≡ 0 → IsTotal m

-- Of a model without child programs each run of an emitted design from reset has one command in flight and refines the model.
abbrev pub EmittedRunsRefine : Type 0
EmittedRunsRefine =
    (m : Model) (x : Module) (run : Run) (cycles : ℕ) → IsModel m → nesting_of m.top ≡ 0 → IsEmittedModule m x
    → IsRun (setting_of m x) run cycles → IsFromReset (setting_of m x) run cycles
    → HasOneInFlight (setting_of m x) run cycles × Refines (setting_of m x) run cycles

-- Of such a model each obligation of the emitted map holds of an emitted module: a check of the pair has no failed line.
abbrev pub EmittedObligationsHold : Type 0
EmittedObligationsHold =
    (m : Model) (x : Module) → IsModel m → nesting_of m.top ≡ 0 → IsEmittedModule m x
    → AllHold (setting_of m x) (obligations m (emitted_map m))

-- An emitted text of a model of size 1,000 or less is no longer than a file may be.
abbrev pub SmallModelsHaveShortTexts : Type 0
SmallModelsHaveShortTexts = (m : Model) → model_size m ≤ 1000 → most_bytes m ≤ most_file_bytes

-- ---- the models of `bench`

-- Each of those that can be asked for keeps the rules on models, and has no child programs.
abbrev pub BenchModelsKeepTheRules : Type 0
BenchModelsKeepTheRules = (n : ℕ) → n ≤ 64 → IsModel (bench_model n)

abbrev pub BenchModelsHaveNoChildren : Type 0
BenchModelsHaveNoChildren = (n : ℕ) → nesting_of (bench_model n).top ≡ 0

-- The size, and so the length of the texts.
abbrev pub BenchModelsHaveTheirSize : Type 0
BenchModelsHaveTheirSize = (n : ℕ) → model_size (bench_model n) ≡ 11 * n + 5

abbrev pub BenchTextsAreShort : Type 0
BenchTextsAreShort = (n : ℕ) → n ≤ 64 → most_bytes (bench_model n) ≤ most_file_bytes

-- How many obligations the model with n states has under its emitted map.
abbrev pub BenchModelsHaveTheirObligations : Type 0
BenchModelsHaveTheirObligations = (n : ℕ) → length (bench_obligations n) ≡ n * n + 3 * n + 1
