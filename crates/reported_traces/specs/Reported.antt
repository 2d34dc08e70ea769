-- Traces that a check prints, replayed with the same files.
use Rattle.std.specs.Prelude.{◌≡◌, ℕ, List, ◌∷◌, Contains, IsTrue}
use Rattle.refinement.specs.Map.{Setting}
use Rattle.reports.specs.Encoding.{Spent}
use Rattle.reports.specs.Report.{Trace, trace_text, failed, Ending, IsReport}
use Rattle.trace_files.specs.Replay.{falsifies, replay_line}
use Rattle.check_cases.specs.Files.{IsSettingOf}
use Rattle.wb_top.specs.Words.{check, replay}
use Rattle.wb_top.specs.Files.{has_fitting_length}
use Rattle.wb_top.specs.Outcome.{Told, IsAnswer}
use Rattle.wb_top.specs.declared.status.Status.{Status}
use Rattle.wb_top.specs.declared.status.Status.TheVariants.{Failed}

-- The text is a report of the setting that a model file, a map file and Verilog files stand for, and a line of it is `failed` with this trace.
pub record IsPrintedTrace (m p : List ℕ) (ds : List (List ℕ)) (budget : ℕ) (text : List ℕ) (t : Trace) : Type 0 where
  pub setting : Setting
  pub files : IsSettingOf m p ds setting
  pub ending : Ending
  pub spent : List Spent
  pub report : IsReport setting budget text ending spent
  pub line : Contains report.verdicts (failed t)

-- Where a check ends with Failed it has printed a trace.
abbrev pub FailedChecksPrintTraces : Type 0
FailedChecksPrintTraces =
    (budget : ℕ) (m p : List ℕ) (ds : List (List ℕ)) (told : Told) → IsAnswer (check budget) (m ∷ p ∷ ds) Failed told
    → (t : Trace) × IsPrintedTrace m p ds budget told.text t

-- Where a check ends with Failed, a replay of each trace that it printed, with the same files, ends with Failed too, and its line says that
-- the trace falsifies its obligation. (A file of that trace must not be longer than a file may be.)
abbrev pub PrintedTracesFail : Type 0
PrintedTracesFail =
    (budget : ℕ) (m p : List ℕ) (ds : List (List ℕ)) (checked replayed : Told) (t : Trace) (status : Status)
    → IsAnswer (check budget) (m ∷ p ∷ ds) Failed checked → IsPrintedTrace m p ds budget checked.text t → IsTrue (has_fitting_length (trace_text t))
    → IsAnswer replay (m ∷ p ∷ trace_text t ∷ ds) status replayed → (status ≡ Failed) × (replayed.text ≡ replay_line t.obligation falsifies)
