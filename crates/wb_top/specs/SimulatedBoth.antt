-- What the files of a check and a script say together, and what a simulation of the model and the design side by side ends with.
use Rattle.std.specs.Prelude.{◌≡◌, ℕ, List, ◌∷◌, Some, codes}
use Rattle.refinement.specs.Map.{Setting}
use Rattle.watched_runs.specs.Watched.{Watched, agrees, outside, disagrees}
use Rattle.watch_report.specs.Ending.{Ending, bad_line, missing_input, told, IsEnding}
use Rattle.check_cases.specs.Files.{IsSettingOf, IsKindOfFiles}
use Rattle.wb_top.specs.Texts.{IsRefusalBy}
use Rattle.wb_top.specs.declared.status.Status.{Status}
use Rattle.wb_top.specs.declared.status.Status.TheVariants.{Done, Failed, Refused}

-- Failed: the run disagrees with the model. Done: it agrees, or it leaves the premises.
abbrev pub status_for : Watched → Status
status_for (agrees n) = Done
status_for (outside t premise) = Done
status_for (disagrees t which) = Failed

-- The line that tells the answer for the script's run; or a refusal by the first rule on scripts that it breaks.
abbrev pub IsWrittenFor : Ending → Status → List ℕ → Type 0
IsWrittenFor (told answer line) status text = (status ≡ status_for answer) × (text ≡ line)
IsWrittenFor bad_line status text = (status ≡ Refused) × IsRefusalBy (codes "S1 BadLine") text
IsWrittenFor missing_input status text = (status ≡ Refused) × IsRefusalBy (codes "S2 MissingInput") text

-- A simulation of a setting's model and design side by side, under a script.
abbrev pub IsSimulatedSetting : Setting → (script : List ℕ) → Status → List ℕ → Type 0
IsSimulatedSetting s script status text = (e : Ending) × IsEnding s script e × IsWrittenFor e status text

-- The files of a check are refused by their first kind; else they stand for a setting, which is simulated.
pub data IsSimulatedBoth (m p script : List ℕ) (ds : List (List ℕ)) (status : Status) (text : List ℕ) : Type 0 where
  files_refused : (kind : List ℕ) → IsKindOfFiles m p ds (Some kind) → status ≡ Refused → IsRefusalBy kind text → IsSimulatedBoth m p script ds status text
  is_watched : (s : Setting) → IsSettingOf m p ds s → IsSimulatedSetting s script status text → IsSimulatedBoth m p script ds status text

-- of files in their order: the model file, the map file, the script, then the Verilog files
abbrev pub AreSimulatedBoth : List (List ℕ) → Status → List ℕ → Type 0
AreSimulatedBoth (m ∷ p ∷ script ∷ ds) status text = IsSimulatedBoth m p script ds status text
AreSimulatedBoth _ status text = ⊥
