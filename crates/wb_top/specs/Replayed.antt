-- What the files of a check and a trace file say together, and what a replay of the trace ends with.
use Rattle.std.specs.Prelude.{◌≡◌, ℕ, List, ◌∷◌, Some}
use Rattle.refinement.specs.Map.{Setting}
use Rattle.trace_files.specs.Replay.{Replayed, falsifies, hypothesis_fails, obligation_holds}
use Rattle.trace_reading.specs.Rule.{rule_name}
use Rattle.replay_report.specs.Ending.{Ending, told, broken, IsEnding}
use Rattle.check_cases.specs.Files.{IsSettingOf, IsKindOfFiles}
use Rattle.wb_top.specs.Texts.{IsRefusalBy}
use Rattle.wb_top.specs.declared.status.Status.{Status}
use Rattle.wb_top.specs.declared.status.Status.TheVariants.{Done, Failed, Refused}

-- Failed: the trace falsifies its obligation. Done: a hypothesis fails, or the obligation holds.
abbrev pub status_for : Replayed → Status
status_for falsifies = Failed
status_for (hypothesis_fails k) = Done
status_for obligation_holds = Done

-- The line that tells what the trace shows; or a refusal by the first rule on traces that the file breaks.
abbrev pub IsWrittenFor : Ending → Status → List ℕ → Type 0
IsWrittenFor (told answer line) status text = (status ≡ status_for answer) × (text ≡ line)
IsWrittenFor (broken rule) status text = (status ≡ Refused) × IsRefusalBy (rule_name rule) text

-- A replay of a trace file for a setting.
abbrev pub IsReplayedSetting : Setting → (trace : List ℕ) → Status → List ℕ → Type 0
IsReplayedSetting s x status text = (e : Ending) × IsEnding s x e × IsWrittenFor e status text

-- The files of a check are refused by their first kind; else they stand for a setting, for which the trace is replayed.
pub data IsReplayed (m p x : List ℕ) (ds : List (List ℕ)) (status : Status) (text : List ℕ) : Type 0 where
  is_refused : (kind : List ℕ) → IsKindOfFiles m p ds (Some kind) → status ≡ Refused → IsRefusalBy kind text → IsReplayed m p x ds status text
  is_replayed : (s : Setting) → IsSettingOf m p ds s → IsReplayedSetting s x status text → IsReplayed m p x ds status text

-- of files in their order: the model file, the map file, the trace file, then the Verilog files
abbrev pub AreReplayed : List (List ℕ) → Status → List ℕ → Type 0
AreReplayed (m ∷ p ∷ x ∷ ds) status text = IsReplayed m p x ds status text
AreReplayed _ status text = ⊥
