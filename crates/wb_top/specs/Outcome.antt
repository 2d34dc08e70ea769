-- What a call answers and writes, and why.
use Rattle.std.specs.Prelude.{◌≡◌, ℕ, false, List, [], Option, Some, None}
use Rattle.clap.specs.Words.{takes}
use Rattle.wb_words.specs.Application.{workbench_app}
use Rattle.wb_values.specs.Value.{Name}
use Rattle.reports.specs.Encoding.{Spent}
use Rattle.reports.specs.Report.{IsReport, all_proved, some_unknown, some_failed}
use Rattle.refinement.specs.Map.{Setting}
use Rattle.refinement.specs.Soundness.{EveryRunRefines}
use Rattle.check_limits.specs.Limits as limits
use Rattle.wb_outside.specs.Outside.{with_appended, GrewByPrefix}
use Rattle.wb_top.specs.Words.{Verb, check, simulate, simulate_rtl, replay, simulate_both, emit, Command, command_of}
use Rattle.wb_top.specs.Files.{first_long, StandFor, AreRefusedBy, AreHeld}
use Rattle.wb_top.specs.Simulated.{AreSimulated}
use Rattle.wb_top.specs.SimulatedRtl.{AreRtlSimulated}
use Rattle.wb_top.specs.Replayed.{AreReplayed}
use Rattle.wb_top.specs.SimulatedBoth.{AreSimulatedBoth}
use Rattle.wb_top.specs.Emitted.{AreEmitted}
use Rattle.wb_top.specs.Limits.{IsLimitOf}
use Rattle.wb_top.specs.Texts.{usage_text, length_text, limit_text, IsRefusalBy}
use Rattle.wb_top.specs.declared.status.Status.{Status}
use Rattle.wb_top.specs.declared.status.Status.TheVariants.{Done, Failed, Unknown, Usage, Refused, Limit}

-- What a call tells: the text that it writes, and what shows that the budget was spent where a line of it is `unknown`.
pub record Told : Type 0 where
  pub text : List ℕ
  pub spent : List Spent

-- The text is a report. Done: all obligations are proved, and every run refines the model. Failed: a line is `failed`. Unknown: none
-- is, and an obligation is `unknown`.
abbrev pub IsReported : Setting → (budget : ℕ) → Status → Told → Type 0
IsReported s budget Done t = IsReport s budget t.text all_proved t.spent × EveryRunRefines s
IsReported s budget Failed t = IsReport s budget t.text some_failed t.spent
IsReported s budget Unknown t = IsReport s budget t.text some_unknown t.spent
IsReported s budget _ t = ⊥

-- A check of a setting that is over this limit, or over none: the limit is answered; where there is none, a report.
abbrev pub IsCheckedWithin : Option limits.Limit → Setting → (budget : ℕ) → Status → Told → Type 0
IsCheckedWithin None s budget status t = IsReported s budget status t
IsCheckedWithin (Some limit) s budget status t = (status ≡ Limit) × (t.text ≡ limit_text limit) × (t.spent ≡ [])

abbrev pub IsCheckedSetting : Setting → (budget : ℕ) → Status → Told → Type 0
IsCheckedSetting s budget status t = (limit : Option limits.Limit) × IsLimitOf s limit × IsCheckedWithin limit s budget status t

-- A check of these files, and what it tells. Refused: by the first kind that refuses them. Else they stand for a setting, which is checked.
abbrev pub IsChecked : (budget : ℕ) → List (List ℕ) → Status → Told → Type 0
IsChecked budget contents Refused t = (kind : List ℕ) × AreRefusedBy contents kind × IsRefusalBy kind t.text × (t.spent ≡ [])
IsChecked budget contents status t = (s : Setting) × StandFor contents s × IsCheckedSetting s budget status t

-- what a command ends with on files of which none is too long
abbrev pub IsEnd : Verb → List (List ℕ) → Status → Told → Type 0
IsEnd (check budget) contents status t = IsChecked budget contents status t
IsEnd simulate contents status t = AreSimulated contents status t.text × (t.spent ≡ [])
IsEnd (simulate_rtl top clock) contents status t = AreRtlSimulated top clock contents status t.text × (t.spent ≡ [])
IsEnd replay contents status t = AreReplayed contents status t.text × (t.spent ≡ [])
IsEnd simulate_both contents status t = AreSimulatedBoth contents status t.text × (t.spent ≡ [])
IsEnd (emit map_only) contents status t = AreEmitted map_only contents status t.text × (t.spent ≡ [])

-- A file that is too long is answered before any is read as text: by the number of the first such, from 0.
abbrev pub IsWithin : Option ℕ → Verb → List (List ℕ) → Status → Told → Type 0
IsWithin None verb contents status t = IsEnd verb contents status t
IsWithin (Some k) verb contents status t = (status ≡ Limit) × (t.text ≡ length_text k) × (t.spent ≡ [])

-- The answer to a command on these files, and what it tells.
abbrev pub IsAnswer : Verb → List (List ℕ) → Status → Told → Type 0
IsAnswer verb contents status t = IsWithin (first_long 0 contents) verb contents status t

-- The words ask for a command, and this is the answer to it on the files that are held.
abbrev pub IsAnswered : Option (Name → Option (List ℕ)) → List Name → Status → Told → Type 0
IsAnswered held words status t =
    (c : Command) × (command_of words ≡ Some c) × (contents : List (List ℕ)) × AreHeld held c.files contents × IsAnswer c.verb contents status t

-- The outcome of a call: its status and what it tells, before that is written. Usage: clap does not take the words, so they ask for
-- no command.
abbrev pub IsCallOutcome : Option (Name → Option (List ℕ)) → List Name → Status → Told → Type 0
IsCallOutcome held words Usage t = (takes workbench_app words ≡ false) × (command_of words ≡ None) × (t.text ≡ usage_text) × (t.spent ≡ [])
IsCallOutcome held words status t = IsAnswered held words status t

-- What was written, where it is told, is the text of an outcome with this status, and this is what the outcome shows beside it.
abbrev pub Wrote : Option (Name → Option (List ℕ)) → List Name → Status → List Spent → (before after : Option (List ℕ)) → Type 0
Wrote held words status spent before after =
    (text : List ℕ) × IsCallOutcome held words status (record { text = text; spent = spent }) × (after ≡ with_appended before text)

-- A prefix of an outcome's text was written.
abbrev pub WrotePrefix : Option (Name → Option (List ℕ)) → List Name → List Spent → (before after : Option (List ℕ)) → Type 0
WrotePrefix held words spent before after =
    (status : Status) × (text : List ℕ) × IsCallOutcome held words status (record { text = text; spent = spent }) × GrewByPrefix before after text

-- the words ask for a check
abbrev pub AskForCheck : List Name → Type 0
AskForCheck words = (c : Command) × (command_of words ≡ Some c) × (budget : ℕ) × (c.verb ≡ check budget)

-- Every run of the design refines the model, for the model, the map and the Verilog that the contents of the files named in the words
-- stand for: those that are held, where it is told what is held.
abbrev pub Headline : Option (Name → Option (List ℕ)) → List Name → Type 0
Headline held words =
    (c : Command) × (command_of words ≡ Some c) × (contents : List (List ℕ)) × AreHeld held c.files contents
    × (s : Setting) × StandFor contents s × EveryRunRefines s
