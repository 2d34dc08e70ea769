-- Checks that end with Failed print a trace, and that replays as Failed.
use Rattle.std.proofs.Common.{◌≡◌, ◌∙◌, ℕ, List, ◌∷◌, Option, Some, None, sym, ap, subst}
use Rattle.refinement.specs.Map.{Setting}
use Rattle.refinement.specs.Run.{Run, IsRun}
use Rattle.refinement.specs.Obligation.{Obligation, obligations}
use Rattle.reports.specs.Report.{Trace, trace_text, failed}
use Rattle.trace_files.specs.Meaning.{traces, refused_by, TraceRule}
use Rattle.trace_files.specs.Replay.{Replayed, falsifies, IsToldBy, IsSo, replay_line}
use Rattle.replay_report.specs.Ending.{Ending, told, broken, IsEnding}
use Rattle.check_limits.specs.Limits as limits
use Rattle.check_cases.specs.Files.{IsSettingOf}
use Rattle.check_cases.specs.Laws.{FilesAreOneSetting, SettingsAreNotRefused}
use Rattle.printed_traces.specs.Printed.{ReplaysAsFalsifying, PrintedTracesReplay}
use Rattle.wb_top.specs.Words.{check, replay}
use Rattle.wb_top.specs.Outcome.{Told, IsWithin, IsCheckedWithin}
use Rattle.wb_top.specs.Replayed.{status_for, IsWrittenFor, IsReplayedSetting, IsReplayed, is_refused, is_replayed}
use Rattle.wb_top.specs.declared.status.Status.{Status}
use Rattle.wb_top.specs.declared.status.Status.TheVariants.{Failed, Limit}
use Rattle.reported_traces.specs.Reported.{IsPrintedTrace, FailedChecksPrintTraces, PrintedTracesFail}
use Rattle.reported_traces.proofs.Lengths.{files_fit, with_trace, map_is_short}
use Rattle.reported_traces.proofs.Lines.{said_of, has_failed}

-- ---- a check that fails

failed_limit : Failed ≡ Limit → ⊥
failed_limit e = cc

printed : (budget : ℕ) (m p : List ℕ) (ds : List (List ℕ)) (answer : Told) (s : Setting) → IsSettingOf m p ds s → (o : Option limits.Limit)
    → IsCheckedWithin o s budget Failed answer → (t : Trace) × IsPrintedTrace m p ds budget answer.text t
printed budget m p ds answer s files None report =
    let h = has_failed report.verdicts report.is_ending in
    (h.trace, record { setting = s; files = files; ending = _; spent = _; report = report; line = h.line })
printed budget m p ds answer s files (Some limit) over = absurd (failed_limit over.0)

pub checks_print : FailedChecksPrintTraces
checks_print budget m p ds answer h =
    let checked = subst (λ o. IsWithin o (check budget) (m ∷ p ∷ ds) Failed answer) (files_fit (check budget) (m ∷ p ∷ ds) answer h) h in
    printed budget m p ds answer checked.0 checked.1 checked.2.0 checked.2.2

-- ---- a replay of its trace

same_obligation : (o q : Obligation) (t u : Trace) → traces q u ≡ traces o t → q ≡ o
same_obligation o q t u e = cc

same_trace : (o q : Obligation) (t u : Trace) → traces q u ≡ traces o t → u ≡ t
same_trace o q t u e = cc

no_rule : (rule : TraceRule) (o : Obligation) (t : Trace) → refused_by rule ≡ traces o t → ⊥
no_rule rule o t e = cc

module _ (s : Setting) (o : Obligation) (t : Trace) (named : t.obligation ≡ o.called) (h : ReplaysAsFalsifying s o t) where
  -- what is told of the trace
  answered : (q : Obligation) (u : Trace) (answer : Replayed) → q ≡ o → u ≡ t
      → ((run : Run) → IsRun s run q.cycles → IsToldBy s run u → IsSo s run q answer) → answer ≡ falsifies
  answered q u answer e f each =
      h.one_answer answer
      (subst (λ (x : Obligation). (run : Run) → IsRun s run x.cycles → IsToldBy s run t → IsSo s run x answer) e
      (subst (λ (y : Trace). (run : Run) → IsRun s run q.cycles → IsToldBy s run y → IsSo s run q answer) f each))

  ended : (e : Ending) (status : Status) (text : List ℕ) → IsEnding s (trace_text t) e → IsWrittenFor e status text
      → (status ≡ Failed) × (text ≡ replay_line t.obligation falsifies)
  ended (broken rule) status text is written = absurd (no_rule rule o t (h.one_reading (refused_by rule) is))
  ended (told answer line) status text is written =
      let e = h.one_reading (traces is.obligation is.trace) is.is_read in
      let same = same_obligation o is.obligation t is.trace e in
      let fails = answered is.obligation is.trace answer same (same_trace o is.obligation t is.trace e) is.each_run in (
        written.0 ∙ ap status_for fails,
        written.1 ∙ (is.is_line ∙ (ap (replay_line is.obligation.called) fails ∙ ap (λ (x : Obligation). replay_line x.called falsifies) same
            ∙ ap (λ n. replay_line n falsifies) (sym named))),
      )

  setting_ended : (status : Status) (text : List ℕ) → IsReplayedSetting s (trace_text t) status text
      → (status ≡ Failed) × (text ≡ replay_line t.obligation falsifies)
  setting_ended status text (e, is, written) = ended e status text is written

  pub files_ended : (m p : List ℕ) (ds : List (List ℕ)) (status : Status) (text : List ℕ) → IsSettingOf m p ds s
      → FilesAreOneSetting → SettingsAreNotRefused → IsReplayed m p (trace_text t) ds status text
      → (status ≡ Failed) × (text ≡ replay_line t.obligation falsifies)
  files_ended m p ds status text files one unrefused (is_refused kind of_kind refused because) = absurd (unrefused m p ds s kind files of_kind)
  files_ended m p ds status text files one unrefused (is_replayed r others ended_so) =
      setting_ended status text
      (subst (λ (x : Setting). IsReplayedSetting x (trace_text t) status text) (one m p ds r s others files) ended_so)

pub traces_fail : FilesAreOneSetting → SettingsAreNotRefused → PrintedTracesReplay → PrintedTracesFail
traces_fail one unrefused law budget m p ds checked replayed t status check_is is short replay_is =
    let s = is.setting in
    let fit = files_fit (check budget) (m ∷ p ∷ ds) checked check_is in
    let said = said_of s budget (obligations s.model s.map) is.report.verdicts (failed t) is.report.are_verdicts is.line in
    let o = said.obligation in
    let run = said.verdict.0 in
    let h = law m p ds s o run t is.files (map_is_short m p ds fit) said.listed said.verdict.1 said.verdict.2 in
    let whole = subst (λ k. IsWithin k replay (m ∷ p ∷ trace_text t ∷ ds) status replayed) (with_trace m p (trace_text t) ds fit short) replay_is in
    files_ended s o t said.verdict.2.named h m p ds status replayed.text is.files one unrefused whole.0
