-- The trace of a run that falsifies its obligation replays so.
use Rattle.std.proofs.Common.{◌≡◌, ℕ, zero, suc, List, [], ◌∷◌, Some, refl, subst}
use Rattle.std.specs.Prelude.{slice_get}
use Rattle.refinement.specs.Map.{Setting}
use Rattle.refinement.specs.Run.{Run}
use Rattle.refinement.specs.Obligation.{Fact, Means, MeansAll, Obligation, Falsifies}
use Rattle.reports.specs.Report.{Trace, IsTraceOf}
use Rattle.trace_files.specs.Replay.{Replayed, falsifies, hypothesis_fails, obligation_holds, IsToldBy, IsSo}
use Rattle.printed_traces.specs.Printed.{FalsifyingTracesReplay}
use Rattle.printed_traces.proofs.Order.{entry_found}

-- a run is told by its trace
told : (s : Setting) (o : Obligation) (run : Run) (t : Trace) → IsTraceOf s o run t → IsToldBy s run t
told s o run t is = record {
  registers = λ n x c. is.registers.values n x (entry_found t.registers n x is.registers.in_order c);
  inputs = λ k es n x h c. (is.inputs k es h).values n x (entry_found es n x (is.inputs k es h).in_order c);
}

each_means : (s : Setting) (run : Run) (fs : List Fact) (k : ℕ) (f : Fact) → MeansAll s run fs → slice_get fs k ≡ Some f → Means s run f
each_means s run [] k f h e = cc
each_means s run (g ∷ fs) zero f h e = subst (Means s run) (same e) h.0
  where
    same : Some g ≡ Some f → g ≡ f
    same q = cc
each_means s run (g ∷ fs) (suc k) f h e = each_means s run fs k f h.1 e

one_answer : (s : Setting) (o : Obligation) (run : Run) (answer : Replayed) → Falsifies s run o → IsSo s run o answer → answer ≡ falsifies
one_answer s o run falsifies broken so = refl
one_answer s o run (hypothesis_fails k) broken so = absurd (so.3 (each_means s run o.hypotheses k so.1 broken.hypotheses so.2))
one_answer s o run obligation_holds broken so = absurd (broken.fails so.1)

pub replays : FalsifyingTracesReplay
replays s o run t answer broken is each = one_answer s o run answer broken (each run broken.is_run (told s o run t is))
