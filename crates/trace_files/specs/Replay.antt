-- What a replay of a trace tells: that its values falsify the obligation, which hypothesis fails, or that the obligation holds of them.
use Rattle.std.specs.Prelude.{◌≡◌, ℕ, List, [], ◌∷◌, ◌++◌, take, Some, slice_get, Contains, codes, decimal}
use Rattle.wb_values.specs.Value.{Name, Value, Entries}
use Rattle.verilog_meaning.specs.Register.{word_count}
use Rattle.refinement.specs.Map.{Setting, map_scope}
use Rattle.refinement.specs.Run.{Run, IsRun}
use Rattle.refinement.specs.Obligation.{Fact, Means, MeansAll, Obligation}
use Rattle.reports.specs.Report.{Trace, StandsFor}

pub data Replayed : Type 0 where
  falsifies : Replayed
  hypothesis_fails : (k : ℕ) → Replayed
  obligation_holds : Replayed

-- The run's first registers and its inputs are those that the trace tells.
pub record IsToldBy (s : Setting) (run : Run) (t : Trace) : Type 0 where
  pub registers : (n : Name) (x : Value) → Contains t.registers (n, x) → StandsFor (word_count (map_scope s n)) x (run.registers 0 n)
  pub inputs : (k : ℕ) (es : Entries Value) (n : Name) (x : Value) → slice_get t.inputs k ≡ Some es → Contains es (n, x)
      → StandsFor (word_count (map_scope s n)) x (run.inputs k n)

-- What is true of an obligation in a run: all hypotheses hold and the claim does not; hypothesis k, counted from 0, is the first that does
-- not hold; or all hypotheses and the claim hold.
abbrev pub IsSo : Setting → Run → Obligation → Replayed → Type 0
IsSo s run o falsifies = MeansAll s run o.hypotheses × ¬ Means s run o.claim
IsSo s run o (hypothesis_fails k) = MeansAll s run (take k o.hypotheses) × (f : Fact) × (slice_get o.hypotheses k ≡ Some f) × ¬ Means s run f
IsSo s run o obligation_holds = MeansAll s run o.hypotheses × Means s run o.claim

-- A run from the trace's first registers under its inputs, of as many cycles as the obligation speaks of, shows this.
abbrev pub IsReplayOf : Setting → Obligation → Trace → Replayed → Type 0
IsReplayOf s o t answer = (run : Run) × IsRun s run o.cycles × IsToldBy s run t × IsSo s run o answer

-- the line that is written
abbrev pub replay_line : Name → Replayed → List ℕ
replay_line n falsifies = n ++ codes " falsifies" ++ 10 ∷ []
replay_line n (hypothesis_fails k) = n ++ codes " hypothesis " ++ decimal k ++ 10 ∷ []
replay_line n obligation_holds = n ++ codes " holds" ++ 10 ∷ []
