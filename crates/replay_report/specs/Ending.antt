-- What a replay of a trace file ends with.
use Rattle.std.specs.Prelude.{◌≡◌, ℕ, List}
use Rattle.refinement.specs.Map.{Setting}
use Rattle.refinement.specs.Run.{Run, IsRun}
use Rattle.refinement.specs.Obligation.{Obligation}
use Rattle.reports.specs.Report.{Trace}
use Rattle.trace_files.specs.Meaning.{TraceRule, IsTraceReading, traces, refused_by}
use Rattle.trace_files.specs.Replay.{Replayed, IsToldBy, IsSo, IsReplayOf, replay_line}

-- The file is refused by a rule; or its trace is replayed, and a line tells what that shows.
pub data Ending : Type 0 where
  broken : TraceRule → Ending
  told : Replayed → (line : List ℕ) → Ending

-- The bytes are a trace of an obligation, a run of its values shows this of the obligation, so does each such run, and the line says so.
pub record IsTold (s : Setting) (bytes : List ℕ) (answer : Replayed) (line : List ℕ) : Type 0 where
  pub obligation : Obligation
  pub trace : Trace
  pub is_read : IsTraceReading s bytes (traces obligation trace)
  pub is_replay : IsReplayOf s obligation trace answer
  pub each_run : (run : Run) → IsRun s run obligation.cycles → IsToldBy s run trace → IsSo s run obligation answer
  pub is_line : line ≡ replay_line obligation.called answer

-- What comes of a trace file's bytes for a setting.
abbrev pub IsEnding : Setting → (bytes : List ℕ) → Ending → Type 0
IsEnding s bytes (broken rule) = IsTraceReading s bytes (refused_by rule)
IsEnding s bytes (told answer line) = IsTold s bytes answer line
