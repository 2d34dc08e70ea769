-- Traces that are printed, read back and replayed: what a report prints for a trace is read as that trace, bytes say one trace, and a trace
-- of values that falsify an obligation replays so.
use Rattle.std.specs.Prelude.{◌≡◌, ℕ, ◌≤◌, ◌^◌, Bool, not, ◌&&◌, ◌==◌, nat_le, List, length, Contains, IsTrue}
use Rattle.std.specs.List.{list_all}
use Rattle.wb_values.specs.Value.{Name, Value, Entries}
use Rattle.verilog_meaning.specs.Settled.{names_of}
use Rattle.refinement.specs.Map.{Setting, design_of}
use Rattle.refinement.specs.Run.{Run, IsRun}
use Rattle.refinement.specs.Obligation.{Obligation, Falsifies, obligations}
use Rattle.verilog_designs.specs.Accepted.{IsAccepted}
use Rattle.verilog_exists.specs.Exists.{IsShapely, NamesHaveNoDots}
use Rattle.reports.specs.Report.{Trace, trace_text, IsTraceOf}
use Rattle.trace_files.specs.Meaning.{SaysTrace, TraceReading, traces, IsTraceReading}
use Rattle.trace_files.specs.Replay.{Replayed, falsifies, IsToldBy, IsSo}
use Rattle.check_cases.specs.Files.{IsSettingOf}

-- a printable byte that JSON writes as itself: neither the quotation mark nor the backslash
abbrev pub is_plain_byte : ℕ → Bool
is_plain_byte b = (nat_le 32 b && nat_le b 126) && (not (b == 34) && not (b == 92))

abbrev pub is_plain_name : Name → Bool
is_plain_name = list_all is_plain_byte

abbrev pub are_plain_names : List Name → Bool
are_plain_names = list_all is_plain_name

-- The names in a trace are plain: that of the obligation, and those of the registers and of the inputs.
pub record HasPlainNames (t : Trace) : Type 0 where
  pub obligation : IsTrue (is_plain_name t.obligation)
  pub registers : IsTrue (are_plain_names (names_of t.registers))
  pub inputs : (es : Entries Value) → Contains t.inputs es → IsTrue (are_plain_names (names_of es))

-- The text that a report prints for a trace of an obligation is read back as that trace of that obligation: where the design is
-- accepted, its tree has the shape of a text's and no dots in its names, and the trace is that of a run, with plain names.
abbrev pub TracesAreReadBack : Type 0
TracesAreReadBack =
    (s : Setting) (o : Obligation) (run : Run) (t : Trace) → IsAccepted (design_of s) → IsShapely (design_of s) → NamesHaveNoDots s.source
    → Contains (obligations s.model s.map) o → IsRun s run o.cycles → IsTraceOf s o run t → HasPlainNames t
    → IsTraceReading s (trace_text t) (traces o t)

-- What bytes say is one trace.
abbrev pub TracesAreReadOneWay : Type 0
TracesAreReadOneWay = (s : Setting) (bytes : List ℕ) (t u : Trace) → SaysTrace s bytes t → SaysTrace s bytes u → t ≡ u

-- The trace of a run that falsifies its obligation replays so: what holds of the obligation in each run that the trace tells, of as many
-- cycles as it speaks of, is that the run falsifies it.
abbrev pub FalsifyingTracesReplay : Type 0
FalsifyingTracesReplay =
    (s : Setting) (o : Obligation) (run : Run) (t : Trace) (answer : Replayed) → Falsifies s run o → IsTraceOf s o run t
    → ((r : Run) → IsRun s r o.cycles → IsToldBy s r t → IsSo s r o answer) → answer ≡ falsifies

-- The text of the trace is read as that trace of that obligation, and as nothing else; and whatever answer holds of the obligation in each
-- run that the trace tells is that the run falsifies it.
pub record ReplaysAsFalsifying (s : Setting) (o : Obligation) (t : Trace) : Type 0 where
  pub is_read : IsTraceReading s (trace_text t) (traces o t)
  pub one_reading : (r : TraceReading) → IsTraceReading s (trace_text t) r → r ≡ traces o t
  pub one_answer : (answer : Replayed) → ((u : Run) → IsRun s u o.cycles → IsToldBy s u t → IsSo s u o answer) → answer ≡ falsifies

-- A trace that a report prints replays so: one of an obligation, and of a run that falsifies it, for a setting that files stand for. The
-- map's file has at most 2^64 bytes.
abbrev pub PrintedTracesReplay : Type 0
PrintedTracesReplay =
    (model_bytes map_bytes : List ℕ) (designs : List (List ℕ)) (s : Setting) (o : Obligation) (run : Run) (t : Trace)
    → IsSettingOf model_bytes map_bytes designs s → length map_bytes ≤ 2 ^ 64 → Contains (obligations s.model s.map) o
    → Falsifies s run o → IsTraceOf s o run t → ReplaysAsFalsifying s o t
