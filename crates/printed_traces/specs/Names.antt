-- Names of obligations and in traces, where files stand for the model and the design.
use Rattle.std.specs.Prelude.{ℕ, ◌≤◌, ◌^◌, List, length, map, Contains, IsFalse}
use Rattle.wb_values.specs.Value.{Name}
use Rattle.model_meaning.specs.Among.{has_twice}
use Rattle.model_meaning.specs.Model.{Model}
use Rattle.model_files.specs.Meaning.{ModelOf}
use Rattle.verilog_text.specs.Grammar.{IsTreeOf}
use Rattle.refinement.specs.Map.{Map, Setting}
use Rattle.refinement.specs.Run.{Run}
use Rattle.refinement.specs.Obligation.{Obligation, bound_named, obligations}
use Rattle.reports.specs.Report.{Trace, IsTraceOf}
use Rattle.printed_traces.specs.Printed.{HasPlainNames}

-- No two obligations have one name, where a file stands for the model, and the map has at most 2^64 invariants and no bound above 2^64.
abbrev pub ObligationsHaveDistinctNames : Type 0
ObligationsHaveDistinctNames =
    (bytes : List ℕ) (m : Model) (p : Map) → ModelOf bytes m → length p.invariants ≤ 2 ^ 64 → ((n : Name) → bound_named p n ≤ 2 ^ 64)
    → IsFalse (has_twice (map (λ o. o.called) (obligations m p)))

-- The names in a trace of an obligation are plain, where a file stands for the model, and files have the design as their tree.
abbrev pub TraceNamesArePlain : Type 0
TraceNamesArePlain =
    (bytes : List ℕ) (files : List (List ℕ)) (s : Setting) (o : Obligation) (run : Run) (t : Trace) → ModelOf bytes s.model → IsTreeOf files s.source
    → Contains (obligations s.model s.map) o → IsTraceOf s o run t → HasPlainNames t
