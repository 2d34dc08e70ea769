-- A printed trace of values that falsify an obligation replays so.
use Rattle.std.proofs.Common.{◌≡◌, ◌∙◌, ℕ, ◌≤◌, List, length, Some, None, sym, subst, arith}
use Rattle.refinement.specs.Map.{Setting, design_of}
use Rattle.refinement.specs.Obligation.{Obligation, obligations}
use Rattle.reports.specs.Report.{Trace, trace_text}
use Rattle.trace_files.specs.Meaning.{IsObligationNamed, IsFullFor, TraceReading, traces, IsTraceReading, no_document, no_fitting_trace, no_obligation, not_full, is_trace}
use Rattle.verilog_exists.specs.Exists.{IsOfText}
use Rattle.designs_of_texts.proofs.OfText.{of-text}
use Rattle.printed_traces.specs.Printed.{PrintedTracesReplay}
use Rattle.printed_traces.proofs.ReadBack.{read_back}
use Rattle.printed_traces.proofs.OneWay.{read_one_way}
use Rattle.printed_traces.proofs.Replays.{replays}
use Rattle.printed_traces.proofs.DistinctNames.{distinct_names, one_named}
use Rattle.printed_traces.proofs.TraceNames.{trace_names_plain}
use Rattle.printed_traces.proofs.Bounds.{bounds_small}
use Rattle.printed_traces.proofs.Invariants.{few_invariants}

none_some : {A : Type 0} (x : A) → None ≡ Some x → ⊥
none_some x e = cc

-- What bytes are read as, where they are a trace of an obligation, and no other one has the trace's name.
read_alone : (s : Setting) (bytes : List ℕ) (o : Obligation) (t : Trace) → IsTraceReading s bytes (traces o t)
    → ((q : Obligation) → IsObligationNamed s t.obligation q → q ≡ o) → (r : TraceReading) → IsTraceReading s bytes r → r ≡ traces o t
read_alone s bytes _ _ (is_trace t o says named full) only _ (no_document e) = absurd (none_some says.data_in (sym e ∙ says.is_document))
read_alone s bytes _ _ (is_trace t o says named full) only _ (no_fitting_trace d e none) = absurd (none t says)
read_alone s bytes _ _ (is_trace t o says named full) only _ (no_obligation u says_u none) =
    absurd (none o (subst (λ (x : Trace). IsObligationNamed s x.obligation o) (read_one_way s bytes t u says says_u) named))
read_alone s bytes _ _ (is_trace t o says named full) only _ (not_full u q says_u named_q misses) =
    let same : u ≡ t = read_one_way s bytes u t says_u says in
    let one : q ≡ o = only q (subst (λ (x : Trace). IsObligationNamed s x.obligation q) same named_q) in
    absurd (misses (subst (λ (x : Obligation). IsFullFor s x u) (sym one) (subst (IsFullFor s o) (sym same) full)))
read_alone s bytes _ _ (is_trace t o says named full) only _ (is_trace u q says_u named_q full_q) =
    let same : u ≡ t = read_one_way s bytes u t says_u says in
    let one : q ≡ o = only q (subst (λ (x : Trace). IsObligationNamed s x.obligation q) same named_q) in
    λ i. traces (one i) (same i)

pub printed_replay : PrintedTracesReplay
printed_replay model_bytes map_bytes designs s o run t files short c broken is =
    let text : IsOfText (design_of s) = of-text designs (design_of s) files.is_tree in
    let plain = trace_names_plain model_bytes designs s o run t files.is_model files.is_tree c is in
    let read = read_back s o run t files.is_accepted text.shapely text.no_dots c broken.is_run is plain in
    let few : length s.map.invariants ≤ length map_bytes = few_invariants map_bytes s.model s.source s.map files.is_map in
    let distinct =
    distinct_names model_bytes s.model s.map files.is_model (omega (arith, few, short))
    (λ n. omega (arith, bounds_small map_bytes s.model s.source s.map files.is_map n)) in
    record {
      is_read = read;
      one_reading = read_alone s (trace_text t) o t read
          (λ q named. one_named (obligations s.model s.map) q o distinct named.0 c (named.1 ∙ is.named));
      one_answer = λ answer each. replays s o run t answer broken is each;
    }
