-- What a report prints for a trace is read back as that trace.
use Rattle.std.proofs.Common.{◌≡◌, ◌∙◌, true, cond, Some, None, sym, ap}
use Rattle.serde_json.specs.Read.{read}
use Rattle.model_files.specs.Shape.{document}
use Rattle.verilog_meaning.specs.Settled.{names_of}
use Rattle.refinement.specs.Map.{design_of}
use Rattle.reports.specs.Report.{Trace, trace_text, is_in_order}
use Rattle.trace_files.specs.Meaning.{is_trace}
use Rattle.printed_traces.specs.Printed.{HasPlainNames, TracesAreReadBack}
use Rattle.printed_traces.proofs.Data.{data_of}
use Rattle.printed_traces.proofs.Text.{text_written, text_utf8}
use Rattle.printed_traces.proofs.Written.{text_back}
use Rattle.printed_traces.proofs.Shapes.{CyclesInOrder, shape_there, trace_written, trace_shallow}
use Rattle.printed_traces.proofs.Fits.{sound_modules, trace_fits, trace_full, inputs_in_order, registers_small, inputs_small}

document_there : (t : Trace) → HasPlainNames t → is_in_order (names_of t.registers) ≡ true → CyclesInOrder t.inputs → document (trace_text t) ≡ Some (data_of t)
document_there t plain registers inputs =
    ap (λ b. cond b (read (trace_text t)) None) (text_utf8 t plain)
    ∙ (ap read (sym (text_written t plain)) ∙ text_back (data_of t) (trace_written t registers inputs) (trace_shallow t))

pub read_back : TracesAreReadBack
read_back s o run t accepts shapely dotless contained is_run of_run plain =
    let sound = sound_modules (design_of s) accepts shapely in
    is_trace t o
    (record {
      data_in = data_of t;
      is_document = document_there t plain of_run.registers.in_order (inputs_in_order s o run t dotless is_run of_run);
      is_shape = shape_there t (registers_small s o run t dotless is_run of_run sound) (inputs_small s o run t dotless is_run of_run sound);
      fits = trace_fits s o run t dotless is_run of_run;
    })
    (contained, sym of_run.named) (trace_full s o run t dotless is_run of_run)
