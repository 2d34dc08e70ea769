-- The names in a trace of an obligation are plain.
use Rattle.std.proofs.Common.{◌≡◌, Bool, true, false, cond, [], ◌∷◌, Option, Some, refl, sym, ap, subst, ◌∙◌}
use Rattle.std.specs.Prelude.{is_some, Contains}
use Rattle.std.proofs.lemmas.Bool.{and_from}
use Rattle.wb_values.specs.Value.{Name, same_name, Value, Entries, entry_of}
use Rattle.verilog_trees.specs.Syntax.{input}
use Rattle.verilog_meaning.specs.Settled.{names_of}
use Rattle.verilog_unique.proofs.Options.{is_same}
use Rattle.verilog_unique.proofs.Paths.{placed_in}
use Rattle.verilog_unique.proofs.Ports.{port_is_declared}
use Rattle.v_print.specs.Printable.{IsPrintableSource}
use Rattle.v_print_source.proofs.Ended.{read_printable}
use Rattle.refinement.specs.Map.{Setting, design_of}
use Rattle.refinement.specs.Run.{Run}
use Rattle.refinement.specs.Obligation.{Obligation}
use Rattle.reports.specs.Report.{Trace, IsTraceRegister, IsInput, IsTraceOf}
use Rattle.printed_traces.specs.Printed.{is_plain_name, are_plain_names}
use Rattle.printed_traces.specs.Names.{TraceNamesArePlain}
use Rattle.printed_traces.proofs.Fits.{got}
use Rattle.printed_traces.proofs.FileModels.{of_file}
use Rattle.printed_traces.proofs.ObligationNames.{Plain, obligation_plain}
use Rattle.printed_traces.proofs.SourceNames.{declared_plain, dotted_name_plain}

-- names of entries, where each that has one is plain
entries_plain : (es : Entries Value) → ((n : Name) → is_some (entry_of es n) ≡ true → Plain n) → are_plain_names (names_of es) ≡ true
entries_plain [] h = refl
entries_plain (e ∷ es) h =
    and_from (is_plain_name e.0) (are_plain_names (names_of es)) (h e.0 (ap (λ b. is_some (cond b (Some e.1) (entry_of es e.0))) (is_same e.0)))
    (entries_plain es (λ n k. h n (later (same_name e.0 n) (entry_of es n) k)))
  where
    later : (b : Bool) (x : Option Value) → is_some x ≡ true → is_some (cond b (Some e.1) x) ≡ true
    later true x k = refl
    later false x k = k

module _ (s : Setting) (o : Obligation) (run : Run) (t : Trace) (printable : IsPrintableSource s.source) (is : IsTraceOf s o run t) where
  register_plain : (n : Name) → IsTraceRegister (design_of s) n → Plain n
  register_plain n r = subst Plain (sym r.is_name) (dotted_name_plain (design_of s) printable r.place r.own r.is_place r.is_declared)

  input_plain : (n : Name) → IsInput (design_of s) n → Plain n
  input_plain n r = declared_plain (design_of s) printable r.place n (placed_in (design_of s) [] r.place r.is_place) (port_is_declared r.place n input r.is_port)

  registers_plain : are_plain_names (names_of t.registers) ≡ true
  registers_plain = entries_plain t.registers (λ n k. register_plain n ((is.registers.wanted n).0 k))

  inputs_plain : (es : Entries Value) → Contains t.inputs es → are_plain_names (names_of es) ≡ true
  inputs_plain es c = entries_plain es (λ n k. input_plain n (((is.inputs c.0 es (got t.inputs c.0 es c.1 c.2)).wanted n).0 k))

pub trace_names_plain : TraceNamesArePlain
trace_names_plain bytes files s o run t of tree c is =
    let printable : IsPrintableSource s.source = read_printable files s.source tree in
    record {
      obligation = ap is_plain_name is.named ∙ obligation_plain s.model s.map o (of_file bytes s.model of) c;
      registers = registers_plain s o run t printable is;
      inputs = inputs_plain s o run t printable is;
    }
