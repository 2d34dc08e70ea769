-- What the bytes of a trace file stand for, for a model, a design and a map: an obligation with values of the registers and of the inputs;
-- or the first rule that refuses them.
use Rattle.std.specs.Prelude.{◌≡◌, ℕ, false, true, ◌<◌, ◌^◌, List, [], length, None, Some, is_some, IsTrue, Contains}
use Rattle.wb_values.specs.Value.{Name, Value, truth_value, number, words, all_below, Entries, entry_of}
use Rattle.serde_json.specs.Data.{Data}
use Rattle.model_files.specs.Shape.{document}
use Rattle.verilog_meaning.specs.Expression.{Object, object_width, is_memory}
use Rattle.verilog_meaning.specs.Register.{word_count, value_bit}
use Rattle.verilog_meaning.specs.Hierarchy.{Placed, placed_scope, dotted}
use Rattle.verilog_meaning.specs.Settled.{Design, at_path, IsPlacedIn, IsDeclared, is_counted}
use Rattle.refinement.specs.Map.{Setting, design_of}
use Rattle.refinement.specs.Obligation.{Obligation, obligations}
use Rattle.reports.specs.Report.{Trace, IsTraceRegister, IsInput}
use Rattle.trace_files.specs.Shape.{IsShapeOf}

-- The rules on traces, in the order in which they are judged, each over the whole file before the next.
pub data TraceRule : Type 0 where
  BadJson BadShape UnknownObligation MissingValue : TraceRule

-- A value fits an object: a number of its width, or of a memory as many words as it has, each of its width.
abbrev pub FitsObject : Object → Value → Type 0
FitsObject o (truth_value b) = ⊥
FitsObject o (number x) = (is_memory o ≡ false) × (x < 2 ^ object_width o)
FitsObject o (words xs) = (is_memory o ≡ true) × (length xs ≡ word_count o) × IsTrue (all_below (object_width o) xs)

-- The path names a register of the design, and the value fits it: its bits that do not count are 0.
pub record IsRegisterValue (d : Design) (n : Name) (x : Value) : Type 0 where
  pub is_register : IsTraceRegister d n
  pub fits : (p : Placed) (own : Name) → IsPlacedIn d p → IsDeclared p own → n ≡ dotted p.path own → FitsObject (placed_scope p own) x
  pub rest : (p : Placed) (own : Name) (k b : ℕ) → IsPlacedIn d p → IsDeclared p own → n ≡ dotted p.path own → is_counted p own k b ≡ false
      → value_bit x k b ≡ false

-- The name is that of an input of the top other than the clock, and the value fits it.
pub record IsInputValue (d : Design) (n : Name) (x : Value) : Type 0 where
  pub is_input : IsInput d n
  pub fits : (p : Placed) → at_path d [] ≡ Some p → FitsObject (placed_scope p n) x

-- The trace has values of registers and inputs of the design alone, each of which fits.
pub record IsFittingTrace (d : Design) (t : Trace) : Type 0 where
  pub registers : (n : Name) (x : Value) → Contains t.registers (n, x) → IsRegisterValue d n x
  pub inputs : (es : Entries Value) (n : Name) (x : Value) → Contains t.inputs es → Contains es (n, x) → IsInputValue d n x

-- The bytes are a JSON document in UTF-8 that says this trace, which fits the design.
pub record SaysTrace (s : Setting) (bytes : List ℕ) (t : Trace) : Type 0 where
  pub data_in : Data
  pub is_document : document bytes ≡ Some data_in
  pub is_shape : IsShapeOf data_in t
  pub fits : IsFittingTrace (design_of s) t

-- an obligation of the model and the map by its name
abbrev pub IsObligationNamed : Setting → Name → Obligation → Type 0
IsObligationNamed s n o = Contains (obligations s.model s.map) o × (o.called ≡ n)

-- Each register has a value, and each input in each cycle; and there are as many cycles as the obligation speaks of.
pub record IsFullFor (s : Setting) (o : Obligation) (t : Trace) : Type 0 where
  pub registers : (n : Name) → IsTraceRegister (design_of s) n → IsTrue (is_some (entry_of t.registers n))
  pub cycles : length t.inputs ≡ o.cycles
  pub inputs : (es : Entries Value) (n : Name) → Contains t.inputs es → IsInput (design_of s) n → IsTrue (is_some (entry_of es n))

-- what a file is: a trace of an obligation, or refused by the first rule that it breaks
pub data TraceReading : Type 0 where
  traces : Obligation → Trace → TraceReading
  refused_by : TraceRule → TraceReading

-- The reading of a trace file's bytes, for a setting that no rule refuses.
pub data IsTraceReading (s : Setting) (bytes : List ℕ) : TraceReading → Type 0 where
  no_document : document bytes ≡ None → IsTraceReading s bytes (refused_by BadJson)
  no_fitting_trace : (d : Data) → document bytes ≡ Some d → ((t : Trace) → ¬ SaysTrace s bytes t) → IsTraceReading s bytes (refused_by BadShape)
  no_obligation : (t : Trace) → SaysTrace s bytes t → ((o : Obligation) → ¬ IsObligationNamed s t.obligation o)
      → IsTraceReading s bytes (refused_by UnknownObligation)
  not_full : (t : Trace) (o : Obligation) → SaysTrace s bytes t → IsObligationNamed s t.obligation o → ¬ IsFullFor s o t
      → IsTraceReading s bytes (refused_by MissingValue)
  is_trace : (t : Trace) (o : Obligation) → SaysTrace s bytes t → IsObligationNamed s t.obligation o → IsFullFor s o t
      → IsTraceReading s bytes (traces o t)
