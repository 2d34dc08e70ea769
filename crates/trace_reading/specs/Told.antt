-- What the answer about a trace file means, for each setting that a design and a list of obligations are of.
use Rattle.std.specs.Prelude.{◌≡◌, ℕ, ◌<◌, List, map, length, slice_get, slice_index_or, Contains, All, Some, IsTrue, ⊤}
use Rattle.wb_values.specs.Value.{Name, Value, number, Entries}
use Rattle.verilog_exists.specs.Exists.{IsOfText}
use Rattle.refinement.specs.Map.{Setting, design_of}
use Rattle.refinement.specs.Run.{Run}
use Rattle.refinement.specs.Obligation as pure
use Rattle.reports.specs.Report.{Trace as PureTrace, StandsFor}
use Rattle.trace_files.specs.Meaning.{IsFittingTrace, IsTraceReading, traces, refused_by}
use Rattle.trace_files.specs.Replay.{IsToldBy}
use Rattle.wb_terms.specs.Environment.{AreOfSorts}
use Rattle.v_design.specs.Parts.{Parts, registers_of, inputs_of, are_bits_for, are_words}
use Rattle.v_design.specs.Seen.{parts_of, register_values, input_values}
use Rattle.v_design.specs.Design.{IsDesignOf, values_under}
use Rattle.v_design.specs.declared.design.Design.{Design}
use Rattle.mapped_designs.specs.Runs.{IsRestZero}
use Rattle.obligation_lists.specs.Claims.{obligation_of}
use Rattle.obligation_lists.specs.declared.claims.Obligation.{Obligation}
use Rattle.trace_texts.specs.Order.{register_name, input_name, register_bits}
use Rattle.trace_reading.specs.Reading.{cycles_view}
use Rattle.trace_reading.specs.Rule.{rule_view}
use Rattle.trace_reading.specs.declared.outcome.FileTrace.{FileTrace}
use Rattle.trace_reading.specs.declared.outcome.TraceRead.{TraceRead}
use Rattle.trace_reading.specs.declared.outcome.TraceRead.TheVariants.{Trace, Refused}

-- The setting's design is that of the parts and of a text, and its obligations are those of the list.
pub record IsSettingFor (s : Setting) (e : Parts) (os : List Obligation) : Type 0 where
  pub design : IsDesignOf (design_of s) e
  pub of_text : IsOfText (design_of s)
  pub listed : map (obligation_of s.map) os ≡ pure.obligations s.model s.map

-- The values are those of the registers that a trace gives, in the design's order, each of its sort: each register that the trace names
-- has the value that it gives; and what does not count of a register is 0. (So a register that is not named is 0: none of its bits
-- counts.)
pub record AreRegistersOf (e : Parts) (t : PureTrace) (values : List Value) : Type 0 where
  pub sorted : AreOfSorts (registers_of e) values
  pub told : (k : ℕ) (x : Value) → k < length (registers_of e) → Contains t.registers (register_name e k, x)
      → StandsFor (length (register_bits e k).masks) x (slice_index_or values k (number 0))
  pub rest : IsRestZero e values

-- The numbers are those of the inputs that entries give, in the design's order.
pub record AreInputsOf (e : Parts) (es : Entries Value) (numbers : List ℕ) : Type 0 where
  pub sorted : AreOfSorts (inputs_of e) (map number numbers)
  pub told : (k : ℕ) (x : Value) → k < length (inputs_of e) → Contains es (input_name e k, x) → x ≡ number (slice_index_or numbers k 0)

-- so for each cycle of a trace
pub record AreCyclesOf (e : Parts) (t : PureTrace) (cycles : List (List ℕ)) : Type 0 where
  pub all : length cycles ≡ length t.inputs
  pub each : (k : ℕ) (es : Entries Value) (numbers : List ℕ) → slice_get t.inputs k ≡ Some es → slice_get cycles k ≡ Some numbers
      → AreInputsOf e es numbers

-- The values are those of a trace, and the place is that of its obligation.
pub record IsGivenBy (s : Setting) (e : Parts) (t : PureTrace) (o : pure.Obligation) (given : FileTrace) : Type 0 where
  pub obligation : slice_get (pure.obligations s.model s.map) given.obligation ≡ Some o
  pub registers : AreRegistersOf e t (register_values given.registers)
  pub cycles : AreCyclesOf e t (cycles_view given.inputs.items)

-- The answer for a setting: a trace of an obligation of which these are the values, or the first rule that refuses the file.
abbrev pub IsReadFor : Setting → Parts → List ℕ → TraceRead → Type 0
IsReadFor s e bytes (Trace given) = (t : PureTrace) × (o : pure.Obligation) × IsTraceReading s bytes (traces o t) × IsGivenBy s e t o given
IsReadFor s e bytes (Refused r) = IsTraceReading s bytes (refused_by (rule_view r.rule))

-- It is so for each setting of a design and a list of obligations.
abbrev pub IsRead : Design → List Obligation → List ℕ → TraceRead → Type 0
IsRead d os bytes answer = (s : Setting) → IsSettingFor s (parts_of d) os → IsReadFor s (parts_of d) bytes answer

-- ---- values

-- What holds of the values of a trace for whatever setting it is read: its obligation stands in the list, there are as many cycles as that
-- speaks of, and each value is of the sort of its register or its input.
pub record AreValuesFor (e : Parts) (os : List Obligation) (t : FileTrace) : Type 0 where
  pub listed : t.obligation < length os
  pub cycles : (o : Obligation) → slice_get os t.obligation ≡ Some o → length t.inputs.items ≡ o.cycles
  pub registers : AreOfSorts (registers_of e) (register_values t.registers)
  pub inputs : All (λ i. AreOfSorts (inputs_of e) (input_values i)) t.inputs.items

abbrev pub HasValuesFor : Parts → List Obligation → TraceRead → Type 0
HasValuesFor e os (Trace t) = AreValuesFor e os t
HasValuesFor e os (Refused r) = ⊤

-- ---- runs

-- The run's first registers and its inputs at each cycle have these values.
pub record HasValues (e : Parts) (run : Run) (registers : List Value) (cycles : List (List ℕ)) : Type 0 where
  pub first : values_under (registers_of e) (run.registers 0) ≡ registers
  pub inputs : (k : ℕ) (numbers : List ℕ) → slice_get cycles k ≡ Some numbers → values_under (inputs_of e) (run.inputs k) ≡ map number numbers

-- Of a design whose tree is that of a text: a trace that fits it tells each run that has the values of the trace.
abbrev pub RunsAreTold : Type 0
RunsAreTold =
    (s : Setting) (e : Parts) (t : PureTrace) (run : Run) (registers : List Value) (cycles : List (List ℕ)) → IsDesignOf (design_of s) e
    → IsOfText (design_of s) → IsTrue (are_bits_for (registers_of e) e.bits) → IsTrue (are_words (inputs_of e)) → IsFittingTrace (design_of s) t → AreRegistersOf e t registers → AreCyclesOf e t cycles
    → HasValues e run registers cycles → IsToldBy s run t
