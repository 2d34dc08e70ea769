-- The trace with given values, and when it tells a run.
use Rattle.std.specs.Prelude.{◌≡◌, ℕ, List, [], ◌∷◌, map, take, length, slice_index_or, slice_get, Some, IsTrue}
use Rattle.std.specs.Global.{Vec}
use Rattle.wb_values.specs.Value.{Name, Value, truth_value, number, words}
use Rattle.verilog_exists.specs.Exists.{IsOfText}
use Rattle.refinement.specs.Map.{Setting, design_of}
use Rattle.refinement.specs.Run.{Run, IsRun}
use Rattle.refinement.specs.Obligation.{Obligation}
use Rattle.reports.specs.Report.{Trace, IsTraceOf}
use Rattle.v_design.specs.Registers.{CountedBits}
use Rattle.v_design.specs.Parts.{Parts, registers_of, inputs_of, are_bits_for}
use Rattle.v_design.specs.Design.{IsDesignOf, values_under}
use Rattle.trace_texts.specs.Order.{register_name, input_name, register_bits, register_places, input_places}
use Rattle.trace_texts.specs.declared.names.TraceNames.{TraceNames}

-- the values of inputs at each cycle
abbrev pub numbers_of : List (Vec ℕ) → List (List Value)
numbers_of [] = []
numbers_of (ns ∷ rest) = map number ns.items ∷ numbers_of rest

-- a register's value as a trace shows it: of a memory the words that it has
abbrev pub shown : CountedBits → Value → Value
shown c (truth_value b) = truth_value b
shown c (number x) = number x
shown c (words xs) = words (take (length c.masks) xs)

-- the entry of a register, and of an input, by its place, where they have these values in their order
abbrev pub register_entry : Parts → (registers : List Value) → ℕ → Name × Value
register_entry d rs k = (register_name d k, shown (register_bits d k) (slice_index_or rs k (number 0)))

abbrev pub input_entry : Parts → (inputs : List Value) → ℕ → Name × Value
input_entry d xs k = (input_name d k, slice_index_or xs k (number 0))

-- The trace with this name, with these values of the registers, and with these of the inputs at each cycle.
abbrev pub trace_of : Parts → Name → (registers : List Value) → (inputs : List (List Value)) → Trace
trace_of d called rs is = record {
  obligation = called;
  registers = map (register_entry d rs) (register_places d);
  inputs = map (λ xs. map (input_entry d xs) (input_places d)) is;
}

-- These are the places of a design's registers and inputs, in the order in which they stand in a trace.
pub record AreNamesOf (d : Parts) (names : TraceNames) : Type 0 where
  pub registers : names.registers.items ≡ register_places d
  pub inputs : names.inputs.items ≡ input_places d

-- The values are those that registers and inputs have in a run, at the first cycle and at each cycle of an obligation.
pub record AreValuesOfRun (d : Parts) (o : Obligation) (run : Run) (rs : List Value) (is : List (Vec ℕ)) : Type 0 where
  pub first : values_under (registers_of d) (run.registers 0) ≡ rs
  pub cycles : length is ≡ o.cycles
  pub inputs : (t : ℕ) (xs : List Value) → slice_get (numbers_of is) t ≡ Some xs → values_under (inputs_of d) (run.inputs t) ≡ xs

-- Of a design whose tree is that of a text: a run whose first registers, and whose inputs at each cycle of an obligation, have these
-- values is told by their trace.
abbrev pub TracesTell : Type 0
TracesTell =
    (s : Setting) (d : Parts) (o : Obligation) (run : Run) (rs : List Value) (is : List (Vec ℕ)) → IsDesignOf (design_of s) d → IsOfText (design_of s)
    → IsTrue (are_bits_for (registers_of d) d.bits) → IsRun s run o.cycles → AreValuesOfRun d o run rs is
    → IsTraceOf s o run (trace_of d o.called rs (numbers_of is))
