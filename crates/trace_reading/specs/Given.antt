-- The values that a file gives to the registers and the inputs of a design, in the design's order. What it does not name is 0.
use Rattle.std.specs.Prelude.{ℕ, ◌-◌, ◌^◌, false, List, [], ◌∷◌, ◌++◌, map, take, length, replicate, Option, Some, None, codes}
use Rattle.wb_values.specs.Value.{Name, Sort, truth, word, memory, Value, truth_value, number, words, Entries}
use Rattle.serde_json.specs.Data.{Data, Items, no_items, item}
use Rattle.serde_json.specs.Find.{get, as_array}
use Rattle.map_files.specs.Shape.{read_under}
use Rattle.v_design.specs.Parts.{Parts, registers_of, inputs_of}
use Rattle.trace_reading.specs.Numbers.{numeral_in, number_or_zero, numbers_of_items}
use Rattle.trace_reading.specs.Fitting.{register_in}

abbrev pub number_given : Option Data → ℕ
number_given None = 0
number_given (Some d) = number_or_zero (numeral_in d)

abbrev pub numbers_listed : Option Items → List ℕ
numbers_listed None = []
numbers_listed (Some ds) = numbers_of_items ds

abbrev pub words_given : Option Data → List ℕ
words_given None = []
words_given (Some d) = numbers_listed (as_array d)

-- the first n of the numbers, and zeros after them where there are fewer
abbrev pub with_zeros : (n : ℕ) → List ℕ → List ℕ
with_zeros n xs = take n xs ++ replicate (n - length (take n xs)) 0

-- the value of a register of the sort; of a memory all its words
abbrev pub value_given : Sort → Option Data → Value
value_given truth o = truth_value false
value_given (word w) o = number (number_given o)
value_given (memory a w) o = words (with_zeros (2 ^ a) (words_given o))

abbrev pub register_given : Data → Name × Sort → Value
register_given d n = value_given n.1 (register_in d n.0)

-- the first registers
abbrev pub registers_given : Parts → Data → List Value
registers_given e d = map (register_given d) (registers_of e)

-- the inputs of one cycle
abbrev pub input_given : Data → Name × Sort → ℕ
input_given d n = number_given (get n.0 d)

abbrev pub inputs_given : Parts → Data → List ℕ
inputs_given e d = map (input_given d) (inputs_of e)

abbrev pub cycles_of_items : Parts → Items → List (List ℕ)
cycles_of_items e no_items = []
cycles_of_items e (item d ds) = inputs_given e d ∷ cycles_of_items e ds

abbrev pub cycles_listed : Parts → Option Items → List (List ℕ)
cycles_listed e None = []
cycles_listed e (Some ds) = cycles_of_items e ds

-- the inputs of each cycle
abbrev pub cycles_given : Parts → Data → List (List ℕ)
cycles_given e d = cycles_listed e (read_under as_array (codes "inputs") d)
