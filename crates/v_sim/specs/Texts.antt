-- What a design does under a script, by its parts, and the text that tells it.
use Rattle.std.specs.Prelude.{ℕ, suc, Vec, List, [], ◌∷◌, ◌++◌, map, Option, Some, None, codes, decimal}
use Rattle.std.specs.Global.{Global}
use Rattle.wb_values.specs.Value.{Name, Sort, Value, number, numeral_of, Entries}
use Rattle.scripts.specs.Script.{Settable, zero_value}
use Rattle.wb_terms.specs.Environment.{AreOfSorts}
use Rattle.design_scripts.specs.Simulation.{number_text, register_text}
use Rattle.v_design.specs.Parts.{Parts, registers_of, inputs_of, value_in, registers_after}
use Rattle.ila_sim.specs.declared.set.Set.{Set}
use Rattle.ila_sim.specs.declared.script.Script.{Script}
use Rattle.ila_sim.specs.Outcomes.{with_all}
use Rattle.v_sim.specs.Names.{names_by}

-- the zeros of names
abbrev pub zeros : Entries Sort → List Value
zeros = map (λ n. zero_value n.1)

-- the registers with which a script begins
abbrev pub first_values : Parts → List Set → List Value
first_values e ss = with_all (zeros (registers_of e)) ss

abbrev pub number_zeros : Entries Sort → List Value
number_zeros = map (λ n. number 0)

-- the inputs that an input line gives
abbrev pub line_values : Parts → List Set → List Value
line_values e ss = with_all (number_zeros (inputs_of e)) ss

-- the number of a term there, and 0 where there is none
abbrev pub number_in : Parts → (registers inputs : List Value) → Option ℕ → ℕ
number_in e rs is None = 0
number_in e rs is (Some id) = numeral_of (value_in e rs is id)

-- what a name settles to, as a number
abbrev pub settled_number : Parts → (registers inputs : List Value) → Name → ℕ
settled_number e rs is n = number_in e rs is (e.settled n)

abbrev pub outputs_by : Parts → (registers inputs : List Value) → List Name → List ℕ
outputs_by e rs is [] = []
outputs_by e rs is (n ∷ ns) = number_text n (settled_number e rs is n) ++ outputs_by e rs is ns

-- the line of a cycle
abbrev pub cycle_line : Parts → ℕ → (registers inputs : List Value) → List ℕ
cycle_line e t rs is = decimal t ++ (outputs_by e rs is e.outputs ++ 10 ∷ [])

-- the values of registers
abbrev pub registers_by : List Settable → List Value → List ℕ
registers_by [] xs = []
registers_by (s ∷ ss) [] = []
registers_by (s ∷ ss) (x ∷ xs) = register_text s x ++ registers_by ss xs

abbrev pub end_by : List Settable → List Value → List ℕ
end_by ss xs = codes "end" ++ (registers_by ss xs ++ 10 ∷ [])

-- the text from cycle t on, where these are the registers, and these lines are left
abbrev pub text_from : Parts → ℕ → List Value → List (List Set) → List ℕ
text_from e t rs [] = end_by (names_by e).states rs
text_from e t rs (ss ∷ lines) = cycle_line e t rs (line_values e ss) ++ text_from e (suc t) (registers_after e rs (line_values e ss)) lines

abbrev pub input_lines : List (Vec Set Global) → List (List Set)
input_lines = map (λ ss. ss.items)

abbrev pub text_by : Parts → Script → List ℕ
text_by e script = text_from e 0 (first_values e script.state.items) (input_lines script.inputs.items)

-- In a run of these lines all registers have values of their sorts.
abbrev pub IsSortedRun : Parts → List Value → List (List Set) → Type 0
IsSortedRun e rs [] = AreOfSorts (registers_of e) rs
IsSortedRun e rs (ss ∷ lines) = AreOfSorts (registers_of e) rs × IsSortedRun e (registers_after e rs (line_values e ss)) lines
