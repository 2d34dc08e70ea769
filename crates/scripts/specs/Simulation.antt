-- What a model does under one list of inputs after the other, and the text that tells it.
use Rattle.std.specs.Prelude.{ℕ, suc, cond, ◌==◌, List, [], ◌∷◌, ◌++◌, map, slice_get, Option, Some, None, option_map, codes, decimal, ⊤}
use Rattle.wb_values.specs.Value.{Name, Value, words, numeral_of, Valuation}
use Rattle.model_meaning.specs.Model.{StateDeclaration, Model, instruction_name, instructions_in, states_of}
use Rattle.model_meaning.specs.Instruction.{Trouble, stuck, too_long}
use Rattle.model_meaning.specs.Outcome.{Outcome, next, not_valid, no_instruction, several, trouble, IsOutcome, state_after}
use Rattle.scripts.specs.Script.{Script, first_state, inputs_of}

-- The outcomes of a run from a state, one for each of the inputs.
abbrev pub AreOutcomes : Model → Valuation → List Valuation → List Outcome → Type 0
AreOutcomes m q [] [] = ⊤
AreOutcomes m q (w ∷ ws) (o ∷ os) = IsOutcome m q w o × AreOutcomes m (state_after q o) ws os
AreOutcomes m q [] (o ∷ os) = ⊥
AreOutcomes m q (w ∷ ws) [] = ⊥

-- the outcomes of a script
abbrev pub IsSimulation : Model → Script → List Outcome → Type 0
IsSimulation m script os = AreOutcomes m (first_state m script) (map (inputs_of m) script.inputs) os

-- ---- its text

abbrev pub spaced : List ℕ → List ℕ
spaced text = 32 ∷ text

-- ` m[5]=7` for each word of a memory that is not 0, by ascending address from k on
abbrev pub words_text : Name → ℕ → List ℕ → List ℕ
words_text n k [] = []
words_text n k (x ∷ xs) =
    cond (x == 0) [] (spaced (n ++ (91 ∷ (decimal k ++ (codes "]=" ++ decimal x))))) ++ words_text n (suc k) xs

-- ` cnt=7`, or the words of a memory
abbrev pub state_text : Name → Value → List ℕ
state_text n (words xs) = words_text n 0 xs
state_text n x = spaced (n ++ (61 ∷ decimal (numeral_of x)))

abbrev pub states_text : List StateDeclaration → Valuation → List ℕ
states_text [] q = []
states_text (s ∷ ss) q = state_text s.state_name (q s.state_name) ++ states_text ss q

abbrev pub name_or_none : Option Name → Name
name_or_none (Some n) = n
name_or_none None = []

-- the name of the instruction with this number
abbrev pub name_of_instruction : Model → ℕ → Name
name_of_instruction m j = name_or_none (option_map instruction_name (slice_get (instructions_in m.top) j))

abbrev pub trouble_text : Trouble → List ℕ
trouble_text (stuck depth step) = codes "child-stuck " ++ (decimal depth ++ spaced (decimal step))
trouble_text (too_long depth) = codes "child-too-long " ++ decimal depth

abbrev pub outcome_text : Model → Outcome → List ℕ
outcome_text m (next j r) = name_of_instruction m j ++ states_text (states_of m.top) r
outcome_text m not_valid = codes "none"
outcome_text m no_instruction = codes "no-instruction"
outcome_text m (several j k) = codes "several " ++ (name_of_instruction m j ++ spaced (name_of_instruction m k))
outcome_text m (trouble t) = trouble_text t

-- a line for each outcome: its number from n on, and what happened
abbrev pub outcome_lines : Model → ℕ → List Outcome → List ℕ
outcome_lines m n [] = []
outcome_lines m n (o ∷ os) = decimal n ++ (spaced (outcome_text m o) ++ (10 ∷ outcome_lines m (suc n) os))

-- The text of a simulation: its lines are numbered from 1.
abbrev pub simulation_text : Model → List Outcome → List ℕ
simulation_text m os = outcome_lines m 1 os
