-- The line that tells an answer, as a function of the model.
use Rattle.std.specs.Prelude.{ℕ, List, [], ◌∷◌, ◌++◌, slice_get, Option, Some, None, codes, decimal}
use Rattle.wb_values.specs.Value.{Name}
use Rattle.model_meaning.specs.Model.{Model, StateDeclaration, Instruction, instruction_name, states_of, instructions_in}
use Rattle.watched_runs.specs.Disagreements.{Disagreement, initial_value, no_step, past_bound, other_state}
use Rattle.watched_runs.specs.Watched.{Watched, agrees, outside, disagrees, premise_text}

abbrev pub called_state : Option StateDeclaration → Name
called_state None = []
called_state (Some d) = d.state_name

abbrev pub called_instruction : Option Instruction → Name
called_instruction None = []
called_instruction (Some i) = instruction_name i

-- the names of a state and of an instruction, by their numbers in the model
abbrev pub name_of_state : Model → ℕ → Name
name_of_state m k = called_state (slice_get (states_of m.top) k)

abbrev pub name_of_instruction : Model → ℕ → Name
name_of_instruction m j = called_instruction (slice_get (instructions_in m.top) j)

abbrev pub disagreement_text : Model → Disagreement → List ℕ
disagreement_text m (initial_value k) = codes "init " ++ name_of_state m k
disagreement_text m no_step = codes "step"
disagreement_text m (past_bound j) = codes "bound " ++ name_of_instruction m j
disagreement_text m (other_state k) = codes "state " ++ name_of_state m k

-- a word, a cycle, and what is said of it
abbrev pub line_of_cycle : List ℕ → ℕ → List ℕ → List ℕ
line_of_cycle start t text = start ++ decimal t ++ 32 ∷ (text ++ 10 ∷ [])

abbrev pub line_of : Model → Watched → List ℕ
line_of m (agrees n) = codes "agrees " ++ decimal n ++ 10 ∷ []
line_of m (outside t p) = line_of_cycle (codes "outside ") t (premise_text p)
line_of m (disagrees t d) = line_of_cycle (codes "disagrees ") t (disagreement_text m d)
