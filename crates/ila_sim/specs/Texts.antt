-- Pieces of the text that tells what a model did.
use Rattle.std.specs.Prelude.{ℕ, ◌==◌, cond, List, [], ◌∷◌, ◌++◌, codes, decimal}
use Rattle.sparse_memories.specs.declared.listing.SetWord.{SetWord}
use Rattle.wb_values.specs.Value.{Name, Value}
use Rattle.model_meaning.specs.Model.{Model, states_of}
use Rattle.model_meaning.specs.Outcome.{Outcome}
use Rattle.scripts.specs.Simulation.{spaced, name_of_instruction, outcome_text}
use Rattle.ila_sim.specs.Outcomes.{values_text}

-- ` cnt=7`
abbrev pub number_text : Name → ℕ → List ℕ
number_text n x = spaced (n ++ (61 ∷ decimal x))

-- ` m[5]=7`
abbrev pub address_text : Name → (address number : ℕ) → List ℕ
address_text n k x = spaced (n ++ (91 ∷ (decimal k ++ (codes "]=" ++ decimal x))))

-- the same of a word that is not 0
abbrev pub word_text : Name → (address number : ℕ) → List ℕ
word_text n k x = cond (x == 0) [] (address_text n k x)

-- ` m[5]=7` of each of the words
abbrev pub set_words_text : Name → List SetWord → List ℕ
set_words_text n [] = []
set_words_text n (w ∷ ws) = address_text n w.address w.word ++ set_words_text n ws

-- `several INC CLR`
abbrev pub several_text : Model → (first second : ℕ) → List ℕ
several_text m j k = codes "several " ++ (name_of_instruction m j ++ spaced (name_of_instruction m k))

-- the instruction's name, and the values of the states
abbrev pub next_text : Model → ℕ → List Value → List ℕ
next_text m j xs = name_of_instruction m j ++ values_text (states_of m.top) xs

-- the line of an outcome
abbrev pub outcome_line : Model → ℕ → Outcome → List ℕ
outcome_line m n o = decimal n ++ (spaced (outcome_text m o) ++ 10 ∷ [])
