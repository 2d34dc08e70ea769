-- What the scratch keeps of a term: its value as a word. A truth value is a word of one bit, and a memory, which has no number, is 0.
use Rattle.std.specs.Prelude.{ℕ, ◌<◌, ◌≤◌, ◌≡◌, ◌^◌, cond, List, length, Option, Some, IsTrue, slice_index_or}
use Rattle.wb_values.specs.Value.{Value, Sort, truth, word, memory, truth_value, number, words, all_below}
use Rattle.model_meaning.specs.Term.{sort_of}
use Rattle.wb_bits.specs.declared.Word.{Word}
use Rattle.wb_terms.specs.declared.values.Env.{Env}
use Rattle.wb_terms.specs.Graph.{Graph, tree}
use Rattle.wb_terms.specs.Environment.{value_of}

-- The value is of the sort, and the word of this width and number stands for it.
abbrev pub IsHeldBy : Option Sort → Value → ℕ → ℕ → Type 0
IsHeldBy (Some truth) (truth_value b) w n = (w ≡ 1) × (n ≡ cond b 1 0)
IsHeldBy (Some (word u)) (number m) w n = (w ≡ u) × (n ≡ m) × (m < 2 ^ u)
IsHeldBy (Some (memory a d)) (words ws) w n = (w ≡ 1) × (n ≡ 0) × (length ws ≡ 2 ^ a) × IsTrue (all_below d ws)
IsHeldBy _ _ w n = ⊥

-- the words hold the terms below a bound
abbrev pub AreHeld : Graph → Env → List Word → ℕ → Type 0
AreHeld g e ws n = (k : ℕ) (d : Word) → k < n → IsHeldBy (sort_of (tree g k)) (value_of g e k) (slice_index_or ws k d).width (slice_index_or ws k d).value

-- the words hold every term of the store
pub record Holds (g : Graph) (e : Env) (ws : List Word) : Type 0 where
  pub room : length g.nodes ≤ length ws
  pub held : AreHeld g e ws (length g.nodes)
