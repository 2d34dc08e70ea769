-- A read of a memory term goes from store to store until it finds its word.
use Rattle.std.specs.Prelude.{ℕ, ◌<◌, ◌≡◌, slice_index, Option, Some}
use Rattle.wb_values.specs.Value.{Sort, memory, as_words}
use Rattle.model_meaning.specs.Term.{sort_of}
use Rattle.wb_terms.specs.declared.values.Env.{Env}
use Rattle.wb_terms.specs.declared.evaluation.Read.{Read}
use Rattle.wb_terms.specs.declared.evaluation.Read.TheVariants.{Found, In}
use Rattle.wb_terms.specs.Graph.{Graph, tree}
use Rattle.wb_terms.specs.Environment.{value_of, IsAddressOf}

-- the word of a memory term at an address
abbrev pub word_in : Graph → Env → ℕ → ℕ → ℕ
word_in g e k i = slice_index (as_words (value_of g e k)) i

-- the width of the words of a memory
abbrev pub word_width : Option Sort → ℕ
word_width (Some (memory a d)) = d
word_width _ = 0

-- The word was found, or it is the same word of an earlier memory term.
abbrev pub IsReadAs : Graph → Env → ℕ → ℕ → Read → Type 0
IsReadAs g e k i (Found w) = (w.width ≡ word_width (sort_of (tree g k))) × (w.value ≡ word_in g e k i)
IsReadAs g e k i (In m) = (m.0 < k) × IsAddressOf i (sort_of (tree g m.0)) × (word_width (sort_of (tree g m.0)) ≡ word_width (sort_of (tree g k))) × (word_in g e m.0 i ≡ word_in g e k i)
