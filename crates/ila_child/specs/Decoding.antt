-- Which instructions of a list decode at a point, by their places.
use Rattle.std.specs.Prelude.{ℕ, zero, suc, ◌<◌, ◌≡◌, ◌≢◌, Bool, true, false, List, [], ◌∷◌, Option, Some, None}
use Rattle.std.specs.List.{list_all}
use Rattle.wb_values.specs.Value.{truth, Valuation}
use Rattle.model_meaning.specs.Model.{holds}
use Rattle.wb_terms.specs.Graph.{Graph, tree}
use Rattle.ila_model.specs.declared.parts.Instruction.{Instruction}
use Rattle.ila_model.specs.Sorted.{is_term_of}
use Rattle.ila_child.specs.declared.decoding.Decoded.{Decoded}
use Rattle.ila_child.specs.declared.decoding.Decoded.TheVariants.{Nothing, One, Several}

-- the instruction at a place decodes
abbrev pub decodes : Graph → Valuation → List Instruction → ℕ → Bool
decodes g p [] k = false
decodes g p (i ∷ is) zero = holds (tree g i.decode.0) p
decodes g p (i ∷ is) (suc k) = decodes g p is k

-- the decode conditions are truth values
abbrev pub are_conditions : Graph → List Instruction → Bool
are_conditions g = list_all (λ i. is_term_of g truth i.decode.0)

-- Of the first n tests the one at j alone holds.
abbrev pub IsOnlyFound : (ℕ → Bool) → ℕ → ℕ → Type 0
IsOnlyFound t n j = (j < n) × (t j ≡ true) × ((k : ℕ) → k < n → k ≢ j → t k ≡ false)

-- Of the first n tests none holds, or this one alone.
abbrev pub IsFound : (ℕ → Bool) → ℕ → Option ℕ → Type 0
IsFound t n None = (k : ℕ) → k < n → t k ≡ false
IsFound t n (Some j) = IsOnlyFound t n j

-- Of n tests none holds, or one alone, or these are the first two that do.
abbrev pub AreDecoded : (ℕ → Bool) → ℕ → Decoded → Type 0
AreDecoded t n Nothing = IsFound t n None
AreDecoded t n (One j) = IsFound t n (Some j)
AreDecoded t n (Several j k) = IsFound t k (Some j) × (k < n) × (t k ≡ true)
