-- The number of words of a memory, and the value with which a state begins.
use Rattle.std.specs.Prelude.{ℕ, ◌≡◌, ◌^◌, Bool, true, false, ◌&&◌, List, [], ◌∷◌, Option, Some, option_map}
use Rattle.wb_values.specs.Value as meaning
use Rattle.wb_values.specs.Value.{Sort, memory, Entries, is_of_sort}
use Rattle.model_meaning.specs.Model.{value_or}
use Rattle.wb_terms.specs.declared.values.Value.{Value}
use Rattle.wb_terms.specs.Environment.{as_value}
use Rattle.ila_model.specs.Meaning.{zero_of}

-- the number of words of a memory of the sort
abbrev pub IsMemoryOf : ℕ → Option Sort → Type 0
IsMemoryOf n (Some (memory a d)) = n ≡ 2 ^ a
IsMemoryOf n _ = ⊥

-- the stated initial value, if any, else the zero of the sort
abbrev pub beginning : Sort → Option Value → meaning.Value
beginning s i = value_or (option_map as_value i) (zero_of s)

-- There is one value for each name, of its sort.
abbrev pub are_of_sorts : Entries Sort → List meaning.Value → Bool
are_of_sorts [] [] = true
are_of_sorts [] (x ∷ xs) = false
are_of_sorts (n ∷ ns) [] = false
are_of_sorts (n ∷ ns) (x ∷ xs) = is_of_sort n.1 x && are_of_sorts ns xs
