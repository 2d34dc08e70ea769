-- Values that terms may be given to: of their sorts, and with room for the words of a memory.
use Rattle.std.specs.Prelude.{◌≡◌, ℕ, ◌^◌, ◌<◌, List, [], ◌∷◌, length, Option, Some, ⊤}
use Rattle.wb_values.specs.Value.{Sort, memory, Value}
use Rattle.model_meaning.specs.Term.{sort_of}
use Rattle.wb_terms.specs.declared.nodes.TermId.{TermId}
use Rattle.wb_terms.specs.Graph.{Graph, tree}
use Rattle.wb_terms.specs.Environment.{HasSortOf}

-- so many words are those of a memory of the sort
abbrev pub HasRoomFor : ℕ → Option Sort → Type 0
HasRoomFor n (Some (memory a w)) = n ≡ 2 ^ a
HasRoomFor n _ = ⊥

abbrev pub IsMemory : Option Sort → Type 0
IsMemory (Some (memory a w)) = ⊤
IsMemory _ = ⊥

-- There is a value for each term of the store, of its sort.
abbrev pub AreOfTerms : Graph → List TermId → List Value → Type 0
AreOfTerms g [] [] = ⊤
AreOfTerms g [] (x ∷ xs) = ⊥
AreOfTerms g (id ∷ ids) [] = ⊥
AreOfTerms g (id ∷ ids) (x ∷ xs) = (id.0 < length g.nodes) × HasSortOf x (sort_of (tree g id.0)) × AreOfTerms g ids xs
