-- The terms that have wires, by their ids.
use Rattle.std.specs.Prelude.{ℕ, suc, ⊤, Bool, false, cond, ◌&&◌, List, [], ◌∷◌, map, slice_index_or, IsTrue}
use Rattle.wb_terms.specs.declared.nodes.TermId.{TermId}
use Rattle.wb_terms.specs.declared.nodes.Node.{Node}
use Rattle.wb_terms.specs.Graph.{Graph}
use Rattle.emitted_modules.specs.Nodes.{has_wire}

abbrev pub ids_of : List TermId → List ℕ
ids_of ids = map (λ d. d.0) ids

-- marks as a function of ids
abbrev pub kept_by : List Bool → ℕ → Bool
kept_by keep k = slice_index_or keep k false

abbrev pub AreAllKept : (keep : ℕ → Bool) → List TermId → Type 0
AreAllKept keep [] = ⊤
AreAllKept keep (d ∷ ds) = IsTrue (keep d.0) × AreAllKept keep ds

-- those of the nodes that are kept, from node k on
abbrev pub ids_from : Graph → (keep : ℕ → Bool) → ℕ → List Node → List ℕ
ids_from g keep k [] = []
ids_from g keep k (n ∷ ns) = cond (keep k && has_wire g k n) (k ∷ ids_from g keep (suc k) ns) (ids_from g keep (suc k) ns)
