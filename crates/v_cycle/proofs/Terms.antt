-- Values of terms, each of its term's sort.
use Rattle.std.proofs.Common.{◌≡◌, ◌<◌, ℕ, zero, suc, List, [], ◌∷◌, length, get_or, refl, ap, arith}
use Rattle.wb_values.specs.Value.{Value}
use Rattle.model_meaning.specs.Term.{sort_of}
use Rattle.wb_terms.specs.declared.nodes.TermId.{TermId}
use Rattle.wb_terms.specs.Graph.{Graph, tree}
use Rattle.wb_terms.specs.Environment.{HasSortOf}
use Rattle.v_cycle.specs.Setting.{AreOfTerms}

pub AreOfTerms-length : (g : Graph) (ids : List TermId) (xs : List Value) → AreOfTerms g ids xs → length xs ≡ length ids
AreOfTerms-length g [] [] h = refl
AreOfTerms-length g [] (x ∷ xs) h = absurd h
AreOfTerms-length g (id ∷ ids) [] h = absurd h
AreOfTerms-length g (id ∷ ids) (x ∷ xs) h = ap suc (AreOfTerms-length g ids xs h.2)

pub AreOfTerms-within : (g : Graph) (ids : List TermId) (xs : List Value) (k : ℕ) (d : TermId) → AreOfTerms g ids xs → k < length ids
    → (get_or ids k d).0 < length g.nodes
AreOfTerms-within g [] xs k d h lt = absurd (omega (arith, lt))
AreOfTerms-within g (id ∷ ids) [] k d h lt = absurd h
AreOfTerms-within g (id ∷ ids) (x ∷ xs) zero d h lt = h.0
AreOfTerms-within g (id ∷ ids) (x ∷ xs) (suc k) d h lt = AreOfTerms-within g ids xs k d h.2 (omega (arith, lt))

pub AreOfTerms-at : (g : Graph) (ids : List TermId) (xs : List Value) (k : ℕ) (d : TermId) (e : Value) → AreOfTerms g ids xs → k < length ids
    → HasSortOf (get_or xs k e) (sort_of (tree g (get_or ids k d).0))
AreOfTerms-at g [] xs k d e h lt = absurd (omega (arith, lt))
AreOfTerms-at g (id ∷ ids) [] k d e h lt = absurd h
AreOfTerms-at g (id ∷ ids) (x ∷ xs) zero d e h lt = h.1
AreOfTerms-at g (id ∷ ids) (x ∷ xs) (suc k) d e h lt = AreOfTerms-at g ids xs k d e h.2 (omega (arith, lt))
