-- Terms of a list: that they are there, and what they are worth in the last cycle of a simulated design.
use Rattle.std.proofs.Common.{◌≡◌, ◌∙◌, ◌<◌, ◌++◌, ◌==◌, nat_lt, ℕ, zero, suc, Bool, true, List, [], ◌∷◌, length, map, Option, Some, None, refl, sym, ap, subst, arith}
use Rattle.std.specs.Prelude.{All, IsTrue}
use Rattle.std.proofs.lemmas.Bool.{and_parts, false≢true}
use Rattle.std.proofs.lemmas.Bool.Decides.{nat_tests}
use Rattle.wb_values.specs.Value.{Sort, truth, word, memory, Value, Entries, HasSort, valuation_of}
use Rattle.wb_bits.specs.declared.Word.{Word}
use Rattle.model_meaning.specs.Term.{val, sort_of, same_sort}
use Rattle.wb_terms.specs.declared.nodes.TermId.{TermId}
use Rattle.wb_terms.specs.declared.values.Env.{Env}
use Rattle.wb_terms.specs.Graph.{Graph, tree}
use Rattle.wb_terms.specs.Environment.{AreOfSorts, HasSortOf, value_of, values_of, values_by_name}
use Rattle.wb_terms.specs.Held.{Holds}
use Rattle.ila_model.specs.Sorted as of_model
use Rattle.v_design.specs.Parts.{Parts, has_sort, is_term_of, are_terms_of, value_in}
use Rattle.v_cycle.proofs.Links.{held_sort}
use Rattle.mapped_designs.specs.View.{number_of}

same_sort-true : (s t : Sort) → same_sort s t ≡ true → s ≡ t
same_sort-true truth truth h = refl
same_sort-true truth (word w) h = absurd (false≢true h)
same_sort-true truth (memory a d) h = absurd (false≢true h)
same_sort-true (word w) truth h = absurd (false≢true h)
same_sort-true (word w) (word u) h = ap word (grind (arith, nat_tests))
same_sort-true (word w) (memory a d) h = absurd (false≢true h)
same_sort-true (memory a d) truth h = absurd (false≢true h)
same_sort-true (memory a d) (word u) h = absurd (false≢true h)
same_sort-true (memory a d) (memory b e) h =
    let p = and_parts (a == b) (d == e) h in
    let q : a ≡ b = grind (arith, nat_tests) in
    let r : d ≡ e = grind (arith, nat_tests) in
    ap (λ k. memory k d) q ∙ ap (memory b) r

sort-to : (o : Option Sort) (s : Sort) (x : Value) → has_sort s o ≡ true → HasSortOf x o → HasSort x s
sort-to None s x h k = absurd (false≢true h)
sort-to (Some t) s x h k = subst (HasSort x) (same_sort-true t s h) k

below : (k n : ℕ) → nat_lt k n ≡ true → k < n
below k n h = grind (arith, nat_tests)

is_within : (g : Graph) (s : Sort) (k : ℕ) → is_term_of g s k ≡ true → k < length g.nodes
is_within g s k h = below k (length g.nodes) (and_parts (nat_lt k (length g.nodes)) (has_sort s (sort_of (tree g k))) h).0

has_sort-of_model : (o : Option Sort) (s : Sort) → has_sort s o ≡ true → of_model.has_sort o s ≡ true
has_sort-of_model None s h = absurd (false≢true h)
has_sort-of_model (Some t) s h = h

-- a condition of a design, as a model has conditions
pub condition : (g : Graph) (k : ℕ) → is_term_of g truth k ≡ true → of_model.is_term_of g truth k ≡ true
condition g k h =
    let p = and_parts (nat_lt k (length g.nodes)) (has_sort truth (sort_of (tree g k))) h in
    let a : nat_lt k (length g.nodes) ≡ true = p.0 in
    let b : of_model.has_sort (sort_of (tree g k)) truth ≡ true = has_sort-of_model (sort_of (tree g k)) truth p.1 in
    rw (a, b) refl

-- terms for entries stand in the store
pub within : (g : Graph) (ns : Entries Sort) (ids : List TermId) → are_terms_of g ns (map number_of ids) ≡ true
    → All (λ (id : TermId). id.0 < length g.nodes) ids
within g ns [] h k d lt = absurd (omega (arith, lt))
within g [] (id ∷ ids) h k d lt = absurd (false≢true h)
within g (n ∷ ns) (id ∷ ids) h zero d lt = is_within g n.1 id.0 (and_parts (is_term_of g n.1 id.0) (are_terms_of g ns (map number_of ids)) h).0
within g (n ∷ ns) (id ∷ ids) h (suc k) d lt =
    within g ns ids (and_parts (is_term_of g n.1 id.0) (are_terms_of g ns (map number_of ids)) h).1 k d (omega (arith, lt))

-- their values are of the entries' sorts
pub of_sorts : (g : Graph) (e : Env) (ws : List Word) (ns : Entries Sort) (ids : List TermId) → Holds g e ws → are_terms_of g ns (map number_of ids) ≡ true
    → AreOfSorts ns (map (λ (id : TermId). value_of g e id.0) ids)
of_sorts g e ws [] [] holds h = tt
of_sorts g e ws [] (id ∷ ids) holds h = absurd (false≢true h)
of_sorts g e ws (n ∷ ns) [] holds h = absurd (false≢true h)
of_sorts g e ws (n ∷ ns) (id ∷ ids) holds h =
    let p = and_parts (is_term_of g n.1 id.0) (are_terms_of g ns (map number_of ids)) h in
    let q = and_parts (nat_lt id.0 (length g.nodes)) (has_sort n.1 (sort_of (tree g id.0))) p.0 in
    (sort-to (sort_of (tree g id.0)) n.1 (value_of g e id.0) q.1 (held_sort g e ws id.0 holds (below id.0 (length g.nodes) q.0)), of_sorts g e ws ns ids holds p.1)

-- what a term is worth under the values of the last cycle
pub worth : (d : Parts) (e : Env) (rs is : List Value) (k : ℕ) → values_of e ≡ rs ++ is → value_of d.graph e k ≡ value_in d rs is k
worth d e rs is k has = ap (λ xs. val (tree d.graph k) (valuation_of (values_by_name d.graph.names xs))) has

pub worths : (d : Parts) (e : Env) (rs is : List Value) (ids : List TermId) → values_of e ≡ rs ++ is
    → map (λ (id : TermId). value_of d.graph e id.0) ids ≡ map (value_in d rs is) (map number_of ids)
worths d e rs is [] has = refl
worths d e rs is (id ∷ ids) has = (λ i. worth d e rs is id.0 has i ∷ worths d e rs is ids has i)
