-- Values of names, each of its name's sort: the registers, and then the inputs.
use Rattle.std.proofs.Common.{◌≡◌, ◌∙◌, ◌<◌, ◌++◌, ◌^◌, ◌==◌, nat_lt, ℕ, zero, suc, true, List, [], ◌∷◌, length, take, drop, map, replicate, Option, Some, None, refl, sym, ap, subst, arith}
use Rattle.std.proofs.lemmas.Bool.{and_parts, false≢true}
use Rattle.std.proofs.lemmas.Bool.Decides.{nat_tests}
use Rattle.std.proofs.lemmas.List.{take-append-drop}
use Rattle.std.proofs.lemmas.Nat.{pow_pos}
use Rattle.wb_values.specs.Value.{Sort, truth, word, memory, Value, number, Entries, HasSort}
use Rattle.model_meaning.specs.Term.{sort_of, same_sort}
use Rattle.wb_terms.specs.declared.nodes.TermId.{TermId}
use Rattle.wb_terms.specs.Graph.{Graph, tree}
use Rattle.wb_terms.specs.Environment.{AreOfSorts, HasSortOf}
use Rattle.v_design.specs.Parts.{are_terms_of, are_words, has_sort, is_term_of, is_word}
use Rattle.v_cycle.specs.Setting.{AreOfTerms}

pub AreOfSorts-append : (ns ms : Entries Sort) (xs ys : List Value) → AreOfSorts ns xs → AreOfSorts ms ys → AreOfSorts (ns ++ ms) (xs ++ ys)
AreOfSorts-append [] ms [] ys h k = k
AreOfSorts-append [] ms (x ∷ xs) ys h k = absurd h
AreOfSorts-append (n ∷ ns) ms [] ys h k = absurd h
AreOfSorts-append (n ∷ ns) ms (x ∷ xs) ys h k = (h.0, AreOfSorts-append ns ms xs ys h.1 k)

pub AreOfSorts-take : (n : ℕ) (ns : Entries Sort) (xs : List Value) → AreOfSorts ns xs → AreOfSorts (take n ns) (take n xs)
AreOfSorts-take zero ns xs h = tt
AreOfSorts-take (suc n) [] [] h = tt
AreOfSorts-take (suc n) [] (x ∷ xs) h = absurd h
AreOfSorts-take (suc n) (m ∷ ns) [] h = absurd h
AreOfSorts-take (suc n) (m ∷ ns) (x ∷ xs) h = (h.0, AreOfSorts-take n ns xs h.1)

pub AreOfSorts-length : (ns : Entries Sort) (xs : List Value) → AreOfSorts ns xs → length xs ≡ length ns
AreOfSorts-length [] [] h = refl
AreOfSorts-length [] (x ∷ xs) h = absurd h
AreOfSorts-length (n ∷ ns) [] h = absurd h
AreOfSorts-length (n ∷ ns) (x ∷ xs) h = ap suc (AreOfSorts-length ns xs h.1)

-- the values of the first names and those of the rest are values of all
pub joined : (n : ℕ) (ns : Entries Sort) (xs ys : List Value) → AreOfSorts (take n ns) xs → AreOfSorts (drop n ns) ys → AreOfSorts ns (xs ++ ys)
joined n ns xs ys h k = subst (λ ms. AreOfSorts ms (xs ++ ys)) (take-append-drop n ns) (AreOfSorts-append (take n ns) (drop n ns) xs ys h k)

same_sort-true : (s t : Sort) → same_sort s t ≡ true → s ≡ t
same_sort-true truth truth h = refl
same_sort-true truth (word w) h = absurd (false≢true h)
same_sort-true truth (memory a d) h = absurd (false≢true h)
same_sort-true (word w) truth h = absurd (false≢true h)
same_sort-true (word w) (word u) h = ap word (grind (arith, nat_tests))
same_sort-true (word w) (memory a d) h = absurd (false≢true h)
same_sort-true (memory a d) truth h = absurd (false≢true h)
same_sort-true (memory a d) (word u) h = absurd (false≢true h)
same_sort-true (memory a d) (memory b e) h =
    let p = and_parts (a == b) (d == e) h in
    let q : a ≡ b = grind (arith, nat_tests) in
    let r : d ≡ e = grind (arith, nat_tests) in
    ap (λ k. memory k d) q ∙ ap (memory b) r

sort-from : (o : Option Sort) (s : Sort) (x : Value) → has_sort s o ≡ true → HasSort x s → HasSortOf x o
sort-from None s x h k = absurd (false≢true h)
sort-from (Some t) s x h k = subst (HasSort x) (sym (same_sort-true t s h)) k

within : (k n : ℕ) → nat_lt k n ≡ true → k < n
within k n h = grind (arith, nat_tests)

-- values of names are values of terms of the same sorts
pub of_terms : (g : Graph) (ns : Entries Sort) (ids : List TermId) (xs : List Value) → are_terms_of g ns (map (λ id. id.0) ids) ≡ true
    → AreOfSorts ns xs → AreOfTerms g ids xs
of_terms g [] [] [] h k = tt
of_terms g [] [] (x ∷ xs) h k = absurd k
of_terms g [] (id ∷ ids) xs h k = absurd (false≢true h)
of_terms g (n ∷ ns) [] xs h k = absurd (false≢true h)
of_terms g (n ∷ ns) (id ∷ ids) [] h k = absurd k
of_terms g (n ∷ ns) (id ∷ ids) (x ∷ xs) h k =
    let p = and_parts (is_term_of g n.1 id.0) (are_terms_of g ns (map (λ id. id.0) ids)) h in
    let q = and_parts (nat_lt id.0 (length g.nodes)) (has_sort n.1 (sort_of (tree g id.0))) p.0 in
    (within id.0 (length g.nodes) q.0, sort-from (sort_of (tree g id.0)) n.1 x q.1 k.0, of_terms g ns ids xs p.1 k.1)

below-power : (w : ℕ) → nat_lt 0 (2 ^ w) ≡ true
below-power w = let p : 0 < 2 ^ w = pow_pos w in grind (arith, nat_tests)

-- each word may be 0
pub zeros : (ns : Entries Sort) → are_words ns ≡ true → AreOfSorts ns (replicate (length ns) (number 0))
zeros [] h = tt
zeros (n ∷ ns) h = let p = and_parts _ (are_words ns) h in (zero_of n.1 p.0, zeros ns p.1)
  where
    zero_of : (s : Sort) → is_word s ≡ true → HasSort (number 0) s
    zero_of truth h = absurd (false≢true h)
    zero_of (word w) h = below-power w
    zero_of (memory a d) h = absurd (false≢true h)

sort-to : (o : Option Sort) (s : Sort) (x : Value) → has_sort s o ≡ true → HasSortOf x o → HasSort x s
sort-to None s x h k = absurd (false≢true h)
sort-to (Some t) s x h k = subst (HasSort x) (same_sort-true t s h) k

-- and back
pub of_names : (g : Graph) (ns : Entries Sort) (ids : List TermId) (xs : List Value) → are_terms_of g ns (map (λ id. id.0) ids) ≡ true
    → AreOfTerms g ids xs → AreOfSorts ns xs
of_names g [] [] [] h k = tt
of_names g [] [] (x ∷ xs) h k = absurd k
of_names g [] (id ∷ ids) xs h k = absurd (false≢true h)
of_names g (n ∷ ns) [] xs h k = absurd (false≢true h)
of_names g (n ∷ ns) (id ∷ ids) [] h k = absurd k
of_names g (n ∷ ns) (id ∷ ids) (x ∷ xs) h k =
    let p = and_parts (is_term_of g n.1 id.0) (are_terms_of g ns (map (λ id. id.0) ids)) h in
    let q = and_parts (nat_lt id.0 (length g.nodes)) (has_sort n.1 (sort_of (tree g id.0))) p.0 in
    (sort-to (sort_of (tree g id.0)) n.1 x q.1 k.1, of_names g ns ids xs p.1 k.2)
