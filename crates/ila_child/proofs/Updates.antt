-- Lemmas on updates by the places of names.
use Rattle.std.proofs.Common.{◌≡◌, ℕ, zero, suc, ◌+◌, ◌<◌, ◌≤◌, true, cond, nat_le, nat_lt, nat_eq, List, [], ◌∷◌, ◌++◌, map, length, get_or, set, drop, take, Option, Some, None, inl, inr, refl, sym, ap, ◌∙◌, subst, arith, append_assoc}
use Rattle.std.proofs.lemmas.Bool.{cases_eq, and_parts, and_from, leb-true, le-leb, ltb-true, eq-eqb, eqb-true, ne_eqb, false≢true}
use Rattle.std.proofs.lemmas.List.{get_or-set_same, get_or-set_other, drop_more, drop_at, take_more, map-append}
use Rattle.std.proofs.Math.ListN.{length-set}
use Rattle.wb_values.specs.Value as meaning
use Rattle.wb_values.specs.Value.{Sort, truth, word, memory, number, Entries, Valuation, HasSort}
use Rattle.model_meaning.specs.Term.{same_sort, sort_of, val}
use Rattle.model_meaning.specs.Model.{updated_value}
use Rattle.wb_terms.specs.declared.values.Value.{Value}
use Rattle.wb_terms.specs.Graph.{Graph, tree}
use Rattle.wb_terms.specs.Environment.{HasSortOf, AreOfSorts}
use Rattle.ila_model.specs.declared.parts.Update.{Update}
use Rattle.ila_model.specs.declared.parts.Parts.{Parts}
use Rattle.ila_model.specs.Sorted.{has_sort, is_term_of, is_read_at, is_state_at, sort_at, are_updates}
use Rattle.ila_child.specs.Updating.{are_updates_of, update_at, value_at, values_of_updates, with_updates, with_kept, with_initial, AreUpdatesSorted}
use Rattle.ila_child.specs.Values.{beginning}

-- what is known of the first of some updates
pub record IsFirstUpdate (g : Graph) (from : ℕ) (u : Update) (us : List Update) : Type 0 where
  pub above : from ≤ u.state.0
  pub state : u.state.0 < length g.names
  pub term : u.term.0 < length g.nodes
  pub sort : has_sort (sort_of (tree g u.term.0)) (sort_at g.names u.state.0) ≡ true
  pub later : are_updates_of g (suc u.state.0) us ≡ true

pub first_update : (g : Graph) (from : ℕ) (u : Update) (us : List Update) → are_updates_of g from (u ∷ us) ≡ true → IsFirstUpdate g from u us
first_update g from u us h =
    let a = and_parts (nat_le from u.state.0) _ h in
    let b = and_parts (nat_lt u.state.0 (length g.names)) _ a.1 in
    let c = and_parts (is_term_of g (sort_at g.names u.state.0) u.term.0) _ b.1 in
    let d = and_parts (nat_lt u.term.0 (length g.nodes)) _ c.0 in
    record {
      above = leb-true from u.state.0 a.0;
      state = ltb-true u.state.0 (length g.names) b.0;
      term = ltb-true u.term.0 (length g.nodes) d.0;
      sort = d.1;
      later = c.1;
    }

-- the bound may be lower
are_updates-from : (g : Graph) (low from : ℕ) (us : List Update) → low ≤ from → are_updates_of g from us ≡ true → are_updates_of g low us ≡ true
are_updates-from g low from [] l h = refl
are_updates-from g low from (u ∷ us) l h =
    let a = and_parts (nat_le from u.state.0) _ h in
    let above : from ≤ u.state.0 = leb-true from u.state.0 a.0 in
    and_from _ _ (le-leb low u.state.0 (omega arith)) a.1

-- the updates that are left
are_updates-drop : (g : Graph) (from : ℕ) (us : List Update) (i : ℕ) → are_updates_of g from us ≡ true → are_updates_of g 0 (drop i us) ≡ true
are_updates-drop g from us zero h = are_updates-from g 0 from us (omega arith) h
are_updates-drop g from [] (suc i) h = refl
are_updates-drop g from (u ∷ us) (suc i) h = are_updates-drop g (suc u.state.0) us i (first_update g from u us h).later

-- the update at a place of the list
pub update_now : (g : Graph) (us : List Update) (i : ℕ) (d : Update) → are_updates_of g 0 us ≡ true → i < length us → IsFirstUpdate g 0 (get_or us i d) (drop (i + 1) us)
update_now g us i d s h =
    first_update g 0 (get_or us i d) (drop (i + 1) us) (subst (λ r. are_updates_of g 0 r ≡ true) (drop_more us i d h) (are_updates-drop g 0 us i s))

-- no update below the bound
pub update_at-below : (g : Graph) (from : ℕ) (us : List Update) (k : ℕ) → are_updates_of g from us ≡ true → k < from → update_at g us k ≡ None
update_at-below g from [] k h b = refl
update_at-below g from (u ∷ us) k h b =
    let f = first_update g from u us h in
    let above = f.above in
    let ne : u.state.0 ≡ k → ⊥ = λ e. absurd (omega (arith, e, above)) in
    ap (λ t. cond t (Some (tree g u.term.0)) (update_at g us k)) (ne_eqb u.state.0 k ne)
    ∙ update_at-below g (suc u.state.0) us k f.later (omega arith)

-- the value of a name behind all updates
pub with_updates-at : (g : Graph) (p : Valuation) (from : ℕ) (us : List Update) (xs : List meaning.Value) (k : ℕ) → are_updates_of g from us ≡ true → length xs ≡ length g.names → value_at (with_updates g p us xs) k ≡ updated_value (update_at g us k) p (value_at xs k)
with_updates-at g p from [] xs k h l = refl
with_updates-at g p from (u ∷ us) xs k h l =
    let f = first_update g from u us h in
    let state = f.state in
    let v = val (tree g u.term.0) p in
    let rest = with_updates-at g p (suc u.state.0) us (set xs u.state.0 v) k f.later (length-set xs u.state.0 v ∙ l) in
    elim (cases_eq u.state.0 k) [
      | inl q ↦
          let here : value_at (set xs u.state.0 v) k ≡ v = subst (λ j. value_at (set xs u.state.0 v) j ≡ v) q (get_or-set_same xs u.state.0 v (number 0) (omega arith)) in
          let none : update_at g us k ≡ None = update_at-below g (suc u.state.0) us k f.later (omega arith) in
          let some : update_at g (u ∷ us) k ≡ Some (tree g u.term.0) = ap (λ t. cond t (Some (tree g u.term.0)) (update_at g us k)) (eq-eqb u.state.0 k q) in
          rest ∙ ap (λ o. updated_value o p (value_at (set xs u.state.0 v) k)) none ∙ here ∙ sym (ap (λ o. updated_value o p (value_at xs k)) some)
      | inr q ↦
          let there : value_at (set xs u.state.0 v) k ≡ value_at xs k = get_or-set_other xs u.state.0 k v (number 0) (λ e. q (sym e)) in
          let same : update_at g (u ∷ us) k ≡ update_at g us k = ap (λ t. cond t (Some (tree g u.term.0)) (update_at g us k)) (ne_eqb u.state.0 k q) in
          rest ∙ ap (λ x. updated_value (update_at g us k) p x) there ∙ sym (ap (λ o. updated_value o p (value_at xs k)) same)
    ]

same_sort-true : (s t : Sort) → same_sort s t ≡ true → s ≡ t
same_sort-true truth truth h = refl
same_sort-true (word w) (word u) h = ap word (eqb-true w u h)
same_sort-true (memory a d) (memory b e) h =
    let p = and_parts (nat_eq a b) _ h in
    ap (λ x. memory x d) (eqb-true a b p.0) ∙ ap (memory b) (eqb-true d e p.1)
same_sort-true truth (word u) h = absurd (false≢true h)
same_sort-true truth (memory b e) h = absurd (false≢true h)
same_sort-true (word w) truth h = absurd (false≢true h)
same_sort-true (word w) (memory b e) h = absurd (false≢true h)
same_sort-true (memory a d) truth h = absurd (false≢true h)
same_sort-true (memory a d) (word u) h = absurd (false≢true h)

-- a term's value is of the sort that the term has
pub HasSort-from : (o : Option Sort) (s : Sort) (x : meaning.Value) → has_sort o s ≡ true → HasSortOf x o → HasSort x s
HasSort-from None s x h v = absurd (false≢true h)
HasSort-from (Some t) s x h v = subst (λ r. HasSort x r) (same_sort-true t s h) v

pub AreOfSorts-length : (ns : Entries Sort) (xs : List meaning.Value) → AreOfSorts ns xs → length xs ≡ length ns
AreOfSorts-length [] [] a = refl
AreOfSorts-length [] (x ∷ xs) a = absurd a
AreOfSorts-length (n ∷ ns) [] a = absurd a
AreOfSorts-length (n ∷ ns) (x ∷ xs) a = ap suc (AreOfSorts-length ns xs a.1)

pub AreOfSorts-at : (ns : Entries Sort) (xs : List meaning.Value) (k : ℕ) → AreOfSorts ns xs → k < length ns → HasSort (value_at xs k) (sort_at ns k)
AreOfSorts-at [] xs k a h = absurd (omega arith)
AreOfSorts-at (n ∷ ns) [] k a h = absurd a
AreOfSorts-at (n ∷ ns) (x ∷ xs) zero a h = a.0
AreOfSorts-at (n ∷ ns) (x ∷ xs) (suc k) a h = AreOfSorts-at ns xs k a.1 (omega arith)

pub AreOfSorts-set : (ns : Entries Sort) (xs : List meaning.Value) (k : ℕ) (v : meaning.Value) → AreOfSorts ns xs → HasSort v (sort_at ns k) → AreOfSorts ns (set xs k v)
AreOfSorts-set [] [] k v a h = tt
AreOfSorts-set [] (x ∷ xs) k v a h = absurd a
AreOfSorts-set (n ∷ ns) [] k v a h = absurd a
AreOfSorts-set (n ∷ ns) (x ∷ xs) zero v a h = (h, a.1)
AreOfSorts-set (n ∷ ns) (x ∷ xs) (suc k) v a h = (a.0, AreOfSorts-set ns xs k v a.1 h)

-- values that were kept for updates
pub with_kept-of : (g : Graph) (p : Valuation) (us : List Update) (xs : List meaning.Value) → with_kept us (values_of_updates g p us) xs ≡ with_updates g p us xs
with_kept-of g p [] xs = refl
with_kept-of g p (u ∷ us) xs = with_kept-of g p us (set xs u.state.0 (val (tree g u.term.0) p))

-- the same values after others that were kept before
pub with_kept-after : (g : Graph) (p : Valuation) (us : List Update) (before all xs : List meaning.Value) (n : ℕ) → n ≡ length before → all ≡ before ++ values_of_updates g p us → with_kept us (drop n all) xs ≡ with_updates g p us xs
with_kept-after g p us before all xs n e f =
    ap (λ (vs : List meaning.Value). with_kept us (drop n vs) xs) f
    ∙ ap (λ (vs : List meaning.Value). with_kept us vs xs) (drop_at before (values_of_updates g p us) n (sym e))
    ∙ with_kept-of g p us xs

-- one of them is given to its name
pub with_kept-turn : (us : List Update) (vs xs : List meaning.Value) (first k : ℕ) (u : Update) → k < length us → first + k < length vs → u ≡ get_or us k u
    → with_kept (drop (k + 1) us) (drop (first + (k + 1)) vs) (set xs u.state.0 (get_or vs (first + k) (number 0))) ≡ with_kept (drop k us) (drop (first + k) vs) xs
with_kept-turn us vs xs first k u h b e =
    let n : first + (k + 1) ≡ first + k + 1 = omega arith in
    let v = get_or vs (first + k) (number 0) in
    ap (λ (j : ℕ). with_kept (drop (k + 1) us) (drop j vs) (set xs u.state.0 v)) n
    ∙ ap (λ (x : Update). with_kept (drop (k + 1) us) (drop (first + k + 1) vs) (set xs x.state.0 v)) e
    ∙ sym (ap (λ (ys : List meaning.Value). with_kept (drop k us) ys xs) (drop_more vs (first + k) (number 0) b)
    ∙ ap (λ (ws : List Update). with_kept ws (v ∷ drop (first + k + 1) vs) xs) (drop_more us k u h))

-- one value more is kept
pub values_kept : (g : Graph) (p : Valuation) (us : List Update) (old now : List meaning.Value) (k : ℕ) (u : Update) (v : meaning.Value) → k < length us → u ≡ get_or us k u → v ≡ val (tree g u.term.0) p
    → now ≡ old ++ values_of_updates g p (take k us) → now ++ v ∷ [] ≡ old ++ values_of_updates g p (take (k + 1) us)
values_kept g p us old now k u v h e f q =
    let f_of = λ (w : Update). val (tree g w.term.0) p in
    ap (λ (ys : List meaning.Value). ys ++ v ∷ []) q
    ∙ append_assoc old (values_of_updates g p (take k us)) (v ∷ [])
    ∙ ap (λ (y : meaning.Value). old ++ (values_of_updates g p (take k us) ++ y ∷ [])) (f ∙ ap f_of e)
    ∙ ap (λ (ys : List meaning.Value). old ++ ys) (sym (ap (map f_of) (take_more us k u h) ∙ map-append f_of (take k us) (get_or us k u ∷ [])))

-- the values fit the names
pub updates_sorted-push : (g : Graph) (p : Valuation) (us : List Update) (u : Update) → AreUpdatesSorted g p us → HasSort (val (tree g u.term.0) p) (sort_at g.names u.state.0) → AreUpdatesSorted g p (us ++ u ∷ [])
updates_sorted-push g p [] u a h = (h, tt)
updates_sorted-push g p (x ∷ us) u a h = (a.0, updates_sorted-push g p us u a.1 h)

pub with_updates-sorted : (g : Graph) (p : Valuation) (us : List Update) (xs : List meaning.Value) → AreUpdatesSorted g p us → AreOfSorts g.names xs → AreOfSorts g.names (with_updates g p us xs)
with_updates-sorted g p [] xs a f = f
with_updates-sorted g p (u ∷ us) xs a f = with_updates-sorted g p us (set xs u.state.0 (val (tree g u.term.0) p)) a.1 (AreOfSorts-set g.names xs u.state.0 (val (tree g u.term.0) p) f a.0)

-- an update, where one is wanted past the end
abbrev pub no_update : Update
no_update = record { state = record { 0 = 0 }; term = record { 0 = 0 } }

pub none_left : (us : List Update) (k : ℕ) → length us ≤ k → drop k us ≡ []
none_left [] zero h = refl
none_left [] (suc k) h = refl
none_left (u ∷ us) zero h = absurd (omega arith)
none_left (u ∷ us) (suc k) h = none_left us k (omega arith)

pub length-values_of_updates : (g : Graph) (p : Valuation) (us : List Update) → length (values_of_updates g p us) ≡ length us
length-values_of_updates g p [] = refl
length-values_of_updates g p (u ∷ us) = ap suc (length-values_of_updates g p us)

-- nothing was put aside yet
pub kept_none : (vs : List meaning.Value) → vs ≡ vs ++ []
kept_none [] = refl
kept_none (v ∷ vs) = ap (λ (ws : List meaning.Value). v ∷ ws) (kept_none vs)

-- the updates of a machine, as far as its evaluation needs
pub are_updates-of : (p : Parts) (at : Option ℕ) (from : ℕ) (us : List Update) → are_updates p at from us ≡ true → are_updates_of p.terms from us ≡ true
are_updates-of p at from [] h = refl
are_updates-of p at from (u ∷ us) h =
    let a = and_parts (nat_le from u.state.0) _ h in
    let b = and_parts (is_state_at p at u.state.0) _ a.1 in
    let c = and_parts (is_read_at p at (sort_at p.terms.names u.state.0) u.term.0) _ b.1 in
    let d = and_parts (nat_lt u.state.0 (length p.terms.names)) _ b.0 in
    let e = and_parts (is_term_of p.terms (sort_at p.terms.names u.state.0) u.term.0) _ c.0 in
    and_from _ _ a.0 (and_from _ _ d.0 (and_from _ _ e.0 (are_updates-of p at (suc u.state.0) us c.1)))

-- one private state begins
pub with_initial-turn : (ns : Entries Sort) (from : ℕ) (is : List (Option Value)) (k : ℕ) (d : Option Value) (xs : List meaning.Value) → k < length is → with_initial ns (from + (k + 1)) (drop (k + 1) is) (set xs (from + k) (beginning (sort_at ns (from + k)) (get_or is k d))) ≡ with_initial ns (from + k) (drop k is) xs
with_initial-turn ns from is k d xs h =
    let e : from + (k + 1) ≡ suc (from + k) = omega arith in
    ap (λ j. with_initial ns j (drop (k + 1) is) (set xs (from + k) (beginning (sort_at ns (from + k)) (get_or is k d)))) e
    ∙ sym (ap (λ r. with_initial ns (from + k) r xs) (drop_more is k d h))

pub length-with_updates : (g : Graph) (p : Valuation) (us : List Update) (xs : List meaning.Value) → length (with_updates g p us xs) ≡ length xs
length-with_updates g p [] xs = refl
length-with_updates g p (u ∷ us) xs =
    length-with_updates g p us (set xs u.state.0 (val (tree g u.term.0) p)) ∙ length-set xs u.state.0 (val (tree g u.term.0) p)
