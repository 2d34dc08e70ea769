-- Points in terms, after updates and with private states begun: their sorts and values.
use Rattle.std.proofs.Common.{◌≡◌, ℕ, zero, suc, ◌+◌, ◌-◌, ◌<◌, ◌≤◌, Bool, true, false, cond, ◌&&◌, List, [], ◌∷◌, ◌++◌, map, length, get_or, set, drop, Option, Some, None, inl, inr, refl, sym, ap, ◌∙◌, subst, arith}
use Rattle.std.specs.Prelude.{nat_lt}
use Rattle.std.proofs.lemmas.Bool.{and_parts, and_from, eqb-true, cases_eq, false≢true}
use Rattle.std.proofs.lemmas.List.{get_or-set_same, get_or-set_other, drop_more}
use Rattle.std.proofs.Math.ListN.{length-set}
use Rattle.wb_values.specs.Value as meaning
use Rattle.wb_values.specs.Value.{Sort, truth, word, memory, number, as_truth, Entries, Valuation, valuation_of}
use Rattle.model_meaning.specs.Term.{Term, same_sort, sort_of, val}
use Rattle.model_meaning.specs.Model.{holds, updated}
use Rattle.wb_terms.specs.declared.nodes.TermId.{TermId}
use Rattle.wb_terms.specs.declared.values.Value.{Value}
use Rattle.wb_terms.specs.Graph.{Graph, tree}
use Rattle.wb_terms.specs.Environment.{values_by_name}
use Rattle.term_copies.specs.Copies.{IsExtended, AreLeaves, GiveValues, IsCopy, id_at, declared_at, copy_of}
use Rattle.term_copies.proofs.Extending.{extended_refl, extended_trans}
use Rattle.term_copies.proofs.Copying.{leaves_kept, copy_kept}
use Rattle.ila_model.specs.declared.parts.Update.{Update}
use Rattle.ila_model.specs.declared.parts.Parts.{Parts}
use Rattle.ila_model.specs.Scope.{nesting}
use Rattle.ila_model.specs.Sorted.{has_sort, is_term_of, is_condition, are_distinct, are_updates, are_states, is_initial, is_private_initial, sort_at}
use Rattle.ila_model.specs.Meaning.{update_of}
use Rattle.ila_model.proofs.Declarations.{AreSorted, are_states-turn}
use Rattle.ila_child.specs.Updating.{are_updates_of, with_updates, with_initial}
use Rattle.ila_child.specs.Values.{beginning}
use Rattle.ila_child.specs.Running.{point_at, HasDepth}
use Rattle.ila_child.proofs.Updates.{first_update, update_now, are_updates-of, with_initial-turn}
use Rattle.ila_child.proofs.Places.{valuation-at}
use Rattle.ila_child.proofs.Points.{updated_point, term_at_point}
use Rattle.model_terms.specs.Symbolic.{worths, sees, is_true, IsCondition}
use Rattle.model_terms.specs.Copied.{HasCopies, with_copies}
use Rattle.model_terms.proofs.Choosing.{worths-at, length-worths, worths_kept}

-- ---- a term of a point replaced

pub worths-set : (g : Graph) (ids : List TermId) (k : ℕ) (id : TermId) (v : Valuation) → worths g (set ids k id) v ≡ set (worths g ids v) k (val (tree g id.0) v)
worths-set g [] k id v = refl
worths-set g (i ∷ ids) zero id v = refl
worths-set g (i ∷ ids) (suc k) id v = ap (λ xs. val (tree g i.0) v ∷ xs) (worths-set g ids k id v)

set_id : (ids : List TermId) (k : ℕ) (id : TermId) → k < length ids → id_at (set ids k id) k ≡ id.0
set_id ids k id b = ap (λ (x : TermId). x.0) (get_or-set_same ids k id (record { 0 = 0 }) b)

other_id : (ids : List TermId) (k j : ℕ) (id : TermId) → (k ≡ j → ⊥) → id_at (set ids k id) j ≡ id_at ids j
other_id ids k j id ne = ap (λ (x : TermId). x.0) (get_or-set_other ids k j id (record { 0 = 0 }) (λ e. ne (sym e)))

pub leaves-set : (g : Graph) (names : Entries Sort) (ids : List TermId) (k : ℕ) (id : TermId) → AreLeaves g names ids → k < length names → id.0 < length g.nodes → sort_of (tree g id.0) ≡ Some (declared_at names k).1 → AreLeaves g names (set ids k id)
leaves-set g names ids k id a l b s =
    let here : id_at (set ids k id) k ≡ id.0 = set_id ids k id (omega (arith, l, a.count)) in
    record {
      count = length-set ids k id ∙ a.count;
      below = λ j m. elim (cases_eq k j) [
        | inl e ↦ subst (λ i. id_at (set ids k id) i < length g.nodes) e (subst (λ x. x < length g.nodes) (sym here) b)
        | inr ne ↦ subst (λ x. x < length g.nodes) (sym (other_id ids k j id ne)) (a.below j m)
      ];
      sort = λ j m. elim (cases_eq k j) [
        | inl e ↦ subst (λ i. sort_of (tree g (id_at (set ids k id) i)) ≡ Some (declared_at names i).1) e (ap (λ x. sort_of (tree g x)) here ∙ s)
        | inr ne ↦ ap (λ x. sort_of (tree g x)) (other_id ids k j id ne) ∙ a.sort j m
      ];
    }

-- ---- copies at a point

pub copies_turn : (copies : List TermId) (us : List Update) (i : ℕ) (d : Update) (ids : List TermId) → i < length us → with_copies copies (drop (i + 1) us) (set ids (get_or us i d).state.0 (copy_of copies (get_or us i d).term)) ≡ with_copies copies (drop i us) ids
copies_turn copies us i d ids h = sym (ap (λ r. with_copies copies r ids) (drop_more us i d h))

same_sort-true : (s t : Sort) → same_sort s t ≡ true → s ≡ t
same_sort-true truth truth h = refl
same_sort-true (word w) (word u) h = ap word (eqb-true w u h)
same_sort-true (memory a d) (memory b e) h =
    let p = and_parts _ _ h in
    ap (λ x. memory x d) (eqb-true a b p.0) ∙ ap (memory b) (eqb-true d e p.1)
same_sort-true truth (word u) h = absurd (false≢true h)
same_sort-true truth (memory b e) h = absurd (false≢true h)
same_sort-true (word w) truth h = absurd (false≢true h)
same_sort-true (word w) (memory b e) h = absurd (false≢true h)
same_sort-true (memory a d) truth h = absurd (false≢true h)
same_sort-true (memory a d) (word u) h = absurd (false≢true h)

pub sort-from : (o : Option Sort) (s : Sort) → has_sort o s ≡ true → o ≡ Some s
sort-from None s h = absurd (false≢true h)
sort-from (Some t) s h = ap (λ (x : Sort). Some x) (same_sort-true t s h)

abbrev pub update_terms : List Update → List TermId
update_terms us = map (λ (u : Update). u.term) us

pub updated_leaves : (g source : Graph) (point copies : List TermId) (from : ℕ) (us : List Update) (ids : List TermId) → are_updates_of source from us ≡ true → HasCopies g source point copies (update_terms us) → AreLeaves g source.names ids → AreLeaves g source.names (with_copies copies us ids)
updated_leaves g source point copies from [] ids h c a = a
updated_leaves g source point copies from (u ∷ us) ids h c a =
    let f = first_update source from u us h in
    updated_leaves g source point copies (suc u.state.0) us (set ids u.state.0 (copy_of copies u.term)) f.later c.1
    (leaves-set g source.names ids u.state.0 (copy_of copies u.term) a f.state c.0.below (c.0.sort ∙ sort-from (sort_of (tree source u.term.0)) (sort_at source.names u.state.0) f.sort))

pub updated_worths : (g source : Graph) (point copies : List TermId) (us : List Update) (ids : List TermId) (v u : Valuation) → HasCopies g source point copies (update_terms us) → GiveValues g source.names point v u → worths g (with_copies copies us ids) v ≡ with_updates source u us (worths g ids v)
updated_worths g source point copies [] ids v u c given = refl
updated_worths g source point copies (x ∷ us) ids v u c given =
    updated_worths g source point copies us (set ids x.state.0 (copy_of copies x.term)) v u c.1 given
    ∙ ap (with_updates source u us) (worths-set g ids x.state.0 (copy_of copies x.term) v
    ∙ ap (set (worths g ids v) x.state.0) (c.0.value v u given))

-- the names have the values of the terms of the point
pub given_worths : (g : Graph) (names : Entries Sort) (point : List TermId) (v : Valuation) → are_distinct names ≡ true → AreLeaves g names point → GiveValues g names point v (valuation_of (values_by_name names (worths g point v)))
given_worths g names point v d a j b =
    sym (valuation-at names (worths g point v) j d (length-worths g point v ∙ a.count) b ∙ worths-at g point v j (omega (arith, b, a.count)))

pub updated_sees : (p : Parts) (s : AreSorted p) (at : Option ℕ) (d : ℕ) (us : List Update) (g : Graph) (point copies : List TermId) (v : Valuation) → HasDepth p.children.items d at → d ≤ nesting → are_updates p at 0 us ≡ true → AreLeaves g p.terms.names point → HasCopies g p.terms point copies (update_terms us) → sees g p at (with_copies copies us point) v ≡ updated (map (update_of p.terms) us) (sees g p at point v)
updated_sees p s at d us g point copies v deep low h a c =
    ap (point_at p at) (updated_worths g p.terms point copies us point v (valuation_of (values_by_name p.terms.names (worths g point v))) c (given_worths g p.terms.names point v s.distinct a))
    ∙ sym (updated_point p s at d us (worths g point v) deep low h (length-worths g point v ∙ a.count))

pub condition_sees : (p : Parts) (s : AreSorted p) (at : Option ℕ) (d : ℕ) (g : Graph) (point : List TermId) (id k : ℕ) (v : Valuation) → HasDepth p.children.items d at → d ≤ nesting → is_condition p at k ≡ true → AreLeaves g p.terms.names point → IsCopy g p.terms point id k → is_true g id v ≡ holds (tree p.terms k) (sees g p at point v)
condition_sees p s at d g point id k v deep low h a c =
    ap as_truth (c.value v (valuation_of (values_by_name p.terms.names (worths g point v))) (given_worths g p.terms.names point v s.distinct a)
    ∙ term_at_point p at d (worths g point v) truth k deep low h)

pub condition_copy : (p : Parts) (at : Option ℕ) (g : Graph) (point : List TermId) (id k : ℕ) → is_condition p at k ≡ true → IsCopy g p.terms point id k → IsCondition g id
condition_copy p at g point id k h c =
    let a = and_parts (is_term_of p.terms truth k) _ h in
    let b = and_parts (nat_lt k (length p.terms.nodes)) _ a.0 in
    record { below = c.below; sort = c.sort ∙ sort-from (sort_of (tree p.terms k)) truth b.1 }

pub has_copies_kept : {g h : Graph} (source : Graph) (point copies : List TermId) (ts : List TermId) → IsExtended g h → AreLeaves g source.names point → HasCopies g source point copies ts → HasCopies h source point copies ts
has_copies_kept {g} {h} source point copies [] e a c = tt
has_copies_kept {g} {h} source point copies (t ∷ ts) e a c = (copy_kept source point (id_at copies t.0) t.0 e a c.0, has_copies_kept source point copies ts e a c.1)

-- ---- private states

-- the private states that have begun so far
pub record IsBeginning (g h : Graph) (names : Entries Sort) (first : ℕ) (is : List (Option Value)) (before ids : List TermId) (k : ℕ) : Type 0 where
  pub extended : IsExtended g h
  pub left : are_states true (drop (first + k) names) (drop k is) ≡ true
  pub leaves : AreLeaves h names ids
  pub values : (v : Valuation) → with_initial names (first + k) (drop k is) (worths h ids v) ≡ with_initial names first is (worths g before v)

pub initial_now : (names : Entries Sort) (first : ℕ) (is : List (Option Value)) (k : ℕ) (d : Option Value) → k < length is → first + k < length names → are_states true (drop (first + k) names) (drop k is) ≡ true → (is_initial true (sort_at names (first + k)) (get_or is k d) ≡ true) × (are_states true (drop (first + (k + 1)) names) (drop (k + 1) is) ≡ true)
initial_now names first is k d l b h = and_parts (is_initial true (sort_at names (first + k)) (get_or is k d)) _ (sym (are_states-turn true names is first k d l b) ∙ h)

pub beginning_more : (g h m : Graph) (names : Entries Sort) (first : ℕ) (is : List (Option Value)) (before ids : List TermId) (k : ℕ) (d : Option Value) (id : TermId) → k < length is → first + k < length names → IsExtended h m → id.0 < length m.nodes → sort_of (tree m id.0) ≡ Some (sort_at names (first + k)) → ((v : Valuation) → val (tree m id.0) v ≡ beginning (sort_at names (first + k)) (get_or is k d)) → IsBeginning g h names first is before ids k → IsBeginning g m names first is before (set ids (first + k) id) (k + 1)
beginning_more g h m names first is before ids k d id l b e low s f a =
    let leaves = leaves_kept names ids e a.leaves in
    record {
      extended = extended_trans a.extended e;
      left = (initial_now names first is k d l b a.left).1;
      leaves = leaves-set m names ids (first + k) id leaves b low s;
      values = λ v.
          ap (with_initial names (first + (k + 1)) (drop (k + 1) is)) (worths-set m ids (first + k) id v ∙ ap (set (worths m ids v) (first + k)) (f v)
          ∙ ap (λ xs. set xs (first + k) (beginning (sort_at names (first + k)) (get_or is k d))) (worths_kept ids v e (λ j q. a.leaves.below j (omega (arith, q, a.leaves.count)))))
          ∙ with_initial-turn names first is k d (worths h ids v) l ∙ a.values v;
    }

nothing_left : (is : List (Option Value)) (k : ℕ) → length is ≤ k → drop k is ≡ []
nothing_left [] zero l = refl
nothing_left [] (suc k) l = refl
nothing_left (i ∷ is) zero l = absurd (omega (arith, l))
nothing_left (i ∷ is) (suc k) l = nothing_left is k (omega (arith, l))

pub beginning_end : (g h : Graph) (names : Entries Sort) (first : ℕ) (is : List (Option Value)) (before ids : List TermId) (k : ℕ) (v : Valuation) → length is ≤ k → IsBeginning g h names first is before ids k → worths h ids v ≡ with_initial names first is (worths g before v)
beginning_end g h names first is before ids k v l a = ap (λ r. with_initial names (first + k) r (worths h ids v)) (sym (nothing_left is k l)) ∙ a.values v

pub no_updates_left : (us : List Update) (k : ℕ) → length us ≤ k → drop k us ≡ []
no_updates_left [] zero l = refl
no_updates_left [] (suc k) l = refl
no_updates_left (i ∷ us) zero l = absurd (omega (arith, l))
no_updates_left (i ∷ us) (suc k) l = no_updates_left us k (omega (arith, l))

pub beginning_start : (g : Graph) (names : Entries Sort) (first : ℕ) (is : List (Option Value)) (ids : List TermId) → are_states true (drop first names) is ≡ true → AreLeaves g names ids → IsBeginning g g names first is ids ids 0
beginning_start g names first is ids h a =
    let z : first ≡ first + 0 = omega arith in
    record {
      extended = extended_refl g;
      left = subst (λ k. are_states true (drop k names) is ≡ true) z h;
      leaves = a;
      values = λ v. ap (λ k. with_initial names k is (worths g ids v)) (sym z);
    }

-- the same, as the code reads sorts and initial values
pub initial_read : (names : Entries Sort) (first : ℕ) (is : List (Option Value)) (k : ℕ) (s : Sort) (i : Option Value) → k < length is → first + k < length names → s ≡ sort_at names (first + k) → i ≡ get_or is k i → are_states true (drop (first + k) names) (drop k is) ≡ true → is_private_initial s i ≡ true
initial_read names first is k s i l b e f h =
    let a = (initial_now names first is k i l b h).0 in
    subst (λ x. is_private_initial x i ≡ true) (sym e) (subst (λ (y : Option Value). is_private_initial (sort_at names (first + k)) y ≡ true) (sym f) a)

pub beginning_read : (names : Entries Sort) (first : ℕ) (is : List (Option Value)) (k : ℕ) (s : Sort) (i : Option Value) (x : meaning.Value) → s ≡ sort_at names (first + k) → i ≡ get_or is k i → x ≡ beginning s i → x ≡ beginning (sort_at names (first + k)) (get_or is k i)
beginning_read names first is k s i x e f h = h ∙ ap (λ y. beginning y i) e ∙ ap (λ (y : Option Value). beginning (sort_at names (first + k)) y) f
