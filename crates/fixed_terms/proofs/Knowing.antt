-- What the truth value of a condition says of its operands.
use Rattle.std.proofs.Common.{◌≡◌, ℕ, zero, suc, ◌<◌, Bool, true, false, not as truth_not, ◌==◌, List, [], ◌∷◌, length, get_or, set, replicate, Option, Some, None, inl, inr, refl, sym, ap, ◌∙◌, subst, arith}
use Rattle.std.proofs.lemmas.Bool.{cases_eq, false≢true}
use Rattle.std.proofs.lemmas.List.{length-replicate, get_or-set_same, get_or-set_other}
use Rattle.std.proofs.Math.ListN.{length-set}
use Rattle.wb_values.specs.Value.{Sort, truth, word, memory, Value, truth_value, number, words, as_truth, Valuation, HasSort}
use Rattle.wb_values.specs.Choice.{some_if}
use Rattle.model_meaning.specs.Term.{Term, bits_sort, same_bits_sort, sort_of, width_of_sort, complement, conjunction, disjunction, val}
use Rattle.wb_terms.specs.declared.nodes.Node.{Node}
use Rattle.wb_terms.specs.declared.nodes.Node.TheVariants.{Not, And, Or}
use Rattle.wb_terms.specs.Graph.{Graph, IsOver, tree, tree_of_node}
use Rattle.run_terms.specs.Names.{FitsNames}
use Rattle.condition_terms.specs.Told.{IsTermOf, AreAllOfSorts, is_true}
use Rattle.fixed_terms.specs.Fixed.{Follows, known_at, AreKnown, known_by, IsCase}

-- ---- sorts of operands

abbrev is_truth_sort : Option Sort → Bool
is_truth_sort (Some truth) = true
is_truth_sort _ = false

bits_truth : (o : Option Sort) → bits_sort o ≡ Some truth → o ≡ Some truth
bits_truth (Some truth) e = refl
bits_truth (Some (word w)) e = absurd (false≢true (ap is_truth_sort e))
bits_truth (Some (memory a d)) e = absurd (false≢true (ap is_truth_sort e))
bits_truth None e = absurd (false≢true (ap is_truth_sort e))

no_truth : (b : Bool) (w : ℕ) → is_truth_sort (some_if b (word w)) ≡ false
no_truth true w = refl
no_truth false w = refl

same_bits_truth : (o p : Option Sort) → same_bits_sort o p ≡ Some truth → (o ≡ Some truth) × (p ≡ Some truth)
same_bits_truth (Some truth) (Some truth) e = (refl, refl)
same_bits_truth (Some (word w)) (Some (word u)) e = absurd (false≢true (sym (no_truth (w == u) w) ∙ ap is_truth_sort e))
same_bits_truth _ _ e = absurd (false≢true (ap is_truth_sort e))

-- ---- values of operands

not_value : (w : ℕ) (x : Value) (b : Bool) → HasSort x truth → as_truth (complement w x) ≡ b → as_truth x ≡ truth_not b
not_value w (truth_value true) b h e = ap truth_not e
not_value w (truth_value false) b h e = ap truth_not e
not_value w (number n) b h e = absurd (false≢true h)
not_value w (words ws) b h e = absurd (false≢true h)

and_value : (x y : Value) → HasSort x truth → as_truth (conjunction x y) ≡ true → (as_truth x ≡ true) × (as_truth y ≡ true)
and_value (truth_value true) y h e = (refl, e)
and_value (truth_value false) y h e = absurd (false≢true e)
and_value (number n) y h e = absurd (false≢true h)
and_value (words ws) y h e = absurd (false≢true h)

or_value : (x y : Value) → HasSort x truth → as_truth (disjunction x y) ≡ false → (as_truth x ≡ false) × (as_truth y ≡ false)
or_value (truth_value true) y h e = absurd (false≢true (sym e))
or_value (truth_value false) y h e = (refl, e)
or_value (number n) y h e = absurd (false≢true h)
or_value (words ws) y h e = absurd (false≢true h)

-- ---- tables of what is known

abbrev taken : Option Bool → Bool → Bool
taken (Some x) d = x
taken None d = d

pub known_set : (g : Graph) (id : ℕ) (ks : List (Option Bool)) (k : ℕ) (b : Bool) → k < length ks → Follows g id k b → AreKnown g id ks → AreKnown g id (set ks k (Some b))
known_set g id ks k b l f a =
    let long : length (set ks k (Some b)) ≡ length ks = length-set ks k (Some b) in
    record {
      room = long ∙ a.room;
      follows = λ j c m e. elim (cases_eq k j) [
        | inl q ↦
            let here : known_at (set ks k (Some b)) k ≡ Some c = subst (λ i. known_at (set ks k (Some b)) i ≡ Some c) (sym q) e in
            let same : b ≡ c = ap (λ o. taken o b) (sym (get_or-set_same ks k (Some b) None l) ∙ here) in
            subst (λ i. Follows g id i c) q (subst (Follows g id k) same f)
        | inr ne ↦ a.follows j c (omega (arith, m, long)) (sym (get_or-set_other ks k j (Some b) None (λ q. ne (sym q))) ∙ e)
      ];
    }

known_two : (g : Graph) (id : ℕ) (ks : List (Option Bool)) (k j : ℕ) (b c : Bool) → k < length ks → j < length ks → Follows g id k b → Follows g id j c → AreKnown g id ks
    → AreKnown g id (set (set ks k (Some b)) j (Some c))
known_two g id ks k j b c l m f h a =
    known_set g id (set ks k (Some b)) j c (omega (arith, m, length-set ks k (Some b))) h (known_set g id ks k b l f a)

pub known_more : (g : Graph) (id place : ℕ) (n : Node) (b : Bool) (ks : List (Option Bool)) → AreAllOfSorts g → tree g place ≡ tree_of_node g n → IsOver g place n → place < length ks → Follows g id place b
    → AreKnown g id ks → AreKnown g id (known_by n b ks)
known_more g id place (Not x) b ks all e o l f a =
    let room = a.room in
    let s = bits_truth (sort_of (tree g x.0)) (sym (ap sort_of e) ∙ f.condition.sort) in
    let w = all x.0 truth (omega (arith, o.operands.0, l, room)) s in
    known_set g id ks x.0 (truth_not b) (omega (arith, o.operands.0, l)) (record {
      condition = w;
      value = λ v fit h. not_value (width_of_sort (sort_of (tree g x.0))) (val (tree g x.0) v) b (w.is_of v fit) (sym (ap (λ (t : Term). as_truth (val t v)) e) ∙ f.value v fit h);
    }) a
known_more g id place (And x y) true ks all e o l f a =
    let room = a.room in
    let s = same_bits_truth (sort_of (tree g x.0)) (sort_of (tree g y.0)) (sym (ap sort_of e) ∙ f.condition.sort) in
    let w = all x.0 truth (omega (arith, o.operands.0, l, room)) s.0 in
    let u = all y.0 truth (omega (arith, o.operands.1.0, l, room)) s.1 in
    let both = λ (v : Valuation) (fit : FitsNames g.names v) (h : is_true g id v ≡ false).
    and_value (val (tree g x.0) v) (val (tree g y.0) v) (w.is_of v fit) (sym (ap (λ (t : Term). as_truth (val t v)) e) ∙ f.value v fit h) in
    known_two g id ks x.0 y.0 true true (omega (arith, o.operands.0, l)) (omega (arith, o.operands.1.0, l))
    (record { condition = w; value = λ v fit h. (both v fit h).0 }) (record { condition = u; value = λ v fit h. (both v fit h).1 }) a
known_more g id place (Or x y) false ks all e o l f a =
    let room = a.room in
    let s = same_bits_truth (sort_of (tree g x.0)) (sort_of (tree g y.0)) (sym (ap sort_of e) ∙ f.condition.sort) in
    let w = all x.0 truth (omega (arith, o.operands.0, l, room)) s.0 in
    let u = all y.0 truth (omega (arith, o.operands.1.0, l, room)) s.1 in
    let both = λ (v : Valuation) (fit : FitsNames g.names v) (h : is_true g id v ≡ false).
    or_value (val (tree g x.0) v) (val (tree g y.0) v) (w.is_of v fit) (sym (ap (λ (t : Term). as_truth (val t v)) e) ∙ f.value v fit h) in
    known_two g id ks x.0 y.0 false false (omega (arith, o.operands.0, l)) (omega (arith, o.operands.1.0, l))
    (record { condition = w; value = λ v fit h. (both v fit h).0 }) (record { condition = u; value = λ v fit h. (both v fit h).1 }) a
known_more g id place _ _ ks all e o l f a = a

abbrev is_there : Option Bool → Bool
is_there (Some b) = true
is_there None = false

none_at : (n k : ℕ) → known_at (replicate n None) k ≡ None
none_at zero zero = refl
none_at zero (suc k) = refl
none_at (suc n) zero = refl
none_at (suc n) (suc k) = none_at n k

-- the term itself is known to be false
pub known_first : (g : Graph) (id : ℕ) (ks : List (Option Bool)) → IsTermOf g id truth → ks ≡ replicate (length g.nodes) None → AreKnown g id (set ks id (Some false))
known_first g id ks w e =
    let room : length ks ≡ length g.nodes = ap length e ∙ length-replicate (length g.nodes) None in
    known_set g id ks id false (omega (arith, w.below, room)) (record { condition = w; value = λ v fit h. h }) (record {
      room = room;
      follows = λ k b l q. absurd (false≢true (sym (ap is_there (ap (λ xs. known_at xs k) e ∙ none_at (length g.nodes) k)) ∙ ap is_there q));
    })

-- what a read of the table says
pub read_known : (ks : List (Option Bool)) (k : ℕ) (x : Option Bool) (b : Bool) → k < length ks → x ≡ get_or ks k x → x ≡ Some b → known_at ks k ≡ Some b
read_known [] k x b l e q = absurd (omega (arith, l))
read_known (y ∷ ks) zero x b l e q = sym e ∙ q
read_known (y ∷ ks) (suc k) x b l e q = read_known ks k x b (omega (arith, l)) e q

-- ---- conditions that were made bits

pub known_case : (g : Graph) (id place k : ℕ) (t : Term) (b : Bool) (ks : List (Option Bool)) → AreAllOfSorts g → tree g place ≡ t → Follows g id place b → IsCase g t k → AreKnown g id ks → AreKnown g id (set ks k (Some b))
known_case g id place k t b ks all e f c a =
    known_set g id ks k b (omega (arith, c.below, a.room)) (record {
      condition = all k truth c.below c.sort;
      value = λ v fit h. sym (c.same v) ∙ (sym (ap (λ (u : Term). as_truth (val u v)) e) ∙ f.value v fit h);
    }) a
