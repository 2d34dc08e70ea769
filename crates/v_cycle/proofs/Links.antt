-- What stands at a store and at a name among the terms.
use Rattle.std.proofs.Common.{◌≡◌, ◌∙◌, ◌<◌, ℕ, List, [], ◌∷◌, length, get_or, IsSome, sym, ap, ap₂, subst, arith}
use Rattle.std.specs.Prelude.{slice_set}
use Rattle.std.proofs.lemmas.Bool.{false≢true}
use Rattle.wb_values.specs.Value.{truth, word, memory, Value, truth_value, number, words, as_number, as_words, numeral_of, HasSort}
use Rattle.wb_bits.specs.declared.Word.{Word}
use Rattle.model_meaning.specs.Term.{sort_of, val}
use Rattle.wb_terms.specs.declared.nodes.NameId.{NameId}
use Rattle.wb_terms.specs.declared.nodes.TermId.{TermId}
use Rattle.wb_terms.specs.declared.nodes.Node.{Node}
use Rattle.wb_terms.specs.declared.nodes.Node.TheVariants.{Name as NameNode, Store as StoreNode}
use Rattle.wb_terms.specs.declared.values.Env.{Env}
use Rattle.wb_terms.specs.Graph.{Graph, HasDistinctNames, IsOver, tree, tree_of_node}
use Rattle.wb_terms.specs.Environment.{Fits, HasSortOf, valuation, value_of, values_of}
use Rattle.wb_terms.specs.Held.{Holds}
use Rattle.wb_terms.proofs.EnvironmentLemmas.{value_at}
use Rattle.wb_terms.proofs.HeldLemmas.{store_sorts, HasSortOf-held}
use Rattle.v_cycle.specs.declared.changes.Stored.{Stored}
use Rattle.v_cycle.specs.Changing.{stored_in}

-- where all terms are held, the value of each is of its sort
pub held_sort : (g : Graph) (e : Env) (ws : List Word) (k : ℕ) → Holds g e ws → k < length g.nodes → HasSortOf (value_of g e k) (sort_of (tree g k))
held_sort g e [] k h lt = absurd (omega (arith, h.room, lt))
held_sort g e (w ∷ ws) k h lt = HasSortOf-held (sort_of (tree g k)) (value_of g e k) _ _ (h.held k w lt)

stored_so : (a d : ℕ) (m i x : Value) (s : Stored) → HasSort m (memory a d) → HasSort i (word a) → HasSort x (word d)
    → s.address ≡ numeral_of i → s.number ≡ numeral_of x → words (slice_set (as_words m) (as_number i) (as_number x)) ≡ stored_in m s
stored_so a d (truth_value b) i x s hm hi hx p q = absurd (false≢true hm)
stored_so a d (number n) i x s hm hi hx p q = absurd (false≢true hm)
stored_so a d (words ws) (truth_value b) x s hm hi hx p q = absurd (false≢true hi)
stored_so a d (words ws) (words us) x s hm hi hx p q = absurd (false≢true hi)
stored_so a d (words ws) (number n) (truth_value b) s hm hi hx p q = absurd (false≢true hx)
stored_so a d (words ws) (number n) (words us) s hm hi hx p q = absurd (false≢true hx)
stored_so a d (words ws) (number n) (number k) s hm hi hx p q = ap₂ (λ place y. words (slice_set ws place y)) (sym p) (sym q)

pub store_link : (g : Graph) (e : Env) (ws : List Word) (id : ℕ) (n : Node) (m i x : TermId) (s : Stored) → Holds g e ws → id < length g.nodes
    → tree g id ≡ tree_of_node g n → n ≡ StoreNode m i x → IsOver g id n → IsSome (sort_of (tree g id))
    → s.address ≡ numeral_of (value_of g e i.0) → s.number ≡ numeral_of (value_of g e x.0)
    → (m.0 < id) × (value_of g e id ≡ stored_in (value_of g e m.0) s)
store_link g e ws id n m i x s h lt t is over some p q =
    let below = rw is at over.operands in
    let made = t ∙ ap (tree_of_node g) is in
    let sorts = store_sorts (sort_of (tree g m.0)) (sort_of (tree g i.0)) (sort_of (tree g x.0)) (subst (λ y. IsSome (sort_of y)) made some) in
    let a = sorts.0 in
    let d = sorts.1 in
    let hm : HasSort (value_of g e m.0) (memory a d) = subst (HasSortOf (value_of g e m.0)) sorts.2 (held_sort g e ws m.0 h (omega (arith, lt, below.0))) in
    let hi : HasSort (value_of g e i.0) (word a) = subst (HasSortOf (value_of g e i.0)) sorts.3 (held_sort g e ws i.0 h (omega (arith, lt, below.1.0))) in
    let hx : HasSort (value_of g e x.0) (word d) = subst (HasSortOf (value_of g e x.0)) sorts.4 (held_sort g e ws x.0 h (omega (arith, lt, below.1.1.0))) in
    (below.0, ap (λ y. val y (valuation g e)) made ∙ stored_so a d (value_of g e m.0) (value_of g e i.0) (value_of g e x.0) s hm hi hx p q)

pub name_link : (g : Graph) (e : Env) (id : ℕ) (n : Node) (m : NameId) → tree g id ≡ tree_of_node g n → n ≡ NameNode m → IsOver g id n
    → HasDistinctNames g.names → Fits g e → value_of g e id ≡ get_or (values_of e) m.0 (number 0)
name_link g e id n m t is over apart fits =
    let below = rw is at over.names in
    ap (λ y. val y (valuation g e)) (t ∙ ap (tree_of_node g) is) ∙ value_at g.names (values_of e) m.0 ([], truth) (number 0) apart fits below.0
