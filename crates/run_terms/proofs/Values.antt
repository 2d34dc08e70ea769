-- What terms are worth stays so in a larger store, and lists of terms are put together.
use Rattle.std.proofs.Common.{◌≡◌, ℕ, suc, zero, ◌+◌, ◌-◌, ◌<◌, Bool, true, List, [], ◌∷◌, ◌++◌, length, get_or, Some, refl, sym, ap, ◌∙◌, subst, arith, inl, inr}
use Rattle.std.proofs.lemmas.List.{length-append, get_or_append_left, get_or-append_right}
use Rattle.std.proofs.lemmas.Bool.{cases_lt}
use Rattle.std.specs.Fmt.{decimal}
use Rattle.std.specs.Prelude.{IsTrue}
use Rattle.wb_values.specs.Value.{Name, Sort, truth, Value, number, Entries, Valuation}
use Rattle.wb_values.specs.Choice.{some_if}
use Rattle.model_meaning.specs.Term.{Term, name, is_sort, val, sort_of}
use Rattle.wb_terms.specs.declared.nodes.TermId.{TermId}
use Rattle.wb_terms.specs.Graph.{Graph, tree, leaf_at}
use Rattle.term_copies.specs.Copies.{IsExtended, id_at, declared_at}
use Rattle.term_copies.proofs.Extending.{tree_kept, count_grows}
use Rattle.run_terms.specs.Names.{values_from, FitsNames}
use Rattle.run_terms.specs.Worth.{IsWorth, AreWorth, AreWorthAll}
use Rattle.run_terms.specs.Leaves.{IsName, AreNames}
use Rattle.run_terms.proofs.Numbers.{length-values_from, value_from}

pub fits_before : {g h : Graph} (v : Valuation) → IsExtended g h → FitsNames h.names v → FitsNames g.names v
fits_before v a f = subst (λ (ns : Entries Sort). FitsNames ns v) a.names f

pub IsWorth-kept : {g h : Graph} (id : ℕ) (s : Sort) (m : Valuation → Value) → IsExtended g h → IsWorth g id s m → IsWorth h id s m
IsWorth-kept {g} {h} id s m a w =
    let e : tree h id ≡ tree g id = tree_kept id a w.below in
    record {
      below = omega (arith, w.below, count_grows a);
      sort = ap sort_of e ∙ w.sort;
      value = λ v f. ap (λ (t : Term). val t v) e ∙ w.value v (fits_before v a f);
    }

pub IsWorth-same : {g : Graph} (id : ℕ) (s : Sort) (m n : Valuation → Value) → ((v : Valuation) → m v ≡ n v) → IsWorth g id s m → IsWorth g id s n
IsWorth-same id s m n e w = record { below = w.below; sort = w.sort; value = λ v f. w.value v f ∙ e v }

pub AreWorth-kept : {g h : Graph} (ns : Entries Sort) (ids : List TermId) (m : Valuation → List Value) → IsExtended g h → AreWorth g ns ids m → AreWorth h ns ids m
AreWorth-kept ns ids m a w = record {
  count = w.count;
  values = w.values;
  each = λ k b. IsWorth-kept (id_at ids k) (declared_at ns k).1 (λ v. get_or (m v) k (number 0)) a (w.each k b);
}

pub AreWorth-same : {g : Graph} (ns : Entries Sort) (ids : List TermId) (m n : Valuation → List Value) → ((v : Valuation) → m v ≡ n v) → AreWorth g ns ids m → AreWorth g ns ids n
AreWorth-same ns ids m n e w = record {
  count = w.count;
  values = λ v. ap length (sym (e v)) ∙ w.values v;
  each = λ k b. IsWorth-same (id_at ids k) (declared_at ns k).1 (λ v. get_or (m v) k (number 0)) (λ v. get_or (n v) k (number 0)) (λ v. ap (λ xs. get_or xs k (number 0)) (e v)) (w.each k b);
}

pub AreWorthAll-kept : {g h : Graph} (source : Graph) (ids : List TermId) (m : Valuation → ℕ → Value) → IsExtended g h → AreWorthAll g source ids m → AreWorthAll h source ids m
AreWorthAll-kept source ids m a w = record { count = w.count; each = λ k s b e. IsWorth-kept (id_at ids k) s (λ v. m v k) a (w.each k s b e) }

pub AreWorthAll-same : {g : Graph} (source : Graph) (ids : List TermId) (m n : Valuation → ℕ → Value) → ((v : Valuation) (k : ℕ) → m v k ≡ n v k) → AreWorthAll g source ids m → AreWorthAll g source ids n
AreWorthAll-same source ids m n e w = record {
  count = w.count;
  each = λ k s b i. IsWorth-same (id_at ids k) s (λ v. m v k) (λ v. n v k) (λ v. e v k) (w.each k s b i);
}

-- ---- names

chosen : (b : Bool) (s : Sort) → b ≡ true → some_if b s ≡ Some s
chosen b s h = rw h refl

-- names of a store as terms, where the names are numbers
pub names_worth : (g : Graph) (first : ℕ) (ns : Entries Sort) (ids : List TermId) → AreNames g first (length ns) ids
    → ((j : ℕ) → j < length ns → declared_at g.names (first + j) ≡ (decimal (first + j), (declared_at ns j).1)) → AreWorth g ns ids (values_from first ns)
names_worth g first ns ids a e = record {
  count = a.so_many;
  values = λ v. length-values_from first ns v;
  each = λ j b.
      let n = a.each j b in
      let s : Sort = (declared_at ns j).1 in
      let leaf : tree g (id_at ids j) ≡ name (decimal (first + j)) s = n.tree ∙ ap (λ (x : Name × Sort). name x.0 x.1) (e j b) in
      let in_range : is_sort s ≡ true = ap (λ (x : Name × Sort). is_sort x.1) (sym (e j b)) ∙ n.in_range in
      record {
        below = n.below;
        sort = ap sort_of leaf ∙ chosen (is_sort s) s in_range;
        value = λ v f. ap (λ (t : Term). val t v) leaf ∙ sym (value_from first j ns v b);
      };
}

-- ---- lists of names

pub no_names : (g : Graph) (first : ℕ) → AreNames g first 0 []
no_names g first = record { so_many = refl; each = λ k b. absurd (omega (arith, b)) }

name_kept : {g h : Graph} (place id : ℕ) → IsExtended g h → IsName g place id → IsName h place id
name_kept {g} {h} place id a n = record {
  below = omega (arith, n.below, count_grows a);
  tree = tree_kept id a n.below ∙ (n.tree ∙ ap (λ (ns : Entries Sort). leaf_at ns place) (sym a.names));
  in_range = subst (λ (ns : Entries Sort). IsTrue (is_sort (declared_at ns place).1)) (sym a.names) n.in_range;
}

pub names_more : {g h : Graph} (first count : ℕ) (ids : List TermId) (id : TermId) → IsExtended g h → AreNames g first count ids → IsName h (first + count) id.0
    → AreNames h first (count + 1) (ids ++ id ∷ [])
names_more {g} {h} first count ids id a w n = record {
  so_many = omega (arith, length-append ids (id ∷ []), w.so_many);
  each = λ k b. elim (cases_lt k count) as (λ _. IsName h (first + k) (id_at (ids ++ id ∷ []) k)) [
    | inl l ↦ (let e : id_at (ids ++ id ∷ []) k ≡ id_at ids k = ap (λ (x : TermId). x.0) (get_or_append_left ids (id ∷ []) (record { 0 = 0 }) k (omega (arith, l, w.so_many))) in
        subst (IsName h (first + k)) (sym e) (name_kept (first + k) (id_at ids k) a (w.each k l)))
    | inr l ↦ (let same : count ≡ k = omega (arith, b, l) in
        let e : id_at (ids ++ id ∷ []) k ≡ id.0 = ap (λ (x : TermId). x.0) (last_id ids id k (w.so_many ∙ same)) in
        subst (IsName h (first + k)) (sym e) (subst (λ j. IsName h (first + j) id.0) same n))
  ];
}
  where
    last_id : (ids : List TermId) (id : TermId) (k : ℕ) → length ids ≡ k → get_or (ids ++ id ∷ []) k (record { 0 = 0 }) ≡ id
    last_id [] id zero e = refl
    last_id [] id (suc k) e = absurd (omega (arith, e))
    last_id (x ∷ xs) id zero e = absurd (omega (arith, e))
    last_id (x ∷ xs) id (suc k) e = last_id xs id k (omega (arith, e))

-- ---- one list after another

both_worth : {g : Graph} (ns ms : Entries Sort) (xs ys : List TermId) (m n : Valuation → List Value) (k : ℕ) → AreWorth g ns xs m → AreWorth g ms ys n → k < length (ns ++ ms)
    → IsWorth g (id_at (xs ++ ys) k) (declared_at (ns ++ ms) k).1 (λ v. get_or (m v ++ n v) k (number 0))
both_worth {g} ns ms xs ys m n k a c b =
    elim (cases_lt k (length ns)) as (λ _. IsWorth g (id_at (xs ++ ys) k) (declared_at (ns ++ ms) k).1 (λ v. get_or (m v ++ n v) k (number 0))) [
      | inl l ↦ (let i : id_at (xs ++ ys) k ≡ id_at xs k = ap (λ (x : TermId). x.0) (get_or_append_left xs ys (record { 0 = 0 }) k (omega (arith, l, a.count))) in
          let s : (declared_at (ns ++ ms) k).1 ≡ (declared_at ns k).1 = ap (λ (e : Name × Sort). e.1) (get_or_append_left ns ms ([], truth) k l) in
          IsWorth-same (id_at (xs ++ ys) k) (declared_at (ns ++ ms) k).1 (λ v. get_or (m v) k (number 0)) (λ v. get_or (m v ++ n v) k (number 0))
          (λ v. sym (get_or_append_left (m v) (n v) (number 0) k (omega (arith, l, a.values v))))
          (subst (λ j. IsWorth g j (declared_at (ns ++ ms) k).1 (λ v. get_or (m v) k (number 0))) (sym i)
          (subst (λ (t : Sort). IsWorth g (id_at xs k) t (λ v. get_or (m v) k (number 0))) (sym s) (a.each k l))))
      | inr l ↦ (let j : ℕ = k - length ns in
          let i : id_at (xs ++ ys) k ≡ id_at ys j = ap (λ (x : TermId). x.0) (get_or-append_right xs ys (length ns) k (record { 0 = 0 }) a.count l) in
          let s : (declared_at (ns ++ ms) k).1 ≡ (declared_at ms j).1 = ap (λ (e : Name × Sort). e.1) (get_or-append_right ns ms (length ns) k ([], truth) refl l) in
          let less : j < length ms = omega (arith, b, l, length-append ns ms) in
          IsWorth-same (id_at (xs ++ ys) k) (declared_at (ns ++ ms) k).1 (λ v. get_or (n v) j (number 0)) (λ v. get_or (m v ++ n v) k (number 0))
          (λ v. sym (get_or-append_right (m v) (n v) (length ns) k (number 0) (a.values v) l))
          (subst (λ o. IsWorth g o (declared_at (ns ++ ms) k).1 (λ v. get_or (n v) j (number 0))) (sym i)
          (subst (λ (t : Sort). IsWorth g (id_at ys j) t (λ v. get_or (n v) j (number 0))) (sym s) (c.each j less))))
    ]

pub AreWorth-append : {g : Graph} (ns ms : Entries Sort) (xs ys : List TermId) (m n : Valuation → List Value) → AreWorth g ns xs m → AreWorth g ms ys n
    → AreWorth g (ns ++ ms) (xs ++ ys) (λ v. m v ++ n v)
AreWorth-append ns ms xs ys m n a c = record {
  count = omega (arith, length-append xs ys, length-append ns ms, a.count, c.count);
  values = λ v. omega (arith, length-append (m v) (n v), length-append ns ms, a.values v, c.values v);
  each = λ k b. both_worth ns ms xs ys m n k a c b;
}
