-- Terms that are put over terms of a store: their sorts and values.
use Rattle.std.proofs.Common.{◌≡◌, ℕ, zero, suc, ◌+◌, ◌-◌, ◌<◌, ◌≤◌, Bool, true, false, cond, ◌&&◌, List, [], ◌∷◌, ◌++◌, map, length, length-append, get_or, Option, Some, None, inl, inr, refl, sym, ap, ◌∙◌, subst, arith}
use Rattle.std.specs.Prelude.{IsSome, ◌==◌}
use Rattle.std.proofs.lemmas.Bool.{and_from, eq-eqb, eqb-true, cases_lt, false≢true}
use Rattle.std.proofs.lemmas.List.{get_or_append_left, get_or_at}
use Rattle.wb_values.specs.Value as meaning
use Rattle.wb_values.specs.Value.{Sort, truth, word, memory, truth_value, number, as_truth, Entries, Valuation}
use Rattle.model_meaning.specs.Term.{Term, same_sort, sort_of, same_bits_sort, ite_sort, conjunction, val}
use Rattle.wb_terms.specs.declared.nodes.TermId.{TermId}
use Rattle.wb_terms.specs.declared.nodes.Node.{Node}
use Rattle.wb_terms.specs.declared.nodes.Node.TheVariants.{Truth, And, Ite}
use Rattle.wb_terms.specs.Graph.{Graph, IsOver, tree, tree_of_node, with_node}
use Rattle.term_copies.specs.Copies.{IsExtended, AreLeaves, id_at, declared_at}
use Rattle.term_copies.proofs.Extending.{extended_by, extended_trans, extended_refl, tree_kept, last_tree, last_below, count_grows}
use Rattle.model_terms.specs.Symbolic.{worths, is_true, IsCondition, IsTest}

-- ---- kept in stores that grow

pub value_kept : {g h : Graph} (id : ℕ) (v : Valuation) → IsExtended g h → id < length g.nodes → val (tree h id) v ≡ val (tree g id) v
value_kept {g} {h} id v e b = ap (λ (t : Term). val t v) (tree_kept id e b)

pub true_kept : {g h : Graph} (id : ℕ) (v : Valuation) → IsExtended g h → id < length g.nodes → is_true h id v ≡ is_true g id v
true_kept {g} {h} id v e b = ap as_truth (value_kept id v e b)

pub condition_kept : {g h : Graph} (id : ℕ) → IsExtended g h → IsCondition g id → IsCondition h id
condition_kept {g} {h} id e c = record { below = omega (arith, c.below, count_grows e); sort = ap sort_of (tree_kept id e c.below) ∙ c.sort }

pub test_kept : {g h : Graph} (id : ℕ) → IsExtended g h → IsTest g id → IsTest h id
test_kept {g} {h} id e c = record {
  below = omega (arith, c.below, count_grows e);
  sort = ap sort_of (tree_kept id e c.below) ∙ c.sort;
  value = λ v. value_kept id v e c.below ∙ c.value v ∙ ap truth_value (sym (true_kept id v e c.below));
}

pub test_condition : (g : Graph) (id : ℕ) → IsTest g id → IsCondition g id
test_condition g id c = record { below = c.below; sort = c.sort }

-- ---- single nodes

pub test_put : (g h : Graph) (n : Node) (id : ℕ) → id ≡ length g.nodes → h ≡ with_node g n → sort_of (tree_of_node g n) ≡ Some truth → ((v : Valuation) → val (tree_of_node g n) v ≡ truth_value (as_truth (val (tree_of_node g n) v))) → IsTest h id
test_put g h n id i e s f =
    let last : tree h id ≡ tree_of_node g n = last_tree g h n id i e in
    record {
      below = last_below g h n id i e;
      sort = ap sort_of last ∙ s;
      value = λ v. ap (λ (t : Term). val t v) last ∙ f v ∙ ap (λ (t : Term). truth_value (as_truth (val t v))) (sym last);
    }

pub put_value : (g h : Graph) (n : Node) (id : ℕ) (v : Valuation) → id ≡ length g.nodes → h ≡ with_node g n → val (tree h id) v ≡ val (tree_of_node g n) v
put_value g h n id v i e = ap (λ (t : Term). val t v) (last_tree g h n id i e)

pub put_sort : (g h : Graph) (n : Node) (id : ℕ) → id ≡ length g.nodes → h ≡ with_node g n → sort_of (tree h id) ≡ sort_of (tree_of_node g n)
put_sort g h n id i e = ap sort_of (last_tree g h n id i e)

pub both_sort : (a b : Option Sort) → a ≡ Some truth → b ≡ Some truth → same_bits_sort a b ≡ Some truth
both_sort a b e f = ap (λ x. same_bits_sort x b) e ∙ ap (λ y. same_bits_sort (Some truth) y) f

pub both_value : (x y : meaning.Value) → x ≡ truth_value (as_truth x) → conjunction x y ≡ truth_value (as_truth x && as_truth y)
both_value x y e = ap (λ z. conjunction z y) e

pub some_sort : (s t : Option Sort) → s ≡ t → IsSome t → IsSome s
some_sort s t e h = subst (λ x. IsSome x) (sym e) h

pub is_some_of : (s : Option Sort) (t : Sort) → s ≡ Some t → IsSome s
is_some_of s t e = subst (λ x. IsSome x) (sym e) refl

same_sort-refl : (s : Sort) → same_sort s s ≡ true
same_sort-refl truth = refl
same_sort-refl (word w) = eq-eqb w w refl
same_sort-refl (memory a d) = and_from _ _ (eq-eqb a a refl) (eq-eqb d d refl)

pub ite_same : (c x y : Option Sort) → c ≡ Some truth → IsSome x → y ≡ x → ite_sort c x y ≡ x
ite_same c None y e s f = absurd (false≢true s)
ite_same c (Some s) y e h f =
    ap (λ z. ite_sort z (Some s) y) e ∙ ap (λ z. ite_sort (Some truth) (Some s) z) f ∙ ap (λ b. cond b (Some s) None) (same_sort-refl s)

pub same_both : (b : Bool) (x y : meaning.Value) → y ≡ x → x ≡ cond b x y
same_both true x y e = refl
same_both false x y e = sym e

cond_truth : (b : Bool) (x y : meaning.Value) → x ≡ truth_value (as_truth x) → y ≡ truth_value (as_truth y) → cond b x y ≡ truth_value (cond b (as_truth x) (as_truth y))
cond_truth true x y e f = e
cond_truth false x y e f = f

pub test_choice : (g h : Graph) (c x y r : ℕ) → IsTest g x → IsTest g y → r < length h.nodes → sort_of (tree h r) ≡ sort_of (tree g x) → ((v : Valuation) → val (tree h r) v ≡ cond (is_true g c v) (val (tree g x) v) (val (tree g y) v)) → IsTest h r
test_choice g h c x y r a b l s f = record {
  below = l;
  sort = s ∙ a.sort;
  value = λ v.
      (let e = f v ∙ cond_truth (is_true g c v) (val (tree g x) v) (val (tree g y) v) (a.value v) (b.value v) in
      e ∙ ap truth_value (sym (ap as_truth e)));
}

pub true_choice : (g h : Graph) (c x y r : ℕ) (v : Valuation) → IsTest g x → IsTest g y → val (tree h r) v ≡ cond (is_true g c v) (val (tree g x) v) (val (tree g y) v) → is_true h r v ≡ cond (is_true g c v) (is_true g x v) (is_true g y v)
true_choice g h c x y r v a b f = ap as_truth (f ∙ cond_truth (is_true g c v) (val (tree g x) v) (val (tree g y) v) (a.value v) (b.value v))

-- ---- lists of terms

pub worths-at : (g : Graph) (ids : List TermId) (v : Valuation) (k : ℕ) → k < length ids → get_or (worths g ids v) k (number 0) ≡ val (tree g (id_at ids k)) v
worths-at g [] v k h = absurd (omega (arith, h))
worths-at g (i ∷ ids) v zero h = refl
worths-at g (i ∷ ids) v (suc k) h = worths-at g ids v k (omega (arith, h))

pub length-worths : (g : Graph) (ids : List TermId) (v : Valuation) → length (worths g ids v) ≡ length ids
length-worths g [] v = refl
length-worths g (i ∷ ids) v = ap suc (length-worths g ids v)

pub same_list : (xs ys : List meaning.Value) → length xs ≡ length ys → ((k : ℕ) → k < length xs → get_or xs k (number 0) ≡ get_or ys k (number 0)) → xs ≡ ys
same_list [] [] l f = refl
same_list [] (y ∷ ys) l f = absurd (omega (arith, l))
same_list (x ∷ xs) [] l f = absurd (omega (arith, l))
same_list (x ∷ xs) (y ∷ ys) l f =
    let head = f 0 (omega arith) in
    let tail = same_list xs ys (omega (arith, l)) (λ k h. f (suc k) (omega (arith, h))) in
    λ i. head i ∷ tail i

pub worths_kept : {g h : Graph} (ids : List TermId) (v : Valuation) → IsExtended g h → ((k : ℕ) → k < length ids → id_at ids k < length g.nodes) → worths h ids v ≡ worths g ids v
worths_kept {g} {h} [] v e b = refl
worths_kept {g} {h} (i ∷ ids) v e b =
    let head = value_kept i.0 v e (b 0 (omega arith)) in
    let tail = worths_kept ids v e (λ k l. b (suc k) (omega (arith, l))) in
    λ j. head j ∷ tail j

-- the choices so far
pub record IsChoosing (g h : Graph) (names : Entries Sort) (c : ℕ) (xs ys : List TermId) (n : ℕ) (ids : List TermId) : Type 0 where
  pub extended : IsExtended g h
  pub count : length ids ≡ n
  pub below : (k : ℕ) → k < n → id_at ids k < length h.nodes
  pub sort : (k : ℕ) → k < n → sort_of (tree h (id_at ids k)) ≡ Some (declared_at names k).1
  pub value : (k : ℕ) → k < n → (v : Valuation) → val (tree h (id_at ids k)) v ≡ cond (is_true g c v) (val (tree g (id_at xs k)) v) (val (tree g (id_at ys k)) v)

pub choosing_start : (g : Graph) (names : Entries Sort) (c : ℕ) (xs ys : List TermId) → IsChoosing g g names c xs ys 0 []
choosing_start g names c xs ys = record {
  extended = extended_refl g;
  count = refl;
  below = λ k l. absurd (omega (arith, l));
  sort = λ k l. absurd (omega (arith, l));
  value = λ k l v. absurd (omega (arith, l));
}

left_id : (ids : List TermId) (id : TermId) (j : ℕ) → j < length ids → id_at (ids ++ id ∷ []) j ≡ id_at ids j
left_id ids id j h = ap (λ (x : TermId). x.0) (get_or_append_left ids (id ∷ []) (record { 0 = 0 }) j h)

last_id : (ids : List TermId) (id : TermId) → id_at (ids ++ id ∷ []) (length ids) ≡ id.0
last_id ids id = ap (λ (x : TermId). x.0) (get_or_at ids id [] (record { 0 = 0 }) (length ids) refl)

-- what holds at each place of a list holds at those of a longer one
pub places_more : (P : ℕ → ℕ → Type 0) (ids : List TermId) (id : TermId) (n k : ℕ) → length ids ≡ n → k < n + 1 → ((j : ℕ) → j < n → P j (id_at ids j)) → P n id.0 → P k (id_at (ids ++ id ∷ []) k)
places_more P ids id n k l b f new = elim (cases_lt k n) [
  | inl h ↦ subst (λ x. P k x) (sym (left_id ids id k (omega (arith, h, l)))) (f k h)
  | inr h ↦
      let e : n ≡ k = omega (arith, h, b) in
      subst (λ j. P j (id_at (ids ++ id ∷ []) j)) (l ∙ e) (subst (λ x. P (length ids) x) (sym (last_id ids id)) (subst (λ j. P j id.0) (sym l) new))
]

pub choosing_more : (g h k : Graph) (names : Entries Sort) (c : ℕ) (xs ys : List TermId) (n : ℕ) (ids : List TermId) (id : TermId) → n < length names → AreLeaves g names xs → AreLeaves g names ys → IsCondition g c → IsExtended h k → id.0 < length k.nodes → sort_of (tree k id.0) ≡ sort_of (tree h (id_at xs n)) → ((v : Valuation) → val (tree k id.0) v ≡ cond (is_true h c v) (val (tree h (id_at xs n)) v) (val (tree h (id_at ys n)) v)) → IsChoosing g h names c xs ys n ids → IsChoosing g k names c xs ys (n + 1) (ids ++ id ∷ [])
choosing_more g h k names c xs ys n ids id l x y cond_is e b s f a = record {
  extended = extended_trans a.extended e;
  count = length-append ids (id ∷ []) ∙ ap (λ m. m + 1) a.count;
  below = λ j m. places_more (λ i z. z < length k.nodes) ids id n j a.count m (λ i q. omega (arith, a.below i q, count_grows e)) b;
  sort = λ j m. places_more (λ i z. sort_of (tree k z) ≡ Some (declared_at names i).1) ids id n j a.count m (λ i q. ap sort_of (tree_kept (id_at ids i) e (a.below i q)) ∙ a.sort i q)
      (s ∙ ap sort_of (tree_kept (id_at xs n) a.extended (x.below n l)) ∙ x.sort n l);
  value = λ j m v. places_more (λ i z. val (tree k z) v ≡ cond (is_true g c v) (val (tree g (id_at xs i)) v) (val (tree g (id_at ys i)) v)) ids id n j a.count m
      (λ i q. value_kept (id_at ids i) v e (a.below i q) ∙ a.value i q v)
      (f v ∙ ap (λ t. cond t (val (tree h (id_at xs n)) v) (val (tree h (id_at ys n)) v)) (true_kept c v a.extended cond_is.below)
      ∙ ap (λ t. cond (is_true g c v) t (val (tree h (id_at ys n)) v)) (value_kept (id_at xs n) v a.extended (x.below n l))
      ∙ ap (λ t. cond (is_true g c v) (val (tree g (id_at xs n)) v) t) (value_kept (id_at ys n) v a.extended (y.below n l)));
}

pub choosing_leaves : (g h : Graph) (names : Entries Sort) (c : ℕ) (xs ys : List TermId) (n : ℕ) (ids : List TermId) → n ≡ length names → IsChoosing g h names c xs ys n ids → AreLeaves h names ids
choosing_leaves g h names c xs ys n ids e a = record {
  count = a.count ∙ e;
  below = λ j b. a.below j (omega (arith, e, b));
  sort = λ j b. a.sort j (omega (arith, e, b));
}

cond_length : (b : Bool) (xs ys : List meaning.Value) (n : ℕ) → length xs ≡ n → length ys ≡ n → length (cond b xs ys) ≡ n
cond_length true xs ys n x y = x
cond_length false xs ys n x y = y

cond_at : (b : Bool) (xs ys : List meaning.Value) (k : ℕ) → get_or (cond b xs ys) k (number 0) ≡ cond b (get_or xs k (number 0)) (get_or ys k (number 0))
cond_at true xs ys k = refl
cond_at false xs ys k = refl

pub choosing_values : (g h : Graph) (names : Entries Sort) (c : ℕ) (xs ys : List TermId) (n : ℕ) (ids : List TermId) (v : Valuation) → n ≡ length names → AreLeaves g names xs → AreLeaves g names ys → IsChoosing g h names c xs ys n ids → worths h ids v ≡ cond (is_true g c v) (worths g xs v) (worths g ys v)
choosing_values g h names c xs ys n ids v e x y a =
    let b = is_true g c v in
    let long = length-worths h ids v in
    let longx = length-worths g xs v ∙ x.count in
    let longy = length-worths g ys v ∙ y.count in
    same_list (worths h ids v) (cond b (worths g xs v) (worths g ys v))
    (long ∙ a.count ∙ e ∙ sym (cond_length b (worths g xs v) (worths g ys v) (length names) longx longy))
    (λ k l.
    let here : k < n = omega (arith, l, long, a.count) in
    worths-at h ids v k (omega (arith, l, long)) ∙ a.value k here v
    ∙ ap (λ t. cond b t (val (tree g (id_at ys k)) v)) (sym (worths-at g xs v k (omega (arith, here, e, x.count))))
    ∙ ap (λ t. cond b (get_or (worths g xs v) k (number 0)) t) (sym (worths-at g ys v k (omega (arith, here, e, y.count))))
    ∙ sym (cond_at b (worths g xs v) (worths g ys v) k))

pub worths_names : {g h : Graph} (names : Entries Sort) (ids : List TermId) (v : Valuation) → IsExtended g h → AreLeaves g names ids → worths h ids v ≡ worths g ids v
worths_names names ids v e a = worths_kept ids v e (λ k l. a.below k (omega (arith, l, a.count)))
