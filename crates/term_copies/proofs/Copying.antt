-- A node over copies of its operands is a copy of the node.
use Rattle.std.proofs.Common.{◌≡◌, ℕ, suc, ◌+◌, ◌<◌, ◌≤◌, Bool, false, true, cond, List, [], ◌∷◌, ◌++◌, length, get_or, Option, Some, None, refl, sym, ap, ◌∙◌, subst, arith, length-append, inl, inr}
use Rattle.std.specs.Prelude.{IsSome, ⊤, slice_set, slice_index}
use Rattle.std.proofs.lemmas.Bool.{false≢true, cases_lt}
use Rattle.std.proofs.lemmas.List.{get_or_append_left, get_or_at}
use Rattle.wb_values.specs.Value.{Name, Sort, Value, truth_value, number, words, as_truth, as_number, as_words, Valuation, Entries}
use Rattle.wb_values.specs.Number.{word_neg, word_add, word_sub, word_mul, word_shl, word_lshr, word_ashr, word_ult, word_ule, word_slt, word_sle, word_concat, word_extract, word_zext, word_sext}
use Rattle.model_meaning.specs.Term.{Term, name, bits_sort, same_bits_sort, word_sort, same_word_sort, compared, concat_sort, extract_sort, extended_sort, ite_sort, load_sort, store_sort, is_sort, sort_of, width_of_sort, complement, conjunction, disjunction, exclusive_or, is_equal, val}
use Rattle.wb_terms.specs.declared.nodes.NameId.{NameId}
use Rattle.wb_terms.specs.declared.nodes.TermId.{TermId}
use Rattle.wb_terms.specs.declared.nodes.Node.{Node}
use Rattle.wb_terms.specs.declared.nodes.Node.TheVariants.{Name as NameNode, Truth, Const, Not, And, Or, Xor, Neg, Add, Sub, Mul, Shl, Lshr, Ashr, Eq, Ult, Ule, Slt, Sle, Concat, Extract, Zext, Sext, Ite, Load, Store}
use Rattle.wb_terms.specs.Graph.{Graph, IsOver, tree, tree_of_node, with_node, AllBelow, operands_of, names_of}
use Rattle.term_copies.specs.Copies.{IsExtended, id_at, declared_at, AreLeaves, GiveValues, IsCopy, AreCopiesOf, over_copies, leaf_name}
use Rattle.term_copies.proofs.Extending.{tree_kept, count_grows, last_tree, last_below, extended_by}

-- The first term has the sort of the second, and is worth under v what that is worth under u, wherever the two are related.
pub record IsLike (A : Valuation → Valuation → Type 0) (x y : Term) : Type 0 where
  pub sort : sort_of x ≡ sort_of y
  pub value : (v u : Valuation) → A v u → val x v ≡ val y u

abbrev is_leaf : Option NameId → Bool
is_leaf (Some n) = true
is_leaf None = false

-- each of these terms of the source has its copy
abbrev pub HaveCopies : (g source : Graph) (leaves ids : List TermId) → List ℕ → Type 0
HaveCopies g source leaves ids [] = ⊤
HaveCopies g source leaves ids (k ∷ ks) = IsCopy g source leaves (id_at ids k) k × HaveCopies g source leaves ids ks

pub have_copies : (g source : Graph) (leaves ids : List TermId) (n : ℕ) (ks : List ℕ) → AreCopiesOf n g source leaves ids → AllBelow n ks → HaveCopies g source leaves ids ks
have_copies g source leaves ids n [] c b = tt
have_copies g source leaves ids n (k ∷ ks) c b = (c.copy k b.0, have_copies g source leaves ids n ks c b.1)

like_copy : (g source : Graph) (leaves : List TermId) (id k : ℕ) → IsCopy g source leaves id k → IsLike (GiveValues g source.names leaves) (tree g id) (tree source k)
like_copy g source leaves id k c = record { sort = c.sort; value = c.value }

pub over_like : (g source : Graph) (leaves ids : List TermId) (n : Node) → leaf_name n ≡ None → HaveCopies g source leaves ids (operands_of n)
    → IsLike (GiveValues g source.names leaves) (tree_of_node g (over_copies ids n)) (tree_of_node source n)
over_like g source leaves ids (NameNode n) l h = absurd (false≢true (sym (ap is_leaf l)))
over_like g source leaves ids (Truth b) l h = record { sort = refl; value = λ v u a. refl }
over_like g source leaves ids (Const w x) l h = record { sort = refl; value = λ v u a. refl }
over_like g source leaves ids (Not x) l h =
    record { sort = λ i. bits_sort (h.0.sort i); value = λ v u a i. complement (width_of_sort (h.0.sort i)) (h.0.value v u a i) }
over_like g source leaves ids (Neg x) l h =
    record { sort = λ i. word_sort (h.0.sort i); value = λ v u a i. number (word_neg (width_of_sort (h.0.sort i)) (as_number (h.0.value v u a i))) }
over_like g source leaves ids (And x y) l h =
    record { sort = λ i. same_bits_sort (h.0.sort i) (h.1.0.sort i); value = λ v u a i. conjunction (h.0.value v u a i) (h.1.0.value v u a i) }
over_like g source leaves ids (Or x y) l h =
    record { sort = λ i. same_bits_sort (h.0.sort i) (h.1.0.sort i); value = λ v u a i. disjunction (h.0.value v u a i) (h.1.0.value v u a i) }
over_like g source leaves ids (Xor x y) l h =
    record { sort = λ i. same_bits_sort (h.0.sort i) (h.1.0.sort i); value = λ v u a i. exclusive_or (h.0.value v u a i) (h.1.0.value v u a i) }
over_like g source leaves ids (Add x y) l h =
    record {
      sort = λ i. same_word_sort (h.0.sort i) (h.1.0.sort i);
      value = λ v u a i. number (word_add (width_of_sort (h.0.sort i)) (as_number (h.0.value v u a i)) (as_number (h.1.0.value v u a i)));
    }
over_like g source leaves ids (Sub x y) l h =
    record {
      sort = λ i. same_word_sort (h.0.sort i) (h.1.0.sort i);
      value = λ v u a i. number (word_sub (width_of_sort (h.0.sort i)) (as_number (h.0.value v u a i)) (as_number (h.1.0.value v u a i)));
    }
over_like g source leaves ids (Mul x y) l h =
    record {
      sort = λ i. same_word_sort (h.0.sort i) (h.1.0.sort i);
      value = λ v u a i. number (word_mul (width_of_sort (h.0.sort i)) (as_number (h.0.value v u a i)) (as_number (h.1.0.value v u a i)));
    }
over_like g source leaves ids (Shl x y) l h =
    record {
      sort = λ i. same_word_sort (h.0.sort i) (h.1.0.sort i);
      value = λ v u a i. number (word_shl (width_of_sort (h.0.sort i)) (as_number (h.0.value v u a i)) (as_number (h.1.0.value v u a i)));
    }
over_like g source leaves ids (Lshr x y) l h =
    record {
      sort = λ i. same_word_sort (h.0.sort i) (h.1.0.sort i);
      value = λ v u a i. number (word_lshr (width_of_sort (h.0.sort i)) (as_number (h.0.value v u a i)) (as_number (h.1.0.value v u a i)));
    }
over_like g source leaves ids (Ashr x y) l h =
    record {
      sort = λ i. same_word_sort (h.0.sort i) (h.1.0.sort i);
      value = λ v u a i. number (word_ashr (width_of_sort (h.0.sort i)) (as_number (h.0.value v u a i)) (as_number (h.1.0.value v u a i)));
    }
over_like g source leaves ids (Eq x y) l h =
    record {
      sort = λ i. compared (same_bits_sort (h.0.sort i) (h.1.0.sort i));
      value = λ v u a i. truth_value (is_equal (h.0.value v u a i) (h.1.0.value v u a i));
    }
over_like g source leaves ids (Ult x y) l h =
    record {
      sort = λ i. compared (same_word_sort (h.0.sort i) (h.1.0.sort i));
      value = λ v u a i. truth_value (word_ult (as_number (h.0.value v u a i)) (as_number (h.1.0.value v u a i)));
    }
over_like g source leaves ids (Ule x y) l h =
    record {
      sort = λ i. compared (same_word_sort (h.0.sort i) (h.1.0.sort i));
      value = λ v u a i. truth_value (word_ule (as_number (h.0.value v u a i)) (as_number (h.1.0.value v u a i)));
    }
over_like g source leaves ids (Slt x y) l h =
    record {
      sort = λ i. compared (same_word_sort (h.0.sort i) (h.1.0.sort i));
      value = λ v u a i. truth_value (word_slt (width_of_sort (h.0.sort i)) (as_number (h.0.value v u a i)) (as_number (h.1.0.value v u a i)));
    }
over_like g source leaves ids (Sle x y) l h =
    record {
      sort = λ i. compared (same_word_sort (h.0.sort i) (h.1.0.sort i));
      value = λ v u a i. truth_value (word_sle (width_of_sort (h.0.sort i)) (as_number (h.0.value v u a i)) (as_number (h.1.0.value v u a i)));
    }
over_like g source leaves ids (Concat x y) l h =
    record {
      sort = λ i. concat_sort (h.0.sort i) (h.1.0.sort i);
      value = λ v u a i. number (word_concat (width_of_sort (h.1.0.sort i)) (as_number (h.0.value v u a i)) (as_number (h.1.0.value v u a i)));
    }
over_like g source leaves ids (Extract j k x) l h =
    record { sort = λ i. extract_sort j k (h.0.sort i); value = λ v u a i. number (word_extract j k (as_number (h.0.value v u a i))) }
over_like g source leaves ids (Zext k x) l h =
    record { sort = λ i. extended_sort k (h.0.sort i); value = λ v u a i. number (word_zext (as_number (h.0.value v u a i))) }
over_like g source leaves ids (Sext k x) l h =
    record { sort = λ i. extended_sort k (h.0.sort i); value = λ v u a i. number (word_sext k (width_of_sort (h.0.sort i)) (as_number (h.0.value v u a i))) }
over_like g source leaves ids (Ite c x y) l h =
    record {
      sort = λ i. ite_sort (h.0.sort i) (h.1.0.sort i) (h.1.1.0.sort i);
      value = λ v u a i. cond (as_truth (h.0.value v u a i)) (h.1.0.value v u a i) (h.1.1.0.value v u a i);
    }
over_like g source leaves ids (Load x y) l h =
    record {
      sort = λ i. load_sort (h.0.sort i) (h.1.0.sort i);
      value = λ v u a i. number (slice_index (as_words (h.0.value v u a i)) (as_number (h.1.0.value v u a i)));
    }
over_like g source leaves ids (Store x y z) l h =
    record {
      sort = λ i. store_sort (h.0.sort i) (h.1.0.sort i) (h.1.1.0.sort i);
      value = λ v u a i. words (slice_set (as_words (h.0.value v u a i)) (as_number (h.1.0.value v u a i)) (as_number (h.1.1.0.value v u a i)));
    }

pub operands_below : (g source : Graph) (leaves ids : List TermId) (n : Node) → HaveCopies g source leaves ids (operands_of n)
    → AllBelow (length g.nodes) (operands_of (over_copies ids n))
operands_below g source leaves ids (NameNode n) h = tt
operands_below g source leaves ids (Truth b) h = tt
operands_below g source leaves ids (Const w x) h = tt
operands_below g source leaves ids (Not x) h = (h.0.below, tt)
operands_below g source leaves ids (Neg x) h = (h.0.below, tt)
operands_below g source leaves ids (And x y) h = (h.0.below, (h.1.0.below, tt))
operands_below g source leaves ids (Or x y) h = (h.0.below, (h.1.0.below, tt))
operands_below g source leaves ids (Xor x y) h = (h.0.below, (h.1.0.below, tt))
operands_below g source leaves ids (Add x y) h = (h.0.below, (h.1.0.below, tt))
operands_below g source leaves ids (Sub x y) h = (h.0.below, (h.1.0.below, tt))
operands_below g source leaves ids (Mul x y) h = (h.0.below, (h.1.0.below, tt))
operands_below g source leaves ids (Shl x y) h = (h.0.below, (h.1.0.below, tt))
operands_below g source leaves ids (Lshr x y) h = (h.0.below, (h.1.0.below, tt))
operands_below g source leaves ids (Ashr x y) h = (h.0.below, (h.1.0.below, tt))
operands_below g source leaves ids (Eq x y) h = (h.0.below, (h.1.0.below, tt))
operands_below g source leaves ids (Ult x y) h = (h.0.below, (h.1.0.below, tt))
operands_below g source leaves ids (Ule x y) h = (h.0.below, (h.1.0.below, tt))
operands_below g source leaves ids (Slt x y) h = (h.0.below, (h.1.0.below, tt))
operands_below g source leaves ids (Sle x y) h = (h.0.below, (h.1.0.below, tt))
operands_below g source leaves ids (Concat x y) h = (h.0.below, (h.1.0.below, tt))
operands_below g source leaves ids (Extract j k x) h = (h.0.below, tt)
operands_below g source leaves ids (Zext k x) h = (h.0.below, tt)
operands_below g source leaves ids (Sext k x) h = (h.0.below, tt)
operands_below g source leaves ids (Ite c x y) h = (h.0.below, (h.1.0.below, (h.1.1.0.below, tt)))
operands_below g source leaves ids (Load m i) h = (h.0.below, (h.1.0.below, tt))
operands_below g source leaves ids (Store m i x) h = (h.0.below, (h.1.0.below, (h.1.1.0.below, tt)))

no_names : (ids : List TermId) (n : Node) (count : ℕ) → leaf_name n ≡ None → AllBelow count (names_of (over_copies ids n))
no_names ids (NameNode n) count l = absurd (false≢true (sym (ap is_leaf l)))
no_names ids (Truth b) count l = tt
no_names ids (Const w x) count l = tt
no_names ids (Not x) count l = tt
no_names ids (Neg x) count l = tt
no_names ids (And x y) count l = tt
no_names ids (Or x y) count l = tt
no_names ids (Xor x y) count l = tt
no_names ids (Add x y) count l = tt
no_names ids (Sub x y) count l = tt
no_names ids (Mul x y) count l = tt
no_names ids (Shl x y) count l = tt
no_names ids (Lshr x y) count l = tt
no_names ids (Ashr x y) count l = tt
no_names ids (Eq x y) count l = tt
no_names ids (Ult x y) count l = tt
no_names ids (Ule x y) count l = tt
no_names ids (Slt x y) count l = tt
no_names ids (Sle x y) count l = tt
no_names ids (Concat x y) count l = tt
no_names ids (Extract j k x) count l = tt
no_names ids (Zext k x) count l = tt
no_names ids (Sext k x) count l = tt
no_names ids (Ite c x y) count l = tt
no_names ids (Load m i) count l = tt
no_names ids (Store m i x) count l = tt

pub over_is_over : (g source : Graph) (leaves ids : List TermId) (n : Node) → leaf_name n ≡ None → HaveCopies g source leaves ids (operands_of n)
    → IsOver g (length g.nodes) (over_copies ids n)
over_is_over g source leaves ids n l h = record { operands = operands_below g source leaves ids n h; names = no_names ids n (length g.names) l }

pub over_is_sorted : (g source : Graph) (leaves ids : List TermId) (n : Node) (k : ℕ) → leaf_name n ≡ None → HaveCopies g source leaves ids (operands_of n)
    → tree source k ≡ tree_of_node source n → IsSome (sort_of (tree source k)) → IsSome (sort_of (tree_of_node g (over_copies ids n)))
over_is_sorted g source leaves ids n k l h e s =
    let like = over_like g source leaves ids n l h in
    subst IsSome (sym like.sort) (subst (λ (t : Term). IsSome (sort_of t)) e s)

-- ---- stores that grow

-- values that the leaves give in a larger store they give in the smaller one
pub given_before : {g h : Graph} (names : Entries Sort) (leaves : List TermId) (v u : Valuation) → IsExtended g h → AreLeaves g names leaves
    → GiveValues h names leaves v u → GiveValues g names leaves v u
given_before names leaves v u a l given j b =
    sym (ap (λ (t : Term). val t v) (tree_kept (id_at leaves j) a (l.below j b))) ∙ given j b

pub leaves_kept : {g h : Graph} (names : Entries Sort) (leaves : List TermId) → IsExtended g h → AreLeaves g names leaves → AreLeaves h names leaves
leaves_kept names leaves a l =
    record {
      count = l.count;
      below = λ j b. omega (arith, l.below j b, count_grows a);
      sort = λ j b. ap sort_of (tree_kept (id_at leaves j) a (l.below j b)) ∙ l.sort j b;
    }

pub copy_kept : {g h : Graph} (source : Graph) (leaves : List TermId) (id k : ℕ) → IsExtended g h → AreLeaves g source.names leaves
    → IsCopy g source leaves id k → IsCopy h source leaves id k
copy_kept {g} {h} source leaves id k a l c =
    let e : tree h id ≡ tree g id = tree_kept id a c.below in
    record {
      below = omega (arith, c.below, count_grows a);
      sort = ap sort_of e ∙ c.sort;
      value = λ v u given. ap (λ (t : Term). val t v) e ∙ c.value v u (given_before source.names leaves v u a l given);
    }

-- the copy of a node that was put over copies
pub put_is_copy : (g h source : Graph) (leaves ids : List TermId) (n : Node) (id k : ℕ) → leaf_name n ≡ None → HaveCopies g source leaves ids (operands_of n)
    → AreLeaves g source.names leaves → tree source k ≡ tree_of_node source n → id ≡ length g.nodes → h ≡ with_node g (over_copies ids n)
    → IsCopy h source leaves id k
put_is_copy g h source leaves ids n id k l c leaf e i w =
    let like = over_like g source leaves ids n l c in
    let m : Node = over_copies ids n in
    let last : tree h id ≡ tree_of_node g m = last_tree g h m id i w in
    record {
      below = last_below g h m id i w;
      sort = ap sort_of last ∙ (like.sort ∙ ap sort_of (sym e));
      value = λ v u given. ap (λ (t : Term). val t v) last
          ∙ (like.value v u (given_before source.names leaves v u (extended_by m w) leaf given) ∙ ap (λ (t : Term). val t u) (sym e));
    }

abbrev taken : Option NameId → NameId → NameId
taken (Some z) d = z
taken None d = d

chosen : (c : Bool) (t : Sort) → IsSome (cond c (Some t) None) → cond c (Some t) None ≡ Some t
chosen true t h = refl
chosen false t h = absurd (false≢true h)

-- the copy of a name is its leaf
pub leaf_is_copy : (g source : Graph) (leaves : List TermId) (n : Node) (leaf_of : NameId) (id k : ℕ) → leaf_name n ≡ Some leaf_of → AreLeaves g source.names leaves
    → AllBelow (length source.names) (names_of n) → tree source k ≡ tree_of_node source n → IsSome (sort_of (tree source k)) → id ≡ id_at leaves leaf_of.0
    → IsCopy g source leaves id k
leaf_is_copy g source leaves (NameNode m) leaf_of id k l leaf b e s i =
    let same : m ≡ leaf_of = ap (λ o. taken o m) l in
    let at : id ≡ id_at leaves m.0 = i ∙ ap (λ (x : NameId). id_at leaves x.0) (sym same) in
    record {
      below = subst (λ j. j < length g.nodes) (sym at) (leaf.below m.0 b.0);
      sort = ap (λ j. sort_of (tree g j)) at ∙ (leaf.sort m.0 b.0 ∙ (sym (chosen (is_sort (declared_at source.names m.0).1) (declared_at source.names m.0).1 (subst (λ (t : Term). IsSome (sort_of t)) e s)) ∙ ap sort_of (sym e)));
      value = λ v u given. ap (λ j. val (tree g j) v) at ∙ (given m.0 b.0 ∙ ap (λ (t : Term). val t u) (sym e));
    }
leaf_is_copy g source leaves _ leaf_of id k l leaf b e s i = absurd (false≢true (ap is_leaf l))

-- ---- lists of copies

pub no_copies : (g source : Graph) (leaves : List TermId) → AreCopiesOf 0 g source leaves []
no_copies g source leaves = record { count = refl; copy = λ k b. absurd (omega (arith, b)) }

pub copies_more : (g h source : Graph) (leaves ids : List TermId) (n : ℕ) (id : TermId) → IsExtended g h → AreLeaves g source.names leaves → AreCopiesOf n g source leaves ids
    → IsCopy h source leaves id.0 n → AreCopiesOf (n + 1) h source leaves (ids ++ id ∷ [])
copies_more g h source leaves ids n id a l c new =
    record {
      count = omega (arith, length-append ids (id ∷ []), c.count);
      copy = λ k b. elim (cases_lt k n) as (λ _. IsCopy h source leaves (id_at (ids ++ id ∷ []) k) k) [
        | inl m ↦ (let e : id_at (ids ++ id ∷ []) k ≡ id_at ids k = ap (λ (x : TermId). x.0) (get_or_append_left ids (id ∷ []) (record { 0 = 0 }) k (omega (arith, m, c.count))) in
            subst (λ j. IsCopy h source leaves j k) (sym e) (copy_kept source leaves (id_at ids k) k a l (c.copy k m)))
        | inr m ↦ (let e : n ≡ k = omega (arith, b, m) in
            let at : id_at (ids ++ id ∷ []) k ≡ id.0 = ap (λ (x : TermId). x.0) (get_or_at ids id [] (record { 0 = 0 }) k (c.count ∙ e)) in
            subst (λ j. IsCopy h source leaves j k) (sym at) (subst (λ j. IsCopy h source leaves id.0 j) e new))
      ];
    }
