-- Terms that are worth the same where all fixes hold.
use Rattle.std.proofs.Common.{◌≡◌, ℕ, zero, suc, ◌+◌, ◌<◌, ◌≤◌, cond, List, [], ◌∷◌, ◌++◌, length, length-append, get_or, set, refl, sym, ap, ◌∙◌, subst, arith, inl, inr}
use Rattle.std.specs.Prelude.{IsSome, ⊤, slice_set, slice_index}
use Rattle.std.proofs.lemmas.Bool.{cases_eq, cases_lt}
use Rattle.std.proofs.lemmas.List.{get_or-set_same, get_or-set_other, get_or_append_left, get_or_at}
use Rattle.std.proofs.Math.ListN.{length-set}
use Rattle.wb_values.specs.Value.{truth, truth_value, number, words, as_truth, as_number, as_words, Valuation}
use Rattle.wb_values.specs.Number.{word_neg, word_add, word_sub, word_mul, word_shl, word_lshr, word_ashr, word_ult, word_ule, word_slt, word_sle, word_concat, word_extract, word_zext, word_sext}
use Rattle.model_meaning.specs.Term.{Term, bits_sort, same_bits_sort, word_sort, same_word_sort, compared, concat_sort, extract_sort, extended_sort, ite_sort, load_sort, store_sort, sort_of, width_of_sort, complement, conjunction, disjunction, exclusive_or, is_equal, val}
use Rattle.wb_terms.specs.declared.nodes.TermId.{TermId}
use Rattle.wb_terms.specs.declared.nodes.Node.{Node}
use Rattle.wb_terms.specs.declared.nodes.Node.TheVariants.{Name as NameNode, Truth, Const, Not, And, Or, Xor, Neg, Add, Sub, Mul, Shl, Lshr, Ashr, Eq, Ult, Ule, Slt, Sle, Concat, Extract, Zext, Sext, Ite, Load, Store}
use Rattle.wb_terms.specs.Graph.{Graph, IsOver, tree, tree_of_node, AllBelow, operands_of, names_of}
use Rattle.term_copies.specs.Copies.{IsExtended, id_at, over_copies}
use Rattle.term_copies.proofs.Extending.{tree_kept, count_grows}
use Rattle.run_terms.specs.Names.{FitsNames}
use Rattle.run_terms.proofs.Values.{fits_before}
use Rattle.condition_terms.specs.Told.{is_true}
use Rattle.condition_terms.proofs.Forming.{IsTermOf-kept}
use Rattle.fixed_terms.specs.declared.fixes.Fix.{Fix}
use Rattle.fixed_terms.specs.Fixed.{Follows, AllFollow, IsConstant, Holds, IsFix, AreFixes, AllHold, IsSame, AreSame, AreOwn}

-- The terms have one sort, and one value where this holds.
pub record IsLike (P : Valuation → Type 0) (x y : Term) : Type 0 where
  pub sort : sort_of x ≡ sort_of y
  pub value : (v : Valuation) → P v → val x v ≡ val y v

-- each of these terms is worth what stands at its place
abbrev pub HaveSame : Graph → List Fix → (ids : List TermId) → List ℕ → Type 0
HaveSame g fs ids [] = ⊤
HaveSame g fs ids (k ∷ ks) = IsSame g fs (id_at ids k) k × HaveSame g fs ids ks

pub have_same : (g : Graph) (fs : List Fix) (ids : List TermId) (n : ℕ) (ks : List ℕ) → AreSame g fs ids → n ≤ length ids → AllBelow n ks → HaveSame g fs ids ks
have_same g fs ids n [] a l b = tt
have_same g fs ids n (k ∷ ks) a l b = (a.same k (omega (arith, b.0, l)), have_same g fs ids n ks a l b.1)

pub all_below_more : (n m : ℕ) (ks : List ℕ) → n ≤ m → AllBelow n ks → AllBelow m ks
all_below_more n m [] l h = tt
all_below_more n m (k ∷ ks) l h = (omega (arith, h.0, l), all_below_more n m ks l h.1)

pub over_like : (g : Graph) (fs : List Fix) (ids : List TermId) (n : Node) → HaveSame g fs ids (operands_of n)
    → IsLike (λ v. FitsNames g.names v × AllHold g fs v) (tree_of_node g (over_copies ids n)) (tree_of_node g n)
over_like g fs ids (NameNode n) h = record { sort = refl; value = λ v a. refl }
over_like g fs ids (Truth b) h = record { sort = refl; value = λ v a. refl }
over_like g fs ids (Const w x) h = record { sort = refl; value = λ v a. refl }
over_like g fs ids (Not x) h =
    record { sort = λ i. bits_sort (h.0.sort i); value = λ v a i. complement (width_of_sort (h.0.sort i)) (h.0.value v a.0 a.1 i) }
over_like g fs ids (Neg x) h =
    record { sort = λ i. word_sort (h.0.sort i); value = λ v a i. number (word_neg (width_of_sort (h.0.sort i)) (as_number (h.0.value v a.0 a.1 i))) }
over_like g fs ids (And x y) h =
    record { sort = λ i. same_bits_sort (h.0.sort i) (h.1.0.sort i); value = λ v a i. conjunction (h.0.value v a.0 a.1 i) (h.1.0.value v a.0 a.1 i) }
over_like g fs ids (Or x y) h =
    record { sort = λ i. same_bits_sort (h.0.sort i) (h.1.0.sort i); value = λ v a i. disjunction (h.0.value v a.0 a.1 i) (h.1.0.value v a.0 a.1 i) }
over_like g fs ids (Xor x y) h =
    record { sort = λ i. same_bits_sort (h.0.sort i) (h.1.0.sort i); value = λ v a i. exclusive_or (h.0.value v a.0 a.1 i) (h.1.0.value v a.0 a.1 i) }
over_like g fs ids (Add x y) h =
    record {
      sort = λ i. same_word_sort (h.0.sort i) (h.1.0.sort i);
      value = λ v a i. number (word_add (width_of_sort (h.0.sort i)) (as_number (h.0.value v a.0 a.1 i)) (as_number (h.1.0.value v a.0 a.1 i)));
    }
over_like g fs ids (Sub x y) h =
    record {
      sort = λ i. same_word_sort (h.0.sort i) (h.1.0.sort i);
      value = λ v a i. number (word_sub (width_of_sort (h.0.sort i)) (as_number (h.0.value v a.0 a.1 i)) (as_number (h.1.0.value v a.0 a.1 i)));
    }
over_like g fs ids (Mul x y) h =
    record {
      sort = λ i. same_word_sort (h.0.sort i) (h.1.0.sort i);
      value = λ v a i. number (word_mul (width_of_sort (h.0.sort i)) (as_number (h.0.value v a.0 a.1 i)) (as_number (h.1.0.value v a.0 a.1 i)));
    }
over_like g fs ids (Shl x y) h =
    record {
      sort = λ i. same_word_sort (h.0.sort i) (h.1.0.sort i);
      value = λ v a i. number (word_shl (width_of_sort (h.0.sort i)) (as_number (h.0.value v a.0 a.1 i)) (as_number (h.1.0.value v a.0 a.1 i)));
    }
over_like g fs ids (Lshr x y) h =
    record {
      sort = λ i. same_word_sort (h.0.sort i) (h.1.0.sort i);
      value = λ v a i. number (word_lshr (width_of_sort (h.0.sort i)) (as_number (h.0.value v a.0 a.1 i)) (as_number (h.1.0.value v a.0 a.1 i)));
    }
over_like g fs ids (Ashr x y) h =
    record {
      sort = λ i. same_word_sort (h.0.sort i) (h.1.0.sort i);
      value = λ v a i. number (word_ashr (width_of_sort (h.0.sort i)) (as_number (h.0.value v a.0 a.1 i)) (as_number (h.1.0.value v a.0 a.1 i)));
    }
over_like g fs ids (Eq x y) h =
    record {
      sort = λ i. compared (same_bits_sort (h.0.sort i) (h.1.0.sort i));
      value = λ v a i. truth_value (is_equal (h.0.value v a.0 a.1 i) (h.1.0.value v a.0 a.1 i));
    }
over_like g fs ids (Ult x y) h =
    record {
      sort = λ i. compared (same_word_sort (h.0.sort i) (h.1.0.sort i));
      value = λ v a i. truth_value (word_ult (as_number (h.0.value v a.0 a.1 i)) (as_number (h.1.0.value v a.0 a.1 i)));
    }
over_like g fs ids (Ule x y) h =
    record {
      sort = λ i. compared (same_word_sort (h.0.sort i) (h.1.0.sort i));
      value = λ v a i. truth_value (word_ule (as_number (h.0.value v a.0 a.1 i)) (as_number (h.1.0.value v a.0 a.1 i)));
    }
over_like g fs ids (Slt x y) h =
    record {
      sort = λ i. compared (same_word_sort (h.0.sort i) (h.1.0.sort i));
      value = λ v a i. truth_value (word_slt (width_of_sort (h.0.sort i)) (as_number (h.0.value v a.0 a.1 i)) (as_number (h.1.0.value v a.0 a.1 i)));
    }
over_like g fs ids (Sle x y) h =
    record {
      sort = λ i. compared (same_word_sort (h.0.sort i) (h.1.0.sort i));
      value = λ v a i. truth_value (word_sle (width_of_sort (h.0.sort i)) (as_number (h.0.value v a.0 a.1 i)) (as_number (h.1.0.value v a.0 a.1 i)));
    }
over_like g fs ids (Concat x y) h =
    record {
      sort = λ i. concat_sort (h.0.sort i) (h.1.0.sort i);
      value = λ v a i. number (word_concat (width_of_sort (h.1.0.sort i)) (as_number (h.0.value v a.0 a.1 i)) (as_number (h.1.0.value v a.0 a.1 i)));
    }
over_like g fs ids (Extract j k x) h =
    record { sort = λ i. extract_sort j k (h.0.sort i); value = λ v a i. number (word_extract j k (as_number (h.0.value v a.0 a.1 i))) }
over_like g fs ids (Zext k x) h =
    record { sort = λ i. extended_sort k (h.0.sort i); value = λ v a i. number (word_zext (as_number (h.0.value v a.0 a.1 i))) }
over_like g fs ids (Sext k x) h =
    record { sort = λ i. extended_sort k (h.0.sort i); value = λ v a i. number (word_sext k (width_of_sort (h.0.sort i)) (as_number (h.0.value v a.0 a.1 i))) }
over_like g fs ids (Ite c x y) h =
    record {
      sort = λ i. ite_sort (h.0.sort i) (h.1.0.sort i) (h.1.1.0.sort i);
      value = λ v a i. cond (as_truth (h.0.value v a.0 a.1 i)) (h.1.0.value v a.0 a.1 i) (h.1.1.0.value v a.0 a.1 i);
    }
over_like g fs ids (Load x y) h =
    record {
      sort = λ i. load_sort (h.0.sort i) (h.1.0.sort i);
      value = λ v a i. number (slice_index (as_words (h.0.value v a.0 a.1 i)) (as_number (h.1.0.value v a.0 a.1 i)));
    }
over_like g fs ids (Store x y z) h =
    record {
      sort = λ i. store_sort (h.0.sort i) (h.1.0.sort i) (h.1.1.0.sort i);
      value = λ v a i. words (slice_set (as_words (h.0.value v a.0 a.1 i)) (as_number (h.1.0.value v a.0 a.1 i)) (as_number (h.1.1.0.value v a.0 a.1 i)));
    }

pub operands_below : (g : Graph) (fs : List Fix) (ids : List TermId) (n : Node) → HaveSame g fs ids (operands_of n)
    → AllBelow (length g.nodes) (operands_of (over_copies ids n))
operands_below g fs ids (NameNode n) h = tt
operands_below g fs ids (Truth b) h = tt
operands_below g fs ids (Const w x) h = tt
operands_below g fs ids (Not x) h = (h.0.below, tt)
operands_below g fs ids (Neg x) h = (h.0.below, tt)
operands_below g fs ids (And x y) h = (h.0.below, (h.1.0.below, tt))
operands_below g fs ids (Or x y) h = (h.0.below, (h.1.0.below, tt))
operands_below g fs ids (Xor x y) h = (h.0.below, (h.1.0.below, tt))
operands_below g fs ids (Add x y) h = (h.0.below, (h.1.0.below, tt))
operands_below g fs ids (Sub x y) h = (h.0.below, (h.1.0.below, tt))
operands_below g fs ids (Mul x y) h = (h.0.below, (h.1.0.below, tt))
operands_below g fs ids (Shl x y) h = (h.0.below, (h.1.0.below, tt))
operands_below g fs ids (Lshr x y) h = (h.0.below, (h.1.0.below, tt))
operands_below g fs ids (Ashr x y) h = (h.0.below, (h.1.0.below, tt))
operands_below g fs ids (Eq x y) h = (h.0.below, (h.1.0.below, tt))
operands_below g fs ids (Ult x y) h = (h.0.below, (h.1.0.below, tt))
operands_below g fs ids (Ule x y) h = (h.0.below, (h.1.0.below, tt))
operands_below g fs ids (Slt x y) h = (h.0.below, (h.1.0.below, tt))
operands_below g fs ids (Sle x y) h = (h.0.below, (h.1.0.below, tt))
operands_below g fs ids (Concat x y) h = (h.0.below, (h.1.0.below, tt))
operands_below g fs ids (Extract j k x) h = (h.0.below, tt)
operands_below g fs ids (Zext k x) h = (h.0.below, tt)
operands_below g fs ids (Sext k x) h = (h.0.below, tt)
operands_below g fs ids (Ite c x y) h = (h.0.below, (h.1.0.below, (h.1.1.0.below, tt)))
operands_below g fs ids (Load m i) h = (h.0.below, (h.1.0.below, tt))
operands_below g fs ids (Store m i x) h = (h.0.below, (h.1.0.below, (h.1.1.0.below, tt)))

no_names : (ids : List TermId) (n : Node) (count : ℕ) → AllBelow count (names_of n) → AllBelow count (names_of (over_copies ids n))
no_names ids (NameNode n) count l = l
no_names ids (Truth b) count l = tt
no_names ids (Const w x) count l = tt
no_names ids (Not x) count l = tt
no_names ids (Neg x) count l = tt
no_names ids (And x y) count l = tt
no_names ids (Or x y) count l = tt
no_names ids (Xor x y) count l = tt
no_names ids (Add x y) count l = tt
no_names ids (Sub x y) count l = tt
no_names ids (Mul x y) count l = tt
no_names ids (Shl x y) count l = tt
no_names ids (Lshr x y) count l = tt
no_names ids (Ashr x y) count l = tt
no_names ids (Eq x y) count l = tt
no_names ids (Ult x y) count l = tt
no_names ids (Ule x y) count l = tt
no_names ids (Slt x y) count l = tt
no_names ids (Sle x y) count l = tt
no_names ids (Concat x y) count l = tt
no_names ids (Extract j k x) count l = tt
no_names ids (Zext k x) count l = tt
no_names ids (Sext k x) count l = tt
no_names ids (Ite c x y) count l = tt
no_names ids (Load m i) count l = tt
no_names ids (Store m i x) count l = tt

pub over_is_over : (g : Graph) (fs : List Fix) (ids : List TermId) (n : Node) (k : ℕ) → IsOver g k n → HaveSame g fs ids (operands_of n) → IsOver g (length g.nodes) (over_copies ids n)
over_is_over g fs ids n k o h = record { operands = operands_below g fs ids n h; names = no_names ids n (length g.names) o.names }

pub over_is_sorted : (g : Graph) (fs : List Fix) (ids : List TermId) (n : Node) (k : ℕ) → HaveSame g fs ids (operands_of n) → tree g k ≡ tree_of_node g n → IsSome (sort_of (tree g k))
    → IsSome (sort_of (tree_of_node g (over_copies ids n)))
over_is_sorted g fs ids n k h e s =
    let like = over_like g fs ids n h in
    subst IsSome (sym like.sort) (subst (λ (t : Term). IsSome (sort_of t)) e s)

-- ---- constants

pub constant_kept : (g h : Graph) (n : Node) → IsConstant n → tree_of_node h n ≡ tree_of_node g n
constant_kept g h (Truth b) c = refl
constant_kept g h (Const w x) c = refl
constant_kept g h _ c = absurd c

pub constant_over : (g : Graph) (count : ℕ) (n : Node) → IsConstant n → IsOver g count n
constant_over g count (Truth b) c = record { operands = tt; names = tt }
constant_over g count (Const w x) c = record { operands = tt; names = tt }
constant_over g count _ c = absurd c

-- ---- larger stores

true_kept : {g h : Graph} (k : ℕ) (v : Valuation) → IsExtended g h → k < length g.nodes → is_true h k v ≡ is_true g k v
true_kept k v a b = ap (λ (t : Term). as_truth (val t v)) (tree_kept k a b)

pub fix_kept : {g h : Graph} (f : Fix) → IsExtended g h → IsFix g f → IsFix h f
fix_kept {g} {h} f a x =
    let same : tree_of_node h f.value ≡ tree_of_node g f.value = constant_kept g h f.value x.fixed.constant in
    let e : tree h f.name.0 ≡ tree g f.name.0 = tree_kept f.name.0 a x.name in
    record {
      condition = IsTermOf-kept f.condition.0 truth a x.condition;
      name = omega (arith, x.name, count_grows a);
      fixed = record {
        constant = x.fixed.constant;
        sorted = subst (λ (t : Term). IsSome (sort_of t)) (sym same) x.fixed.sorted;
        sort = ap sort_of same ∙ (x.fixed.sort ∙ sym (ap sort_of e));
        worth = λ v fit p. ap (λ (t : Term). val t v) same ∙ (x.fixed.worth v (fits_before v a fit) (sym (true_kept f.condition.0 v a x.condition.below) ∙ p) ∙ sym (ap (λ (t : Term). val t v) e));
      };
    }

pub fixes_kept : {g h : Graph} (fs : List Fix) → IsExtended g h → AreFixes g fs → AreFixes h fs
fixes_kept [] a x = tt
fixes_kept (f ∷ fs) a x = (fix_kept f a x.0, fixes_kept fs a x.1)

pub hold_before : {g h : Graph} (fs : List Fix) (v : Valuation) → IsExtended g h → AreFixes g fs → AllHold h fs v → AllHold g fs v
hold_before [] v a x h = tt
hold_before (f ∷ fs) v a x h = (sym (true_kept f.condition.0 v a x.0.condition.below) ∙ h.0, hold_before fs v a x.1 h.1)

pub same_kept : {g h : Graph} (fs : List Fix) (id k : ℕ) → IsExtended g h → AreFixes g fs → k < length g.nodes → IsSame g fs id k → IsSame h fs id k
same_kept {g} {h} fs id k a x b s =
    let e : tree h id ≡ tree g id = tree_kept id a s.below in
    let o : tree h k ≡ tree g k = tree_kept k a b in
    record {
      below = omega (arith, s.below, count_grows a);
      sort = ap sort_of e ∙ (s.sort ∙ sym (ap sort_of o));
      value = λ v fit p. ap (λ (t : Term). val t v) e ∙ (s.value v (fits_before v a fit) (hold_before fs v a x p) ∙ sym (ap (λ (t : Term). val t v) o));
    }

pub are_same_kept : {g h : Graph} (fs : List Fix) (ids : List TermId) → IsExtended g h → AreFixes g fs → AreSame g fs ids → AreSame h fs ids
are_same_kept {g} {h} fs ids a x s =
    let room = s.room in
    record {
      room = omega (arith, room, count_grows a);
      same = λ k b. same_kept fs (id_at ids k) k a x (omega (arith, b, room)) (s.same k b);
    }

-- ---- tables

set_id : (ids : List TermId) (k : ℕ) (id : TermId) → k < length ids → id_at (set ids k id) k ≡ id.0
set_id ids k id b = ap (λ (x : TermId). x.0) (get_or-set_same ids k id (record { 0 = 0 }) b)

other_id : (ids : List TermId) (k j : ℕ) (id : TermId) → ¬ (k ≡ j) → id_at (set ids k id) j ≡ id_at ids j
other_id ids k j id ne = ap (λ (x : TermId). x.0) (get_or-set_other ids k j id (record { 0 = 0 }) (λ e. ne (sym e)))

pub same_set : (g : Graph) (fs : List Fix) (ids : List TermId) (k : ℕ) (id : TermId) → k < length ids → IsSame g fs id.0 k → AreSame g fs ids → AreSame g fs (set ids k id)
same_set g fs ids k id l s a =
    let long : length (set ids k id) ≡ length ids = length-set ids k id in
    record {
      room = omega (arith, long, a.room);
      same = λ j b. elim (cases_eq k j) [
        | inl q ↦ subst (λ i. IsSame g fs (id_at (set ids k id) i) i) q (subst (λ i. IsSame g fs i k) (sym (set_id ids k id l)) s)
        | inr ne ↦ subst (λ i. IsSame g fs i j) (sym (other_id ids k j id ne)) (a.same j (omega (arith, b, long)))
      ];
    }

pub own_same : (g : Graph) (fs : List Fix) (ids : List TermId) → AreOwn (length g.nodes) ids → AreSame g fs ids
own_same g fs ids o =
    let room = o.room in
    record {
      room = omega (arith, room);
      same = λ k b. let l : k < length g.nodes = omega (arith, b, room) in
          subst (λ i. IsSame g fs i k) (sym (o.own k l)) (record { below = l; sort = refl; value = λ v f h. refl });
    }

pub same_own : (g : Graph) (fs : List Fix) (k : ℕ) → k < length g.nodes → IsSame g fs k k
same_own g fs k l = record { below = l; sort = refl; value = λ v f h. refl }

pub own_none : AreOwn 0 []
own_none = record { room = refl; own = λ k b. absurd (omega (arith, b)) }

pub own_more : (ids : List TermId) (n : ℕ) (id : TermId) → id.0 ≡ n → AreOwn n ids → AreOwn (n + 1) (ids ++ id ∷ [])
own_more ids n id z a =
    record {
      room = omega (arith, length-append ids (id ∷ []), a.room);
      own = λ k b. elim (cases_lt k n) [
        | inl m ↦ ap (λ (x : TermId). x.0) (get_or_append_left ids (id ∷ []) (record { 0 = 0 }) k (omega (arith, m, a.room))) ∙ a.own k m
        | inr m ↦
            let e : n ≡ k = omega (arith, b, m) in
            ap (λ (x : TermId). x.0) (get_or_at ids id [] (record { 0 = 0 }) k (a.room ∙ e)) ∙ (z ∙ e)
      ];
    }

-- ---- new terms

-- a term that was put over what stands at the places of its operands
pub same_over : (g h : Graph) (fs : List Fix) (ids : List TermId) (n : Node) (id k : ℕ) → IsExtended g h → AreFixes g fs → HaveSame g fs ids (operands_of n) → k < length g.nodes → tree g k ≡ tree_of_node g n
    → id < length h.nodes → tree h id ≡ tree_of_node g (over_copies ids n) → IsSame h fs id k
same_over g h fs ids n id k a x s b e l t =
    let like = over_like g fs ids n s in
    let o : tree h k ≡ tree_of_node g n = tree_kept k a b ∙ e in
    record {
      below = l;
      sort = ap sort_of t ∙ (like.sort ∙ sym (ap sort_of o));
      value = λ v fit p. ap (λ (u : Term). val u v) t ∙ (like.value v (fits_before v a fit, hold_before fs v a x p) ∙ sym (ap (λ (u : Term). val u v) o));
    }

pub fix_at : (g : Graph) (fs : List Fix) (k : ℕ) (d : Fix) → AreFixes g fs → k < length fs → IsFix g (get_or fs k d)
fix_at g [] k d x l = absurd (omega (arith, l))
fix_at g (f ∷ fs) zero d x l = x.0
fix_at g (f ∷ fs) (suc k) d x l = fix_at g fs k d x.1 (omega (arith, l))

pub hold_at : (g : Graph) (fs : List Fix) (k : ℕ) (d : Fix) (v : Valuation) → AllHold g fs v → k < length fs → Holds g (get_or fs k d) v
hold_at g [] k d v h l = absurd (omega (arith, l))
hold_at g (f ∷ fs) zero d v h l = h.0
hold_at g (f ∷ fs) (suc k) d v h l = hold_at g fs k d v h.1 (omega (arith, l))

-- the value of a fix stands for its name
pub same_value : (g h : Graph) (fs : List Fix) (k : ℕ) (d : Fix) (f : Fix) (id : ℕ) → f ≡ get_or fs k d → IsExtended g h → AreFixes g fs → k < length fs → id < length h.nodes → tree h id ≡ tree_of_node g f.value
    → IsSame h fs id f.name.0
same_value g h fs k d f id is a x l b t =
    let fix : IsFix g f = subst (IsFix g) (sym is) (fix_at g fs k d x l) in
    let o : tree h f.name.0 ≡ tree g f.name.0 = tree_kept f.name.0 a fix.name in
    record {
      below = b;
      sort = ap sort_of t ∙ (fix.fixed.sort ∙ sym (ap sort_of o));
      value = λ v fit p.
          let holds : Holds g f v = subst (λ (q : Fix). Holds g q v) (sym is) (hold_at g fs k d v (hold_before fs v a x p) l) in
          ap (λ (u : Term). val u v) t ∙ (fix.fixed.worth v (fits_before v a fit) holds ∙ sym (ap (λ (u : Term). val u v) o));
    }

-- ---- lists of fixes

pub fixes_push : (g : Graph) (fs : List Fix) (f : Fix) → AreFixes g fs → IsFix g f → AreFixes g (fs ++ f ∷ [])
fixes_push g [] f x h = (h, tt)
fixes_push g (e ∷ fs) f x h = (x.0, fixes_push g fs f x.1 h)

pub follow_push : (g : Graph) (id : ℕ) (fs : List Fix) (f : Fix) → AllFollow g id fs → Follows g id f.condition.0 f.holds → AllFollow g id (fs ++ f ∷ [])
follow_push g id [] f x h = (h, tt)
follow_push g id (e ∷ fs) f x h = (x.0, follow_push g id fs f x.1 h)
