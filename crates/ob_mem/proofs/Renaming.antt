-- A term over the images of its operands has the sort and the value of the term over the operands.
use Rattle.std.proofs.Common.{◌≡◌, ℕ, zero, suc, ◌+◌, ◌<◌, ◌≤◌, ◌^◌, Bool, true, false, cond, ◌&&◌, List, [], ◌∷◌, ◌++◌, length, get_or, Option, Some, None, IsTrue, refl, sym, ap, ◌∙◌, subst, arith}
use Rattle.std.specs.Prelude.{⊤, IsSome, is_some}
use Rattle.std.proofs.lemmas.Bool.{false≢true}
use Rattle.wb_values.specs.Value.{Name, Sort, truth, word, memory, Value, truth_value, number, as_truth, as_number, Valuation, HasSort, Entries}
use Rattle.wb_values.specs.Number.{word_neg, word_add, word_sub, word_mul, word_shl, word_lshr, word_ashr, word_ult, word_ule, word_slt, word_sle, word_concat, word_extract, word_zext, word_sext}
use Rattle.model_meaning.specs.Term.{Term, name, constant_truth, const, not, neg, and, or, xor, add, sub, mul, shl, lshr, ashr, eq, ult, ule, slt, sle, concat, extract, zext, sext, ite, load, store, bits_sort, same_bits_sort, word_sort, same_word_sort, compared, concat_sort, extract_sort, extended_sort, ite_sort, store_sort, is_sort, sort_of, width_of_sort, complement, conjunction, disjunction, exclusive_or, is_equal, val}
use Rattle.wb_terms.specs.declared.nodes.TermId.{TermId}
use Rattle.wb_terms.specs.declared.nodes.Node.{Node}
use Rattle.wb_terms.specs.declared.nodes.Node.TheVariants.{Name as NameNode, Truth, Const, Not, And, Or, Xor, Neg, Add, Sub, Mul, Shl, Lshr, Ashr, Eq, Ult, Ule, Slt, Sle, Concat, Extract, Zext, Sext, Ite, Load, Store}
use Rattle.wb_terms.specs.Graph.{Graph, IsOver, tree, tree_at, trees_of, tree_of_node, AllBelow, operands_of, names_of, leaf_at}
use Rattle.wb_terms.proofs.StoreLemmas.{AllBelow-le}
use Rattle.wb_terms.proofs.ValueSorts.{NamesFit}
use Rattle.sat_gates.specs.Names.{is_blastable}
use Rattle.ob_mem.specs.declared.words.MemoryWord.{MemoryWord}
use Rattle.ob_mem.specs.Words.{entry_at}
use Rattle.ob_mem.specs.Spread.{KeepsValue, IsSpread}
use Rattle.ob_mem.specs.Rows.{IsPlain}
use Rattle.ob_mem.proofs.Growing.{last_tree, last_below}
use Rattle.ob_mem.specs.Images.{Means, IsImageOf, IsImage, Operands, AreThere, IsNoMemory, image_of, renamed, load_parts}

-- the first term has the sort and the value of the second one, and no memory stands in it
pub record IsSame (A : Valuation → Valuation → Type 0) (x y : Term) : Type 0 where
  pub sort : sort_of x ≡ sort_of y
  pub blastable : is_blastable x ≡ true
  pub fits : (v w : Valuation) → A v w → NamesFit v y
  pub value : (v w : Valuation) → A v w → val x w ≡ val y v

-- an image of what is no memory is such a term
image_is_same : (es : Entries Sort) (rs : List MemoryWord) (h : Graph) (id : ℕ) (t : Term) (s : Option Sort) → sort_of t ≡ s → IsNoMemory s
    → ((v w : Valuation) → IsSpread es h.names rs v w → NamesFit v t) → IsImageOf es rs h id s (val t) → IsSame (IsSpread es h.names rs) (tree h id) t
image_is_same es rs h id t None e n f i = absurd i
image_is_same es rs h id t (Some truth) e n f i = record { sort = i.plain.sort ∙ sym e; blastable = i.plain.blastable; fits = f; value = i.value }
image_is_same es rs h id t (Some (word d)) e n f i = record { sort = i.plain.sort ∙ sym e; blastable = i.plain.blastable; fits = f; value = i.value }
image_is_same es rs h id t (Some (memory a d)) e n f i = absurd n

pub same_from_image : (es : Entries Sort) (rs : List MemoryWord) (h : Graph) (id : ℕ) (t : Term) → IsImage es rs h id t → IsNoMemory (sort_of t) → IsSame (IsSpread es h.names rs) (tree h id) t
same_from_image es rs h id t i n = image_is_same es rs h id t (sort_of t) refl n i.fits i.image

-- a term with its sort gives an image again
pub image_from_same : (es : Entries Sort) (rs : List MemoryWord) (h : Graph) (id : ℕ) (t : Term) (s : Option Sort) → sort_of t ≡ s → IsSome s → IsNoMemory s → id < length h.nodes
    → IsSame (IsSpread es h.names rs) (tree h id) t → IsImageOf es rs h id s (val t)
image_from_same es rs h id t None e o n b i = absurd (false≢true o)
image_from_same es rs h id t (Some truth) e o n b i = record { plain = record { below = b; sort = i.sort ∙ e; blastable = i.blastable }; value = i.value }
image_from_same es rs h id t (Some (word d)) e o n b i = record { plain = record { below = b; sort = i.sort ∙ e; blastable = i.blastable }; value = i.value }
image_from_same es rs h id t (Some (memory a d)) e o n b i = absurd n

-- operands of a form that has a sort are no memories
good_bits : (a : Option Sort) → IsSome (bits_sort a) → IsNoMemory a
good_bits None h = tt
good_bits (Some truth) h = tt
good_bits (Some (word w)) h = tt
good_bits (Some (memory a d)) h = absurd (false≢true h)

good_word : (a : Option Sort) → IsSome (word_sort a) → IsNoMemory a
good_word None h = tt
good_word (Some truth) h = tt
good_word (Some (word w)) h = tt
good_word (Some (memory a d)) h = absurd (false≢true h)

good_extract : (i j : ℕ) (a : Option Sort) → IsSome (extract_sort i j a) → IsNoMemory a
good_extract i j None h = tt
good_extract i j (Some truth) h = tt
good_extract i j (Some (word w)) h = tt
good_extract i j (Some (memory a d)) h = absurd (false≢true h)

good_extended : (n : ℕ) (a : Option Sort) → IsSome (extended_sort n a) → IsNoMemory a
good_extended n None h = tt
good_extended n (Some truth) h = tt
good_extended n (Some (word w)) h = tt
good_extended n (Some (memory a d)) h = absurd (false≢true h)

good_same_bits : (a b : Option Sort) → IsSome (same_bits_sort a b) → IsNoMemory a × IsNoMemory b
good_same_bits (Some truth) (Some truth) h = (tt, tt)
good_same_bits (Some (word w)) (Some (word u)) h = (tt, tt)
good_same_bits _ _ h = absurd (false≢true h)

good_same_word : (a b : Option Sort) → IsSome (same_word_sort a b) → IsNoMemory a × IsNoMemory b
good_same_word (Some (word w)) (Some (word u)) h = (tt, tt)
good_same_word _ _ h = absurd (false≢true h)

compared_some : (a : Option Sort) → IsSome (compared a) → IsSome a
compared_some None h = absurd (false≢true h)
compared_some (Some s) h = refl

good_compared_bits : (a b : Option Sort) → IsSome (compared (same_bits_sort a b)) → IsNoMemory a × IsNoMemory b
good_compared_bits a b h = good_same_bits a b (compared_some (same_bits_sort a b) h)

good_compared_word : (a b : Option Sort) → IsSome (compared (same_word_sort a b)) → IsNoMemory a × IsNoMemory b
good_compared_word a b h = good_same_word a b (compared_some (same_word_sort a b) h)

good_concat : (a b : Option Sort) → IsSome (concat_sort a b) → IsNoMemory a × IsNoMemory b
good_concat (Some (word w)) (Some (word u)) h = (tt, tt)
good_concat _ _ h = absurd (false≢true h)

some_of_if : (b : Bool) (s : Sort) → IsNoMemory (cond b (Some s) None) → IsSome (cond b (Some s) None) → IsNoMemory (Some s)
some_of_if true s n h = n
some_of_if false s n h = absurd (false≢true h)

-- a choice that is no memory
good_ite : (c x y : Option Sort) → IsSome (ite_sort c x y) → IsNoMemory (ite_sort c x y) → IsNoMemory c × IsNoMemory x × IsNoMemory y
good_ite (Some truth) (Some truth) (Some truth) h n = (tt, tt, tt)
good_ite (Some truth) (Some (word w)) (Some (word u)) h n = (tt, tt, tt)
good_ite (Some truth) (Some (memory a d)) (Some s) h n = absurd (some_of_if _ (memory a d) n h)
good_ite _ _ _ h n = absurd (false≢true h)

-- forms over images
unary : (A : Valuation → Valuation → Type 0) (op : Term → Term) (S : Option Sort → Option Sort) (F : Option Sort → Value → Value)
    → ((x : Term) → sort_of (op x) ≡ S (sort_of x)) → ((x : Term) (v : Valuation) → val (op x) v ≡ F (sort_of x) (val x v))
    → ((x : Term) → is_blastable (op x) ≡ is_blastable x) → ((x : Term) (v : Valuation) → NamesFit v x → NamesFit v (op x))
    → (x y : Term) → IsSame A x y → IsSame A (op x) (op y)
unary A op S F hs hv hb hn x y i =
    record {
      sort = hs x ∙ (ap S i.sort ∙ sym (hs y));
      blastable = hb x ∙ i.blastable;
      fits = λ v w a. hn y v (i.fits v w a);
      value = λ v w a. hv x w ∙ (ap (λ s. F s (val x w)) i.sort ∙ (ap (F (sort_of y)) (i.value v w a) ∙ sym (hv y v)));
    }

binary : (A : Valuation → Valuation → Type 0) (op : Term → Term → Term) (S : Option Sort → Option Sort → Option Sort) (F : Option Sort → Option Sort → Value → Value → Value)
    → ((x y : Term) → sort_of (op x y) ≡ S (sort_of x) (sort_of y)) → ((x y : Term) (v : Valuation) → val (op x y) v ≡ F (sort_of x) (sort_of y) (val x v) (val y v))
    → ((x y : Term) → is_blastable (op x y) ≡ (is_blastable x && is_blastable y)) → ((x y : Term) (v : Valuation) → NamesFit v x → NamesFit v y → NamesFit v (op x y))
    → (x y p q : Term) → IsSame A x y → IsSame A p q → IsSame A (op x p) (op y q)
binary A op S F hs hv hb hn x y p q i j =
    record {
      sort = hs x p ∙ (ap (λ s. S s (sort_of p)) i.sort ∙ (ap (S (sort_of y)) j.sort ∙ sym (hs y q)));
      blastable = hb x p ∙ (ap (λ b. b && is_blastable p) i.blastable ∙ j.blastable);
      fits = λ v w a. hn y q v (i.fits v w a) (j.fits v w a);
      value = λ v w a. hv x p w ∙ (ap (λ s. F s (sort_of p) (val x w) (val p w)) i.sort ∙ (ap (λ s. F (sort_of y) s (val x w) (val p w)) j.sort
          ∙ (ap (λ n. F (sort_of y) (sort_of q) n (val p w)) (i.value v w a) ∙ (ap (F (sort_of y) (sort_of q) (val y v)) (j.value v w a) ∙ sym (hv y q v)))));
    }

pub choice : (A : Valuation → Valuation → Type 0) (c d x y p q : Term) → IsSame A c d → IsSame A x y → IsSame A p q → IsSame A (ite c x p) (ite d y q)
choice A c d x y p q k i j =
    record {
      sort = ap (λ s. ite_sort s (sort_of x) (sort_of p)) k.sort ∙ (ap (λ s. ite_sort (sort_of d) s (sort_of p)) i.sort ∙ ap (ite_sort (sort_of d) (sort_of y)) j.sort);
      blastable = ap (λ b. b && (is_blastable x && is_blastable p)) k.blastable ∙ (ap (λ b. b && is_blastable p) i.blastable ∙ j.blastable);
      fits = λ v w a. (k.fits v w a, i.fits v w a, j.fits v w a);
      value = λ v w a. ap (λ n. cond (as_truth n) (val x w) (val p w)) (k.value v w a) ∙ (ap (λ n. cond (as_truth (val d v)) n (val p w)) (i.value v w a) ∙ ap (cond (as_truth (val d v)) (val y v)) (j.value v w a));
    }

pub all_there : (es : Entries Sort) (rs : List MemoryWord) (g h : Graph) (is : ℕ → Option TermId) (ks : List ℕ) → Operands es rs g h is ks → AreThere is ks
all_there es rs g h is [] o = tt
all_there es rs g h is (k ∷ ks) o = (o.0.0, all_there es rs g h is ks o.1)

same_name_at : (g h : Graph) (k : ℕ) → entry_at h.names k ≡ entry_at g.names k → leaf_at h.names k ≡ leaf_at g.names k
same_name_at g h k e = ap (λ (x : Name × Sort). name x.0 x.1) e

pub no_store : (m i x : Option Sort) → IsSome (store_sort m i x) → IsNoMemory (store_sort m i x) → ⊥
no_store (Some (memory a d)) (Some (word w)) (Some (word u)) h n = absurd (some_of_if _ (memory a d) n h)
no_store _ _ _ h n = absurd (false≢true h)

-- a name that is no memory
leaf_same : (A : Valuation → Valuation → Type 0) (e : Name × Sort) → IsSome (sort_of (name e.0 e.1)) → IsNoMemory (sort_of (name e.0 e.1)) → ((v w : Valuation) → A v w → HasSort (v e.0) e.1)
    → ((v w : Valuation) → A v w → KeepsValue e.1 (v e.0) (w e.0)) → IsSame A (name e.0 e.1) (name e.0 e.1)
leaf_same A (n, truth) o m f k = record { sort = refl; blastable = refl; fits = f; value = k }
leaf_same A (n, word d) o m f k = record { sort = refl; blastable = refl; fits = f; value = k }
leaf_same A (n, memory a d) o m f k = absurd (some_of_if (is_sort (memory a d)) (memory a d) m o)

pub renamed_same : (g h : Graph) (rs : List MemoryWord) (is : ℕ → Option TermId) (n : Node) → ((k : ℕ) → k < length g.names → entry_at h.names k ≡ entry_at g.names k) → AllBelow (length g.names) (names_of n)
    → Operands g.names rs g h is (operands_of n) → IsSome (sort_of (tree_of_node g n)) → IsNoMemory (sort_of (tree_of_node g n)) → load_parts n ≡ None
    → IsSame (IsSpread g.names h.names rs) (tree_of_node h (renamed is n)) (tree_of_node g n)
renamed_same g h rs is (NameNode n) e b o s m l =
    let A = IsSpread g.names h.names rs in
    subst (λ (x : Term). IsSame A x (leaf_at g.names n.0)) (sym (same_name_at g h n.0 (e n.0 b.0)))
    (leaf_same A (entry_at g.names n.0) s m (λ v w a. a.sorts n.0 b.0) (λ v w a. a.kept n.0 b.0))
renamed_same g h rs is (Truth t) e b o s m l = record { sort = refl; blastable = refl; fits = λ v w a. tt; value = λ v w a. refl }
renamed_same g h rs is (Const w x) e b o s m l = record { sort = refl; blastable = refl; fits = λ v w a. tt; value = λ v w a. refl }
renamed_same g h rs is (Not x) e b o s m l =
    unary (IsSpread g.names h.names rs) not bits_sort (λ a n. complement (width_of_sort a) n) (λ _. refl) (λ _ _. refl) (λ _. refl) (λ _ _ f. f) (tree h (image_of is x).0) (tree g x.0)
    (same_from_image g.names rs h (image_of is x).0 (tree g x.0) (o.0.1 x) (good_bits (sort_of (tree g x.0)) s))
renamed_same g h rs is (Neg x) e b o s m l =
    unary (IsSpread g.names h.names rs) neg word_sort (λ a n. number (word_neg (width_of_sort a) (as_number n))) (λ _. refl) (λ _ _. refl) (λ _. refl) (λ _ _ f. f) (tree h (image_of is x).0) (tree g x.0)
    (same_from_image g.names rs h (image_of is x).0 (tree g x.0) (o.0.1 x) (good_word (sort_of (tree g x.0)) s))
renamed_same g h rs is (Extract i j x) e b o s m l =
    unary (IsSpread g.names h.names rs) (extract i j) (extract_sort i j) (λ a n. number (word_extract i j (as_number n))) (λ _. refl) (λ _ _. refl) (λ _. refl) (λ _ _ f. f) (tree h (image_of is x).0) (tree g x.0)
    (same_from_image g.names rs h (image_of is x).0 (tree g x.0) (o.0.1 x) (good_extract i j (sort_of (tree g x.0)) s))
renamed_same g h rs is (Zext k x) e b o s m l =
    unary (IsSpread g.names h.names rs) (zext k) (extended_sort k) (λ a n. number (word_zext (as_number n))) (λ _. refl) (λ _ _. refl) (λ _. refl) (λ _ _ f. f) (tree h (image_of is x).0) (tree g x.0)
    (same_from_image g.names rs h (image_of is x).0 (tree g x.0) (o.0.1 x) (good_extended k (sort_of (tree g x.0)) s))
renamed_same g h rs is (Sext k x) e b o s m l =
    unary (IsSpread g.names h.names rs) (sext k) (extended_sort k) (λ a n. number (word_sext k (width_of_sort a) (as_number n))) (λ _. refl) (λ _ _. refl) (λ _. refl) (λ _ _ f. f) (tree h (image_of is x).0) (tree g x.0)
    (same_from_image g.names rs h (image_of is x).0 (tree g x.0) (o.0.1 x) (good_extended k (sort_of (tree g x.0)) s))
renamed_same g h rs is (And x y) e b o s m l =
    let k = good_same_bits (sort_of (tree g x.0)) (sort_of (tree g y.0)) s in
    binary (IsSpread g.names h.names rs) and same_bits_sort (λ a b m n. conjunction m n) (λ _ _. refl) (λ _ _ _. refl) (λ _ _. refl) (λ _ _ _ f i. (f, i))
    (tree h (image_of is x).0) (tree g x.0) (tree h (image_of is y).0) (tree g y.0)
    (same_from_image g.names rs h (image_of is x).0 (tree g x.0) (o.0.1 x) k.0) (same_from_image g.names rs h (image_of is y).0 (tree g y.0) (o.1.0.1 y) k.1)
renamed_same g h rs is (Or x y) e b o s m l =
    let k = good_same_bits (sort_of (tree g x.0)) (sort_of (tree g y.0)) s in
    binary (IsSpread g.names h.names rs) or same_bits_sort (λ a b m n. disjunction m n) (λ _ _. refl) (λ _ _ _. refl) (λ _ _. refl) (λ _ _ _ f i. (f, i))
    (tree h (image_of is x).0) (tree g x.0) (tree h (image_of is y).0) (tree g y.0)
    (same_from_image g.names rs h (image_of is x).0 (tree g x.0) (o.0.1 x) k.0) (same_from_image g.names rs h (image_of is y).0 (tree g y.0) (o.1.0.1 y) k.1)
renamed_same g h rs is (Xor x y) e b o s m l =
    let k = good_same_bits (sort_of (tree g x.0)) (sort_of (tree g y.0)) s in
    binary (IsSpread g.names h.names rs) xor same_bits_sort (λ a b m n. exclusive_or m n) (λ _ _. refl) (λ _ _ _. refl) (λ _ _. refl) (λ _ _ _ f i. (f, i))
    (tree h (image_of is x).0) (tree g x.0) (tree h (image_of is y).0) (tree g y.0)
    (same_from_image g.names rs h (image_of is x).0 (tree g x.0) (o.0.1 x) k.0) (same_from_image g.names rs h (image_of is y).0 (tree g y.0) (o.1.0.1 y) k.1)
renamed_same g h rs is (Add x y) e b o s m l =
    let k = good_same_word (sort_of (tree g x.0)) (sort_of (tree g y.0)) s in
    binary (IsSpread g.names h.names rs) add same_word_sort (λ a b m n. number (word_add (width_of_sort a) (as_number m) (as_number n))) (λ _ _. refl) (λ _ _ _. refl) (λ _ _. refl) (λ _ _ _ f i. (f, i))
    (tree h (image_of is x).0) (tree g x.0) (tree h (image_of is y).0) (tree g y.0)
    (same_from_image g.names rs h (image_of is x).0 (tree g x.0) (o.0.1 x) k.0) (same_from_image g.names rs h (image_of is y).0 (tree g y.0) (o.1.0.1 y) k.1)
renamed_same g h rs is (Sub x y) e b o s m l =
    let k = good_same_word (sort_of (tree g x.0)) (sort_of (tree g y.0)) s in
    binary (IsSpread g.names h.names rs) sub same_word_sort (λ a b m n. number (word_sub (width_of_sort a) (as_number m) (as_number n))) (λ _ _. refl) (λ _ _ _. refl) (λ _ _. refl) (λ _ _ _ f i. (f, i))
    (tree h (image_of is x).0) (tree g x.0) (tree h (image_of is y).0) (tree g y.0)
    (same_from_image g.names rs h (image_of is x).0 (tree g x.0) (o.0.1 x) k.0) (same_from_image g.names rs h (image_of is y).0 (tree g y.0) (o.1.0.1 y) k.1)
renamed_same g h rs is (Mul x y) e b o s m l =
    let k = good_same_word (sort_of (tree g x.0)) (sort_of (tree g y.0)) s in
    binary (IsSpread g.names h.names rs) mul same_word_sort (λ a b m n. number (word_mul (width_of_sort a) (as_number m) (as_number n))) (λ _ _. refl) (λ _ _ _. refl) (λ _ _. refl) (λ _ _ _ f i. (f, i))
    (tree h (image_of is x).0) (tree g x.0) (tree h (image_of is y).0) (tree g y.0)
    (same_from_image g.names rs h (image_of is x).0 (tree g x.0) (o.0.1 x) k.0) (same_from_image g.names rs h (image_of is y).0 (tree g y.0) (o.1.0.1 y) k.1)
renamed_same g h rs is (Shl x y) e b o s m l =
    let k = good_same_word (sort_of (tree g x.0)) (sort_of (tree g y.0)) s in
    binary (IsSpread g.names h.names rs) shl same_word_sort (λ a b m n. number (word_shl (width_of_sort a) (as_number m) (as_number n))) (λ _ _. refl) (λ _ _ _. refl) (λ _ _. refl) (λ _ _ _ f i. (f, i))
    (tree h (image_of is x).0) (tree g x.0) (tree h (image_of is y).0) (tree g y.0)
    (same_from_image g.names rs h (image_of is x).0 (tree g x.0) (o.0.1 x) k.0) (same_from_image g.names rs h (image_of is y).0 (tree g y.0) (o.1.0.1 y) k.1)
renamed_same g h rs is (Lshr x y) e b o s m l =
    let k = good_same_word (sort_of (tree g x.0)) (sort_of (tree g y.0)) s in
    binary (IsSpread g.names h.names rs) lshr same_word_sort (λ a b m n. number (word_lshr (width_of_sort a) (as_number m) (as_number n))) (λ _ _. refl) (λ _ _ _. refl) (λ _ _. refl) (λ _ _ _ f i. (f, i))
    (tree h (image_of is x).0) (tree g x.0) (tree h (image_of is y).0) (tree g y.0)
    (same_from_image g.names rs h (image_of is x).0 (tree g x.0) (o.0.1 x) k.0) (same_from_image g.names rs h (image_of is y).0 (tree g y.0) (o.1.0.1 y) k.1)
renamed_same g h rs is (Ashr x y) e b o s m l =
    let k = good_same_word (sort_of (tree g x.0)) (sort_of (tree g y.0)) s in
    binary (IsSpread g.names h.names rs) ashr same_word_sort (λ a b m n. number (word_ashr (width_of_sort a) (as_number m) (as_number n))) (λ _ _. refl) (λ _ _ _. refl) (λ _ _. refl) (λ _ _ _ f i. (f, i))
    (tree h (image_of is x).0) (tree g x.0) (tree h (image_of is y).0) (tree g y.0)
    (same_from_image g.names rs h (image_of is x).0 (tree g x.0) (o.0.1 x) k.0) (same_from_image g.names rs h (image_of is y).0 (tree g y.0) (o.1.0.1 y) k.1)
renamed_same g h rs is (Eq x y) e b o s m l =
    let k = good_compared_bits (sort_of (tree g x.0)) (sort_of (tree g y.0)) s in
    binary (IsSpread g.names h.names rs) eq (λ a b. compared (same_bits_sort a b)) (λ a b m n. truth_value (is_equal m n)) (λ _ _. refl) (λ _ _ _. refl) (λ _ _. refl) (λ _ _ _ f i. (f, i))
    (tree h (image_of is x).0) (tree g x.0) (tree h (image_of is y).0) (tree g y.0)
    (same_from_image g.names rs h (image_of is x).0 (tree g x.0) (o.0.1 x) k.0) (same_from_image g.names rs h (image_of is y).0 (tree g y.0) (o.1.0.1 y) k.1)
renamed_same g h rs is (Ult x y) e b o s m l =
    let k = good_compared_word (sort_of (tree g x.0)) (sort_of (tree g y.0)) s in
    binary (IsSpread g.names h.names rs) ult (λ a b. compared (same_word_sort a b)) (λ a b m n. truth_value (word_ult (as_number m) (as_number n))) (λ _ _. refl) (λ _ _ _. refl) (λ _ _. refl) (λ _ _ _ f i. (f, i))
    (tree h (image_of is x).0) (tree g x.0) (tree h (image_of is y).0) (tree g y.0)
    (same_from_image g.names rs h (image_of is x).0 (tree g x.0) (o.0.1 x) k.0) (same_from_image g.names rs h (image_of is y).0 (tree g y.0) (o.1.0.1 y) k.1)
renamed_same g h rs is (Ule x y) e b o s m l =
    let k = good_compared_word (sort_of (tree g x.0)) (sort_of (tree g y.0)) s in
    binary (IsSpread g.names h.names rs) ule (λ a b. compared (same_word_sort a b)) (λ a b m n. truth_value (word_ule (as_number m) (as_number n))) (λ _ _. refl) (λ _ _ _. refl) (λ _ _. refl) (λ _ _ _ f i. (f, i))
    (tree h (image_of is x).0) (tree g x.0) (tree h (image_of is y).0) (tree g y.0)
    (same_from_image g.names rs h (image_of is x).0 (tree g x.0) (o.0.1 x) k.0) (same_from_image g.names rs h (image_of is y).0 (tree g y.0) (o.1.0.1 y) k.1)
renamed_same g h rs is (Slt x y) e b o s m l =
    let k = good_compared_word (sort_of (tree g x.0)) (sort_of (tree g y.0)) s in
    binary (IsSpread g.names h.names rs) slt (λ a b. compared (same_word_sort a b)) (λ a b m n. truth_value (word_slt (width_of_sort a) (as_number m) (as_number n))) (λ _ _. refl) (λ _ _ _. refl) (λ _ _. refl) (λ _ _ _ f i. (f, i))
    (tree h (image_of is x).0) (tree g x.0) (tree h (image_of is y).0) (tree g y.0)
    (same_from_image g.names rs h (image_of is x).0 (tree g x.0) (o.0.1 x) k.0) (same_from_image g.names rs h (image_of is y).0 (tree g y.0) (o.1.0.1 y) k.1)
renamed_same g h rs is (Sle x y) e b o s m l =
    let k = good_compared_word (sort_of (tree g x.0)) (sort_of (tree g y.0)) s in
    binary (IsSpread g.names h.names rs) sle (λ a b. compared (same_word_sort a b)) (λ a b m n. truth_value (word_sle (width_of_sort a) (as_number m) (as_number n))) (λ _ _. refl) (λ _ _ _. refl) (λ _ _. refl) (λ _ _ _ f i. (f, i))
    (tree h (image_of is x).0) (tree g x.0) (tree h (image_of is y).0) (tree g y.0)
    (same_from_image g.names rs h (image_of is x).0 (tree g x.0) (o.0.1 x) k.0) (same_from_image g.names rs h (image_of is y).0 (tree g y.0) (o.1.0.1 y) k.1)
renamed_same g h rs is (Concat x y) e b o s m l =
    let k = good_concat (sort_of (tree g x.0)) (sort_of (tree g y.0)) s in
    binary (IsSpread g.names h.names rs) concat concat_sort (λ a b m n. number (word_concat (width_of_sort b) (as_number m) (as_number n))) (λ _ _. refl) (λ _ _ _. refl) (λ _ _. refl) (λ _ _ _ f i. (f, i))
    (tree h (image_of is x).0) (tree g x.0) (tree h (image_of is y).0) (tree g y.0)
    (same_from_image g.names rs h (image_of is x).0 (tree g x.0) (o.0.1 x) k.0) (same_from_image g.names rs h (image_of is y).0 (tree g y.0) (o.1.0.1 y) k.1)
renamed_same g h rs is (Ite c x y) e b o s m l =
    let k = good_ite (sort_of (tree g c.0)) (sort_of (tree g x.0)) (sort_of (tree g y.0)) s m in
    choice (IsSpread g.names h.names rs) (tree h (image_of is c).0) (tree g c.0) (tree h (image_of is x).0) (tree g x.0) (tree h (image_of is y).0) (tree g y.0)
    (same_from_image g.names rs h (image_of is c).0 (tree g c.0) (o.0.1 c) k.0) (same_from_image g.names rs h (image_of is x).0 (tree g x.0) (o.1.0.1 x) k.1)
    (same_from_image g.names rs h (image_of is y).0 (tree g y.0) (o.1.1.0.1 y) k.2)
renamed_same g h rs is (Load i j) e b o s m l = cc
renamed_same g h rs is (Store i j x) e b o s m l = absurd (no_store (sort_of (tree g i.0)) (sort_of (tree g j.0)) (sort_of (tree g x.0)) s m)

-- the images of operands that are no memories stand in the new store
below_of_image : (es : Entries Sort) (rs : List MemoryWord) (h : Graph) (id : ℕ) (s : Option Sort) (m : Valuation → Value) → IsNoMemory s → IsImageOf es rs h id s m → id < length h.nodes
below_of_image es rs h id None m n i = absurd i
below_of_image es rs h id (Some truth) m n i = i.plain.below
below_of_image es rs h id (Some (word d)) m n i = i.plain.below
below_of_image es rs h id (Some (memory a d)) m n i = absurd n

pub image_below : (es : Entries Sort) (rs : List MemoryWord) (h : Graph) (id : ℕ) (t : Term) → IsImage es rs h id t → IsNoMemory (sort_of t) → id < length h.nodes
image_below es rs h id t i n = below_of_image es rs h id (sort_of t) (val t) n i.image

pub renamed_below : (g h : Graph) (rs : List MemoryWord) (is : ℕ → Option TermId) (n : Node) → Operands g.names rs g h is (operands_of n) → IsSome (sort_of (tree_of_node g n)) → IsNoMemory (sort_of (tree_of_node g n))
    → load_parts n ≡ None → AllBelow (length h.nodes) (operands_of (renamed is n))
renamed_below g h rs is (NameNode n) o s m l = tt
renamed_below g h rs is (Truth t) o s m l = tt
renamed_below g h rs is (Const w x) o s m l = tt
renamed_below g h rs is (Not x) o s m l = (image_below g.names rs h (image_of is x).0 (tree g x.0) (o.0.1 x) (good_bits (sort_of (tree g x.0)) s), tt)
renamed_below g h rs is (Neg x) o s m l = (image_below g.names rs h (image_of is x).0 (tree g x.0) (o.0.1 x) (good_word (sort_of (tree g x.0)) s), tt)
renamed_below g h rs is (Extract i j x) o s m l = (image_below g.names rs h (image_of is x).0 (tree g x.0) (o.0.1 x) (good_extract i j (sort_of (tree g x.0)) s), tt)
renamed_below g h rs is (Zext k x) o s m l = (image_below g.names rs h (image_of is x).0 (tree g x.0) (o.0.1 x) (good_extended k (sort_of (tree g x.0)) s), tt)
renamed_below g h rs is (Sext k x) o s m l = (image_below g.names rs h (image_of is x).0 (tree g x.0) (o.0.1 x) (good_extended k (sort_of (tree g x.0)) s), tt)
renamed_below g h rs is (And x y) o s m l =
    let k = good_same_bits (sort_of (tree g x.0)) (sort_of (tree g y.0)) s in
    (image_below g.names rs h (image_of is x).0 (tree g x.0) (o.0.1 x) k.0, (image_below g.names rs h (image_of is y).0 (tree g y.0) (o.1.0.1 y) k.1, tt))
renamed_below g h rs is (Or x y) o s m l =
    let k = good_same_bits (sort_of (tree g x.0)) (sort_of (tree g y.0)) s in
    (image_below g.names rs h (image_of is x).0 (tree g x.0) (o.0.1 x) k.0, (image_below g.names rs h (image_of is y).0 (tree g y.0) (o.1.0.1 y) k.1, tt))
renamed_below g h rs is (Xor x y) o s m l =
    let k = good_same_bits (sort_of (tree g x.0)) (sort_of (tree g y.0)) s in
    (image_below g.names rs h (image_of is x).0 (tree g x.0) (o.0.1 x) k.0, (image_below g.names rs h (image_of is y).0 (tree g y.0) (o.1.0.1 y) k.1, tt))
renamed_below g h rs is (Add x y) o s m l =
    let k = good_same_word (sort_of (tree g x.0)) (sort_of (tree g y.0)) s in
    (image_below g.names rs h (image_of is x).0 (tree g x.0) (o.0.1 x) k.0, (image_below g.names rs h (image_of is y).0 (tree g y.0) (o.1.0.1 y) k.1, tt))
renamed_below g h rs is (Sub x y) o s m l =
    let k = good_same_word (sort_of (tree g x.0)) (sort_of (tree g y.0)) s in
    (image_below g.names rs h (image_of is x).0 (tree g x.0) (o.0.1 x) k.0, (image_below g.names rs h (image_of is y).0 (tree g y.0) (o.1.0.1 y) k.1, tt))
renamed_below g h rs is (Mul x y) o s m l =
    let k = good_same_word (sort_of (tree g x.0)) (sort_of (tree g y.0)) s in
    (image_below g.names rs h (image_of is x).0 (tree g x.0) (o.0.1 x) k.0, (image_below g.names rs h (image_of is y).0 (tree g y.0) (o.1.0.1 y) k.1, tt))
renamed_below g h rs is (Shl x y) o s m l =
    let k = good_same_word (sort_of (tree g x.0)) (sort_of (tree g y.0)) s in
    (image_below g.names rs h (image_of is x).0 (tree g x.0) (o.0.1 x) k.0, (image_below g.names rs h (image_of is y).0 (tree g y.0) (o.1.0.1 y) k.1, tt))
renamed_below g h rs is (Lshr x y) o s m l =
    let k = good_same_word (sort_of (tree g x.0)) (sort_of (tree g y.0)) s in
    (image_below g.names rs h (image_of is x).0 (tree g x.0) (o.0.1 x) k.0, (image_below g.names rs h (image_of is y).0 (tree g y.0) (o.1.0.1 y) k.1, tt))
renamed_below g h rs is (Ashr x y) o s m l =
    let k = good_same_word (sort_of (tree g x.0)) (sort_of (tree g y.0)) s in
    (image_below g.names rs h (image_of is x).0 (tree g x.0) (o.0.1 x) k.0, (image_below g.names rs h (image_of is y).0 (tree g y.0) (o.1.0.1 y) k.1, tt))
renamed_below g h rs is (Eq x y) o s m l =
    let k = good_compared_bits (sort_of (tree g x.0)) (sort_of (tree g y.0)) s in
    (image_below g.names rs h (image_of is x).0 (tree g x.0) (o.0.1 x) k.0, (image_below g.names rs h (image_of is y).0 (tree g y.0) (o.1.0.1 y) k.1, tt))
renamed_below g h rs is (Ult x y) o s m l =
    let k = good_compared_word (sort_of (tree g x.0)) (sort_of (tree g y.0)) s in
    (image_below g.names rs h (image_of is x).0 (tree g x.0) (o.0.1 x) k.0, (image_below g.names rs h (image_of is y).0 (tree g y.0) (o.1.0.1 y) k.1, tt))
renamed_below g h rs is (Ule x y) o s m l =
    let k = good_compared_word (sort_of (tree g x.0)) (sort_of (tree g y.0)) s in
    (image_below g.names rs h (image_of is x).0 (tree g x.0) (o.0.1 x) k.0, (image_below g.names rs h (image_of is y).0 (tree g y.0) (o.1.0.1 y) k.1, tt))
renamed_below g h rs is (Slt x y) o s m l =
    let k = good_compared_word (sort_of (tree g x.0)) (sort_of (tree g y.0)) s in
    (image_below g.names rs h (image_of is x).0 (tree g x.0) (o.0.1 x) k.0, (image_below g.names rs h (image_of is y).0 (tree g y.0) (o.1.0.1 y) k.1, tt))
renamed_below g h rs is (Sle x y) o s m l =
    let k = good_compared_word (sort_of (tree g x.0)) (sort_of (tree g y.0)) s in
    (image_below g.names rs h (image_of is x).0 (tree g x.0) (o.0.1 x) k.0, (image_below g.names rs h (image_of is y).0 (tree g y.0) (o.1.0.1 y) k.1, tt))
renamed_below g h rs is (Concat x y) o s m l =
    let k = good_concat (sort_of (tree g x.0)) (sort_of (tree g y.0)) s in
    (image_below g.names rs h (image_of is x).0 (tree g x.0) (o.0.1 x) k.0, (image_below g.names rs h (image_of is y).0 (tree g y.0) (o.1.0.1 y) k.1, tt))
renamed_below g h rs is (Ite c x y) o s m l =
    let k = good_ite (sort_of (tree g c.0)) (sort_of (tree g x.0)) (sort_of (tree g y.0)) s m in
    (image_below g.names rs h (image_of is c).0 (tree g c.0) (o.0.1 c) k.0, (image_below g.names rs h (image_of is x).0 (tree g x.0) (o.1.0.1 x) k.1, (image_below g.names rs h (image_of is y).0 (tree g y.0) (o.1.1.0.1 y) k.2, tt)))
renamed_below g h rs is (Load i j) o s m l = cc
renamed_below g h rs is (Store i j x) o s m l = absurd (no_store (sort_of (tree g i.0)) (sort_of (tree g j.0)) (sort_of (tree g x.0)) s m)

pub renamed_names : (is : ℕ → Option TermId) (n : Node) (count : ℕ) → AllBelow count (names_of n) → AllBelow count (names_of (renamed is n))
renamed_names is (NameNode n) count b = b
renamed_names is (Truth t) count b = tt
renamed_names is (Const w x) count b = tt
renamed_names is (Not x) count b = tt
renamed_names is (Neg x) count b = tt
renamed_names is (Extract i j x) count b = tt
renamed_names is (Zext k x) count b = tt
renamed_names is (Sext k x) count b = tt
renamed_names is (And x y) count b = tt
renamed_names is (Or x y) count b = tt
renamed_names is (Xor x y) count b = tt
renamed_names is (Add x y) count b = tt
renamed_names is (Sub x y) count b = tt
renamed_names is (Mul x y) count b = tt
renamed_names is (Shl x y) count b = tt
renamed_names is (Lshr x y) count b = tt
renamed_names is (Ashr x y) count b = tt
renamed_names is (Eq x y) count b = tt
renamed_names is (Ult x y) count b = tt
renamed_names is (Ule x y) count b = tt
renamed_names is (Slt x y) count b = tt
renamed_names is (Sle x y) count b = tt
renamed_names is (Concat x y) count b = tt
renamed_names is (Ite c x y) count b = tt
renamed_names is (Load i j) count b = tt
renamed_names is (Store i j x) count b = tt

-- the image of a truth value or a word, put over the images of its operands
pub value_image : (g h k : Graph) (rs : List MemoryWord) (is : ℕ → Option TermId) (n : Node) (id r : ℕ) → ((j : ℕ) → j < length g.names → entry_at h.names j ≡ entry_at g.names j) → tree g id ≡ tree_of_node g n
    → AllBelow (length g.names) (names_of n) → Operands g.names rs g h is (operands_of n) → IsSome (sort_of (tree g id)) → IsNoMemory (sort_of (tree g id)) → load_parts n ≡ None
    → k.names ≡ h.names → r ≡ length h.nodes → trees_of k ≡ trees_of h ++ tree_of_node h (renamed is n) ∷ [] → IsImage g.names rs k r (tree g id)
value_image g h k rs is n id r same t names o s m l ns i ts =
    let sorted : IsSome (sort_of (tree_of_node g n)) = subst (λ (x : Term). IsSome (sort_of x)) t s in
    let plain : IsNoMemory (sort_of (tree_of_node g n)) = subst (λ (x : Term). IsNoMemory (sort_of x)) t m in
    let a = renamed_same g h rs is n same names o sorted plain l in
    let b : IsSame (IsSpread g.names h.names rs) (tree_of_node h (renamed is n)) (tree g id) = subst (IsSame (IsSpread g.names h.names rs) (tree_of_node h (renamed is n))) (sym t) a in
    let c : IsSame (IsSpread g.names h.names rs) (tree k r) (tree g id) = subst (λ (x : Term). IsSame (IsSpread g.names h.names rs) x (tree g id)) (sym (last_tree h k (tree_of_node h (renamed is n)) r i ts)) b in
    let d : IsSame (IsSpread g.names k.names rs) (tree k r) (tree g id) = subst (λ (es : Entries Sort). IsSame (IsSpread g.names es rs) (tree k r) (tree g id)) (sym ns) c in
    record { fits = d.fits; image = image_from_same g.names rs k r (tree g id) (sort_of (tree g id)) refl s m (last_below h k (tree_of_node h (renamed is n)) r i ts) d }

pub renamed_sorted : (g h : Graph) (rs : List MemoryWord) (is : ℕ → Option TermId) (n : Node) (id : ℕ) → ((j : ℕ) → j < length g.names → entry_at h.names j ≡ entry_at g.names j) → tree g id ≡ tree_of_node g n
    → AllBelow (length g.names) (names_of n) → Operands g.names rs g h is (operands_of n) → IsSome (sort_of (tree g id)) → IsNoMemory (sort_of (tree g id)) → load_parts n ≡ None
    → IsSome (sort_of (tree_of_node h (renamed is n)))
renamed_sorted g h rs is n id same t names o s m l =
    let sorted : IsSome (sort_of (tree_of_node g n)) = subst (λ (x : Term). IsSome (sort_of x)) t s in
    let plain : IsNoMemory (sort_of (tree_of_node g n)) = subst (λ (x : Term). IsNoMemory (sort_of x)) t m in
    ap is_some (renamed_same g h rs is n same names o sorted plain l).sort ∙ sorted

pub renamed_over : (g h : Graph) (rs : List MemoryWord) (is : ℕ → Option TermId) (n : Node) (id : ℕ) → length g.names ≤ length h.names → tree g id ≡ tree_of_node g n → AllBelow (length g.names) (names_of n)
    → Operands g.names rs g h is (operands_of n) → IsSome (sort_of (tree g id)) → IsNoMemory (sort_of (tree g id)) → load_parts n ≡ None → IsOver h (length h.nodes) (renamed is n)
renamed_over g h rs is n id more t names o s m l =
    let sorted : IsSome (sort_of (tree_of_node g n)) = subst (λ (x : Term). IsSome (sort_of x)) t s in
    let plain : IsNoMemory (sort_of (tree_of_node g n)) = subst (λ (x : Term). IsNoMemory (sort_of x)) t m in
    record {
      operands = renamed_below g h rs is n o sorted plain l;
      names = renamed_names is n (length h.names) (AllBelow-le (length g.names) (length h.names) (names_of n) more names);
    }

-- the node of a load
abbrev first_part : Option (TermId × TermId) → TermId → TermId
first_part (Some t) d = t.0
first_part None d = d

abbrev second_part : Option (TermId × TermId) → TermId → TermId
second_part (Some t) d = t.1
second_part None d = d

pub load_node : (n : Node) (m i : TermId) → Some (m, i) ≡ load_parts n → n ≡ Load m i
load_node (Load p q) m i e =
    let a : p ≡ m = sym (ap (λ o. first_part o p) e) in
    let b : q ≡ i = sym (ap (λ o. second_part o q) e) in
    ap (λ x. Load x q) a ∙ ap (Load m) b
load_node _ m i e = cc
