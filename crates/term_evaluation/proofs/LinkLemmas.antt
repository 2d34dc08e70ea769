-- Lemmas on what is kept of terms: words, and memories of a pool.
use Rattle.std.proofs.Common.{◌≡◌, ◌∙◌, ℕ, zero, suc, ◌+◌, ◌<◌, ◌≤◌, ◌^◌, Bool, true, false, cond, ◌&&◌, nat_le, nat_lt, List, [], ◌∷◌, length, get_or, set, Option, Some, None, IsTrue, IsSome, refl, sym, ap, subst, arith}
use Rattle.std.specs.Prelude.{◌==◌, if◌then◌else◌, ⊤}
use Rattle.std.proofs.lemmas.Bool.{false≢true}
use Rattle.std.proofs.lemmas.Bool.Decides.{nat_tests}
use Rattle.std.proofs.lemmas.Nat.{pow_pos}
use Rattle.sparse_memories.specs.declared.pool.Memory.{Memory}
use Rattle.sparse_memories.specs.Nodes.{Content}
use Rattle.sparse_memories.specs.Memories.{IsMemory, words_of, Keeps}
use Rattle.wb_values.specs.Value as meaning
use Rattle.wb_values.specs.Value.{Sort, truth, word, memory, truth_value, number, words, as_truth, as_number, as_words, HasSort, all_below}
use Rattle.wb_values.specs.Choice.{some_if}
use Rattle.model_meaning.specs.Term.{Term, is_sort, is_width, same_sort, bits_sort, same_bits_sort, word_sort, same_word_sort, compared, concat_sort, extract_sort, extended_sort, ite_sort, load_sort, store_sort, sort_of, val}
use Rattle.wb_bits.specs.declared.Word.{Word}
use Rattle.wb_terms.specs.declared.nodes.Node.{Node}
use Rattle.wb_terms.specs.declared.nodes.Node.TheVariants.{Name as NameNode, Truth, Const, Not, And, Or, Xor, Neg, Add, Sub, Mul, Shl, Lshr, Ashr, Eq, Ult, Ule, Slt, Sle, Concat, Extract, Zext, Sext, Ite, Load, Store}
use Rattle.wb_terms.specs.declared.nodes.NameId.{NameId}
use Rattle.wb_terms.specs.declared.nodes.TermId.{TermId}
use Rattle.term_evaluation.specs.declared.slots.Slot.{Slot}
use Rattle.wb_terms.specs.declared.sorts.Sort.{Sort as CodeSort}
use Rattle.wb_terms.specs.Sort.{as_sort}
use Rattle.wb_terms.specs.Graph.{Graph, tree, tree_of_node, leaf_at, HasDistinctNames}
use Rattle.wb_terms.specs.Environment.{AreOfSorts}
use Rattle.wb_terms.specs.Held.{IsHeldBy}
use Rattle.wb_terms.specs.Walk.{word_width}
use Rattle.term_evaluation.specs.Slots.{value_in, values_in}
use Rattle.term_evaluation.specs.Links.{valuation_at, value_at, link_at, IsLinkTo, IsLinkOf, IsTreeOf, IsMemoryOf, words_at_link, IsWordHeld, IsLinkHeld}
use Rattle.wb_terms.proofs.EnvironmentLemmas.{sort_at, value_at as named_value, length-AreOfSorts, length-memory}
use Rattle.wb_terms.proofs.HeldLemmas.{both, same_number, below, held_word, held_memory, load_sorts, store_sorts}
use Rattle.term_evaluation.proofs.SlotLemmas.{length-words_of, same_power, values-read, length-values}

-- A pool that keeps another one's memories keeps links to values.
pub link_kept : (p q : Content) (o : Option Sort) (v : meaning.Value) (m : Memory) → Keeps p q → IsLinkTo p o v m → IsLinkTo q o v m
link_kept p q None v m k h = tt
link_kept p q (Some truth) v m k h = tt
link_kept p q (Some (word u)) v m k h = tt
link_kept p q (Some (memory a d)) (truth_value b) m k h = absurd h
link_kept p q (Some (memory a d)) (number n) m k h = absurd h
link_kept p q (Some (memory a d)) (words ws) m k h =
    let t = k a m.0 h.1 in
    (h.0, t.0, t.1 ∙ h.2)

-- names: the value of a slot is that of the name
some_if-true : (b : Bool) (s : Sort) → IsTrue b → some_if b s ≡ Some s
some_if-true true s h = refl
some_if-true false s h = absurd (false≢true h)

pub record IsLeafAt (g : Graph) (xs : List meaning.Value) (id : ℕ) (v : meaning.Value) (s : CodeSort) : Type 0 where
  pub sort : sort_of (tree g id) ≡ Some (as_sort s)
  pub value : value_at g xs id ≡ v
  pub sorted : HasSort v (as_sort s)

pub name_below : (g : Graph) (p : Content) (slots : List Slot) (k : ℕ) → AreOfSorts g.names (values_in p slots) → k < length g.names → k < length slots
name_below g p slots k f b = omega (arith, b, length-AreOfSorts g.names (values_in p slots) f, length-values p slots)

pub leaf_of : (g : Graph) (p : Content) (slots : List Slot) (id : ℕ) (n : Node) (m : NameId) (x : Slot) (s : CodeSort) → tree g id ≡ tree_of_node g n → n ≡ NameNode m → HasDistinctNames g.names
    → AreOfSorts g.names (values_in p slots) → m.0 < length g.names → x ≡ get_or slots m.0 x → as_sort s ≡ (get_or g.names m.0 ([], truth)).1 → IsTrue (is_sort (as_sort s)) → IsLeafAt g (values_in p slots) id (value_in p x) s
leaf_of g p slots id n m x s t i u f b e q w =
    let xs = values_in p slots in
    let k = m.0 in
    let l : tree g id ≡ leaf_at g.names k = t ∙ ap (tree_of_node g) i in
    let own : get_or xs k (value_in p x) ≡ value_in p x = values-read p slots k x (value_in p x) (name_below g p slots k f b) e in
    let in_range : IsTrue (is_sort (get_or g.names k ([], truth)).1) = subst (λ (y : Sort). IsTrue (is_sort y)) q w in
    let h : HasSort (get_or xs k (value_in p x)) (get_or g.names k ([], truth)).1 = sort_at g.names xs k ([], truth) (value_in p x) f b in
    record {
      sort = ap sort_of l ∙ some_if-true _ (get_or g.names k ([], truth)).1 in_range ∙ ap (λ (y : Sort). Some y) (sym q);
      value = ap (λ (y : Term). val y (valuation_at g xs)) l ∙ named_value g.names xs k ([], truth) (value_in p x) u f b ∙ own;
      sorted = subst (λ (y : meaning.Value). HasSort y (as_sort s)) own (subst (λ (y : Sort). HasSort (get_or xs k (value_in p x)) y) (sym q) h);
    }

-- the memory of a slot, by its sort
pub link_from : (p : Content) (s : Sort) (v : meaning.Value) (m : Memory) → IsLinkOf p v m → HasSort v s → IsLinkTo p (Some s) v m
link_from p truth v m l h = tt
link_from p (word w) v m l h = tt
link_from p (memory a d) (truth_value b) m l h = absurd (false≢true h)
link_from p (memory a d) (number n) m l h = absurd (false≢true h)
link_from p (memory a d) (words ws) m l h =
    let n = l.0 in
    let e : n ≡ a = same_power n a (sym (length-words_of p n m) ∙ ap (λ (ys : List ℕ). length ys) l.3 ∙ length-memory a d ws h) in
    subst (λ (k : ℕ). (k ≤ 16) × IsMemory p k m × (words_of p k m ≡ ws)) e (l.1, l.2, l.3)

-- what a link leads to
pub link_words : (p : Content) (a d : ℕ) (v : meaning.Value) (m : Memory) → IsLinkTo p (Some (memory a d)) v m → (ws : List ℕ) × (v ≡ words ws) × (a ≤ 16) × IsMemory p a m × (words_of p a m ≡ ws)
link_words p a d (truth_value b) m h = absurd h
link_words p a d (number n) m h = absurd h
link_words p a d (words ws) m h = (ws, refl, h.0, h.1, h.2)

some_is : (o : Option Sort) (s : Sort) → o ≡ Some s → IsSome o
some_is None s e = cc
some_is (Some t) s e = refl

same_memory : (s : Sort) (a d : ℕ) → Some s ≡ Some (memory a d) → s ≡ memory a d
same_memory s a d e = cc

-- a memory that is stored to
pub stored_tree : (p : Content) (om oi ox : Option Sort) (s : CodeSort) (vm : meaning.Value) (m : Memory) → store_sort om oi ox ≡ Some (as_sort s) → IsLinkTo p om vm m → IsTreeOf p (as_sort s) m
stored_tree p om oi ox s vm m e l =
    let t = store_sorts om oi ox (some_is (store_sort om oi ox) (as_sort s) e) in
    let same : as_sort s ≡ memory t.0 t.1 = same_memory (as_sort s) t.0 t.1 (sym e ∙ t.5) in
    let w = link_words p t.0 t.1 vm m (rw t.2 at l) in
    subst (λ (x : Sort). IsTreeOf p x m) (sym same) (w.2, w.3)

pub link_stored : (p q : Content) (om oi ox : Option Sort) (vm vi vx : meaning.Value) (wi ni wx nx : ℕ) (s : CodeSort) (m r : Memory) → store_sort om oi ox ≡ Some (as_sort s) → IsLinkTo p om vm m
    → IsHeldBy oi vi wi ni → IsHeldBy ox vx wx nx → IsTreeOf q (as_sort s) r → words_at_link q (as_sort s) r ≡ set (words_at_link p (as_sort s) m) ni nx
    → IsLinkTo q (store_sort om oi ox) (words (set (as_words vm) (as_number vi) (as_number vx))) r
link_stored p q om oi ox vm vi vx wi ni wx nx s m r e l hi hx t w =
    let z = store_sorts om oi ox (some_is (store_sort om oi ox) (as_sort s) e) in
    let a = z.0 in
    let d = z.1 in
    let same : as_sort s ≡ memory a d = same_memory (as_sort s) a d (sym e ∙ z.5) in
    let x = link_words p a d vm m (rw z.2 at l) in
    let i = held_word a vi wi ni (rw z.3 at hi) in
    let y = held_word d vx wx nx (rw z.4 at hx) in
    let there : IsTreeOf q (memory a d) r = subst (λ (u : Sort). IsTreeOf q u r) same t in
    let here : words_of q a r ≡ set (words_of p a m) ni nx = subst (λ (u : Sort). words_at_link q u r ≡ set (words_at_link p u m) ni nx) same w in
    let all : words_of q a r ≡ set x.0 i.0 y.0 =
    here ∙ ap (λ (ws : List ℕ). set ws ni nx) x.4 ∙ ap (λ (k : ℕ). set x.0 k nx) i.2 ∙ ap (λ (k : ℕ). set x.0 i.0 k) y.2 in
    rw (z.5, x.1, i.1, y.1) (there.0, there.1, all)

same_from_sorts : (s t : Sort) → IsTrue (same_sort s t) → t ≡ s
same_from_sorts truth truth h = refl
same_from_sorts (word w) (word u) h = ap (λ (k : ℕ). word k) (sym (same_number w u h))
same_from_sorts (memory a d) (memory b e) h =
    let t = both (a == b) (d == e) h in
    ap (λ (k : ℕ). memory k e) (sym (same_number a b t.0)) ∙ ap (λ (k : ℕ). memory a k) (sym (same_number d e t.1))
same_from_sorts _ _ h = absurd (false≢true h)

-- a memory that is chosen
picked : (p : Content) (o : Option Sort) (b : Bool) (n : ℕ) (vx vy : meaning.Value) (lx ly r : Memory) → n ≡ cond b 1 0 → IsLinkTo p o vx lx → IsLinkTo p o vy ly → r ≡ (if n == 1 then lx else ly) → IsLinkTo p o (cond b vx vy) r
picked p o true n vx vy lx ly r e h k c = subst (λ (m : Memory). IsLinkTo p o vx m) (sym (c ∙ ap (λ (j : ℕ). if j == 1 then lx else ly) e)) h
picked p o false n vx vy lx ly r e h k c = subst (λ (m : Memory). IsLinkTo p o vy m) (sym (c ∙ ap (λ (j : ℕ). if j == 1 then lx else ly) e)) k

held_truth : (v : meaning.Value) (w n : ℕ) → IsHeldBy (Some truth) v w n → (b : Bool) × (v ≡ truth_value b) × (n ≡ cond b 1 0)
held_truth (truth_value b) w n h = (b, refl, h.1)
held_truth (number m) w n h = absurd h
held_truth (words ws) w n h = absurd h

chosen_if : (p : Content) (t : Bool) (s u : Sort) (b : Bool) (n : ℕ) (vx vy : meaning.Value) (lx ly r : Memory) → same_sort s u ≡ t → n ≡ cond b 1 0 → IsLinkTo p (Some s) vx lx → IsLinkTo p (Some u) vy ly
    → r ≡ (if n == 1 then lx else ly) → IsLinkTo p (some_if t s) (cond b vx vy) r
chosen_if p false s u b n vx vy lx ly r e f h k c = tt
chosen_if p true s u b n vx vy lx ly r e f h k c =
    picked p (Some s) b n vx vy lx ly r f h (subst (λ (o : Sort). IsLinkTo p (Some o) vy ly) (same_from_sorts s u e) k) c

pub link_chosen : (p : Content) (oc ox oy : Option Sort) (vc vx vy : meaning.Value) (wc nc : ℕ) (lx ly r : Memory) → IsHeldBy oc vc wc nc → IsLinkTo p ox vx lx → IsLinkTo p oy vy ly
    → r ≡ (if nc == 1 then lx else ly) → IsLinkTo p (ite_sort oc ox oy) (cond (as_truth vc) vx vy) r
link_chosen p (Some truth) (Some s) (Some u) vc vx vy wc nc lx ly r h k l c =
    let b = held_truth vc wc nc h in
    subst (λ (v : meaning.Value). IsLinkTo p (some_if (same_sort s u) s) (cond (as_truth v) vx vy) r) (sym b.1) (chosen_if p (same_sort s u) s u b.0 nc vx vy lx ly r refl b.2 k l c)
link_chosen p _ _ _ vc vx vy wc nc lx ly r h k l c = tt

-- slots by what is kept of terms
pub slot_of_truth : (v : meaning.Value) (w n : ℕ) (b : Bool) → IsHeldBy (Some truth) v w n → b ≡ (n == 1) → truth_value b ≡ v
slot_of_truth v w n b h e =
    let t = held_truth v w n h in
    ap (λ (x : Bool). truth_value x) (e ∙ ap (λ (k : ℕ). k == 1) t.2 ∙ one_or_not t.0) ∙ sym t.1
  where
    one_or_not : (x : Bool) → (cond x 1 0 == 1) ≡ x
    one_or_not true = refl
    one_or_not false = refl

pub slot_of_word : (u : ℕ) (v : meaning.Value) (w n : ℕ) → IsHeldBy (Some (word u)) v w n → number n ≡ v
slot_of_word u v w n h =
    let t = held_word u v w n h in
    ap (λ (k : ℕ). number k) t.2 ∙ sym t.1

pub slot_of_memory : (p : Content) (a d : ℕ) (v : meaning.Value) (m : Memory) → IsLinkTo p (Some (memory a d)) v m → ((a ≤ 16) × IsMemory p a m) × (words (words_of p a m) ≡ v)
slot_of_memory p a d v m h =
    let t = link_words p a d v m h in
    ((t.2, t.3), ap (λ (ws : List ℕ). words ws) t.4 ∙ sym t.1)

-- what is loaded from a memory
pub memory_loaded : (p : Content) (om oi : Option Sort) (vm : meaning.Value) (m : Memory) (s : CodeSort) → IsSome (load_sort om oi) → om ≡ Some (as_sort s) → IsTrue (is_sort (as_sort s))
    → IsLinkTo p om vm m → (ws wn : ℕ) → IsHeldBy om vm ws wn → IsMemoryOf p (as_sort s) m × (words_at_link p (as_sort s) m ≡ as_words vm)
memory_loaded p om oi vm m s i e r l w n h = by_sort (as_sort s) (rw e at i) r (rw e at l) (rw e at h)
  where
    by_value : (a d : ℕ) → IsTrue (is_sort (memory a d)) → (v : meaning.Value) → IsLinkTo p (Some (memory a d)) v m → IsHeldBy (Some (memory a d)) v w n → IsMemoryOf p (memory a d) m × (words_of p a m ≡ as_words v)
    by_value a d r (truth_value b) l h = absurd l
    by_value a d r (number k) l h = absurd l
    by_value a d r (words ws) l h =
        ((l.0, l.1, (both (nat_le 1 a && nat_le a 16) (is_width d) r).1, subst (λ (ys : List ℕ). IsTrue (all_below d ys)) (sym l.2) h.3), l.2)

    by_sort : (t : Sort) → IsSome (load_sort (Some t) oi) → IsTrue (is_sort t) → IsLinkTo p (Some t) vm m → IsHeldBy (Some t) vm w n → IsMemoryOf p t m × (words_at_link p t m ≡ as_words vm)
    by_sort truth i r l h = absurd (false≢true i)
    by_sort (word u) i r l h = absurd (false≢true i)
    by_sort (memory a d) i r l h = by_value a d r vm l h

-- a word of a memory fits its width, and so does the 0 past the last one
pub below_anywhere : (d : ℕ) (ws : List ℕ) (k : ℕ) → IsTrue (all_below d ws) → get_or ws k 0 < 2 ^ d
below_anywhere d [] k h = pow_pos d
below_anywhere d (w ∷ ws) zero h = below w (2 ^ d) (both (nat_lt w (2 ^ d)) (all_below d ws) h).0
below_anywhere d (w ∷ ws) (suc k) h = below_anywhere d ws k (both (nat_lt w (2 ^ d)) (all_below d ws) h).1

pub width_bounds : (w : ℕ) → IsTrue (is_width w) → (1 ≤ w) × (w ≤ 128)
width_bounds w h =
    let t = both (nat_le 1 w) (nat_le w 128) h in
    (at_most 1 w t.0, at_most w 128 t.1)
  where
    at_most : (a b : ℕ) → IsTrue (nat_le a b) → a ≤ b
    at_most a b h = grind (arith, nat_tests)

some_of : (b : Bool) (s : Sort) → IsSome (some_if b s) → some_if b s ≡ Some s
some_of true s h = refl
some_of false s h = absurd (false≢true h)

loads : (om oi : Option Sort) → IsSome (load_sort om oi) → (a : ℕ) × (d : ℕ) × (om ≡ Some (memory a d)) × (oi ≡ Some (word a)) × (load_sort om oi ≡ Some (word d))
loads om oi s =
    let t = load_sorts om oi s in
    (t.0, t.1, t.2, t.3, by_parts om oi t.0 t.1 t.2 t.3 s)
  where
    by_parts : (m i : Option Sort) (a d : ℕ) → m ≡ Some (memory a d) → i ≡ Some (word a) → IsSome (load_sort m i) → load_sort m i ≡ Some (word d)
    by_parts m i a d e f s = rw (e, f) (some_of (a == a) (word d) (rw (e, f) at s))

-- the word that is loaded
pub loaded_held : (p : Content) (om oi : Option Sort) (vm vi : meaning.Value) (wm nm wi ni v n : ℕ) (m : Memory) (s : CodeSort) → IsSome (load_sort om oi) → om ≡ Some (as_sort s)
    → IsHeldBy om vm wm nm → IsHeldBy oi vi wi ni → IsLinkTo p om vm m → v ≡ word_width (Some (as_sort s)) → n ≡ get_or (words_at_link p (as_sort s) m) ni 0
    → IsHeldBy (load_sort om oi) (number (get_or (as_words vm) (as_number vi) 0)) v n
loaded_held p om oi vm vi wm nm wi ni v n m s i e hm hi l f g =
    let t = loads om oi i in
    let a = t.0 in
    let d = t.1 in
    let sort : as_sort s ≡ memory a d = same_memory (as_sort s) a d (sym e ∙ t.2) in
    let q = held_memory a d vm wm nm (rw t.2 at hm) in
    let k = held_word a vi wi ni (rw t.3 at hi) in
    let x = link_words p a d vm m (rw t.2 at l) in
    let width : v ≡ d = f ∙ ap (λ (o : Sort). word_width (Some o)) sort in
    let words_same : words_of p a m ≡ q.0 = x.4 ∙ ap as_words (sym x.1 ∙ q.1) in
    let value : n ≡ get_or q.0 k.0 0 =
    g ∙ ap (λ (o : Sort). get_or (words_at_link p o m) ni 0) sort ∙ ap (λ (ws : List ℕ). get_or ws ni 0) words_same ∙ ap (λ (j : ℕ). get_or q.0 j 0) k.2 in
    rw (t.4, q.1, k.1) (width, value, below_anywhere d q.0 k.0 q.3)

-- No other term is a memory.
abbrev IsPlain : Option Sort → Type 0
IsPlain None = ⊤
IsPlain (Some truth) = ⊤
IsPlain (Some (word w)) = ⊤
IsPlain (Some (memory a d)) = ⊥

plain_truth : (b : Bool) → IsPlain (some_if b truth)
plain_truth true = tt
plain_truth false = tt

plain_word : (b : Bool) (w : ℕ) → IsPlain (some_if b (word w))
plain_word true w = tt
plain_word false w = tt

plain_bits : (o : Option Sort) → IsPlain (bits_sort o)
plain_bits None = tt
plain_bits (Some truth) = tt
plain_bits (Some (word w)) = tt
plain_bits (Some (memory a d)) = tt

plain_word_sort : (o : Option Sort) → IsPlain (word_sort o)
plain_word_sort None = tt
plain_word_sort (Some truth) = tt
plain_word_sort (Some (word w)) = tt
plain_word_sort (Some (memory a d)) = tt

plain_same_word : (o q : Option Sort) → IsPlain (same_word_sort o q)
plain_same_word (Some (word w)) (Some (word u)) = plain_word (w == u) w
plain_same_word _ _ = tt

plain_same_bits : (o q : Option Sort) → IsPlain (same_bits_sort o q)
plain_same_bits (Some truth) (Some truth) = tt
plain_same_bits (Some (word w)) (Some (word u)) = plain_word (w == u) w
plain_same_bits _ _ = tt

plain_compared : (o : Option Sort) → IsPlain (compared o)
plain_compared None = tt
plain_compared (Some s) = tt

plain_concat : (o q : Option Sort) → IsPlain (concat_sort o q)
plain_concat (Some (word w)) (Some (word u)) = plain_word _ (w + u)
plain_concat _ _ = tt

plain_extract : (i j : ℕ) (o : Option Sort) → IsPlain (extract_sort i j o)
plain_extract i j (Some (word w)) = plain_word _ _
plain_extract i j _ = tt

plain_extended : (u : ℕ) (o : Option Sort) → IsPlain (extended_sort u o)
plain_extended u (Some (word w)) = plain_word _ u
plain_extended u _ = tt

plain_load : (o q : Option Sort) → IsPlain (load_sort o q)
plain_load (Some (memory a d)) (Some (word w)) = plain_word (w == a) d
plain_load _ _ = tt

plain_node : (g : Graph) (n : Node) → ((m : NameId) → n ≡ NameNode m → ⊥) → ((c x y : TermId) → n ≡ Ite c x y → ⊥) → ((m i x : TermId) → n ≡ Store m i x → ⊥) → IsPlain (sort_of (tree_of_node g n))
plain_node g (NameNode m) f c s = absurd (f m refl)
plain_node g (Truth b) f c s = tt
plain_node g (Const w x) f c s = plain_word _ w
plain_node g (Not x) f c s = plain_bits (sort_of (tree g x.0))
plain_node g (And x y) f c s = plain_same_bits (sort_of (tree g x.0)) (sort_of (tree g y.0))
plain_node g (Or x y) f c s = plain_same_bits (sort_of (tree g x.0)) (sort_of (tree g y.0))
plain_node g (Xor x y) f c s = plain_same_bits (sort_of (tree g x.0)) (sort_of (tree g y.0))
plain_node g (Neg x) f c s = plain_word_sort (sort_of (tree g x.0))
plain_node g (Add x y) f c s = plain_same_word (sort_of (tree g x.0)) (sort_of (tree g y.0))
plain_node g (Sub x y) f c s = plain_same_word (sort_of (tree g x.0)) (sort_of (tree g y.0))
plain_node g (Mul x y) f c s = plain_same_word (sort_of (tree g x.0)) (sort_of (tree g y.0))
plain_node g (Shl x y) f c s = plain_same_word (sort_of (tree g x.0)) (sort_of (tree g y.0))
plain_node g (Lshr x y) f c s = plain_same_word (sort_of (tree g x.0)) (sort_of (tree g y.0))
plain_node g (Ashr x y) f c s = plain_same_word (sort_of (tree g x.0)) (sort_of (tree g y.0))
plain_node g (Eq x y) f c s = plain_compared _
plain_node g (Ult x y) f c s = plain_compared _
plain_node g (Ule x y) f c s = plain_compared _
plain_node g (Slt x y) f c s = plain_compared _
plain_node g (Sle x y) f c s = plain_compared _
plain_node g (Concat x y) f c s = plain_concat (sort_of (tree g x.0)) (sort_of (tree g y.0))
plain_node g (Extract i j x) f c s = plain_extract i j _
plain_node g (Zext w x) f c s = plain_extended w _
plain_node g (Sext w x) f c s = plain_extended w _
plain_node g (Ite b x y) f c s = absurd (c b x y refl)
plain_node g (Load m i) f c s = plain_load (sort_of (tree g m.0)) (sort_of (tree g i.0))
plain_node g (Store m i x) f c s = absurd (s m i x refl)

plain_link : (p : Content) (o : Option Sort) (v : meaning.Value) (m : Memory) → IsPlain o → IsLinkTo p o v m
plain_link p None v m h = tt
plain_link p (Some truth) v m h = tt
plain_link p (Some (word w)) v m h = tt
plain_link p (Some (memory a d)) v m h = absurd h

pub other_link : (g : Graph) (p : Content) (id : ℕ) (n : Node) (v : meaning.Value) (m : Memory) → tree g id ≡ tree_of_node g n → ((m : NameId) → n ≡ NameNode m → ⊥) → ((c x y : TermId) → n ≡ Ite c x y → ⊥)
    → ((m i x : TermId) → n ≡ Store m i x → ⊥) → IsLinkTo p (sort_of (tree g id)) v m
other_link g p id n v m t f c s = plain_link p (sort_of (tree g id)) v m (subst (λ (x : Term). IsPlain (sort_of x)) (sym t) (plain_node g n f c s))

-- what is kept of a term, as it is read
pub word_read : (g : Graph) (xs : List meaning.Value) (ws : List Word) (k : ℕ) (w : Word) → IsWordHeld g xs ws k → w ≡ get_or ws k w → IsHeldBy (sort_of (tree g k)) (value_at g xs k) w.width w.value
word_read g xs ws k w h e = subst (λ (x : Word). IsHeldBy (sort_of (tree g k)) (value_at g xs k) x.width x.value) (sym e) (h w)

pub link_read : (g : Graph) (xs : List meaning.Value) (p : Content) (ls : List Memory) (k : ℕ) (m : Memory) → IsLinkHeld g xs p ls k → m ≡ link_at ls k → IsLinkTo p (sort_of (tree g k)) (value_at g xs k) m
link_read g xs p ls k m h e = subst (λ (x : Memory). IsLinkTo p (sort_of (tree g k)) (value_at g xs k) x) (sym e) h
