-- The images of memories and loads.
use Rattle.std.proofs.Common.{◌≡◌, ℕ, zero, suc, ◌+◌, ◌<◌, ◌≤◌, ◌^◌, Bool, true, false, cond, ◌&&◌, List, [], ◌∷◌, ◌++◌, length, get_or, set, nat_le, nat_lt, Option, Some, None, IsTrue, refl, sym, ap, ◌∙◌, subst, arith}
use Rattle.std.proofs.Common.{inl, inr, ◌⊎◌}
use Rattle.std.specs.Prelude.{◌==◌, slice_index, slice_set, nat_eq, IsSome, is_some}
use Rattle.std.proofs.lemmas.Map.Views.{exact_unsigned_eq}
use Rattle.std.proofs.lemmas.List.{get_or_default, get_or_push, get_or_append_left}
use Rattle.std.proofs.lemmas.Bool.{false≢true, cases_lt, eq-eqb}
use Rattle.std.proofs.lemmas.Bool.Decides.{nat_tests}
use Rattle.wb_values.specs.Value.{Name, Sort, truth, word, memory, Value, truth_value, number, words, as_truth, as_number, as_words, Valuation, HasSort, Entries}
use Rattle.std.proofs.Math.Pow.{pow_mono}
use Rattle.wb_values.specs.Choice.{some_if}
use Rattle.model_meaning.specs.Term.{Term, name, const, eq, ite, load, store, sort_of, same_sort, ite_sort, load_sort, store_sort, is_sort, is_width, is_equal, val}
use Rattle.wb_terms.specs.Graph.{Graph, IsOver, tree, tree_of_node, AllBelow, operands_of}
use Rattle.wb_terms.specs.declared.nodes.TermId.{TermId}
use Rattle.wb_terms.specs.declared.nodes.Node.{Node}
use Rattle.wb_terms.specs.declared.nodes.Node.TheVariants.{Const}
use Rattle.wb_terms.proofs.ValueSorts.{NamesFit, HasSort-val}
use Rattle.wb_terms.proofs.InRange.{is_sort-sort_of}
use Rattle.wb_terms.proofs.EnvironmentLemmas.{length-memory}
use Rattle.wb_terms.proofs.HeldLemmas.{both, below, same_number, load_sorts, store_sorts}
use Rattle.sat_gates.specs.Names.{is_blastable}
use Rattle.sat_gates.proofs.Reached.{AreDone, done_more}
use Rattle.ob_mem.specs.declared.words.MemoryWord.{MemoryWord}
use Rattle.ob_mem.specs.declared.rows.Row.TheVariants.{Names, Choices, Matches, Constants, Updates}
use Rattle.ob_mem.specs.Words.{entry_at, word_count, word_width}
use Rattle.ob_mem.specs.Spread.{IsSpread}
use Rattle.ob_mem.specs.Rows.{Grows, IsRow, node_in, tree_in, AreOver, IsPlain, AreWords, HoldWords}
use Rattle.ob_mem.specs.Images.{Means, IsImageOf, IsImage, HasImage, HasFirsts, HasWord, IsNoMemory, id_or, image_of, const_part}
use Rattle.ob_mem.proofs.Growing.{Grows-trans, IsPlain-kept, val_kept, row_grows, row_plain, row_val}
use Rattle.ob_mem.proofs.Choosing.{choices_words, choices_value}

-- what a sort says of a value
pub truth_form : (x : Value) → HasSort x truth → x ≡ truth_value (as_truth x)
truth_form (truth_value b) h = refl
truth_form (number n) h = absurd (false≢true h)
truth_form (words ws) h = absurd (false≢true h)

pub number_form : (x : Value) (d : ℕ) → HasSort x (word d) → x ≡ number (as_number x)
number_form (truth_value b) d h = absurd (false≢true h)
number_form (number n) d h = refl
number_form (words ws) d h = absurd (false≢true h)

pub number_below : (x : Value) (d : ℕ) → HasSort x (word d) → as_number x < 2 ^ d
number_below (truth_value b) d h = absurd (false≢true h)
number_below (number n) d h = below n (2 ^ d) h
number_below (words ws) d h = absurd (false≢true h)

pub memory_length : (x : Value) (a d : ℕ) → HasSort x (memory a d) → length (as_words x) ≡ 2 ^ a
memory_length (truth_value b) a d h = absurd (false≢true h)
memory_length (number n) a d h = absurd (false≢true h)
memory_length (words ws) a d h = length-memory a d ws h

-- images under the sort that a term has
pub memory_image : (es : Entries Sort) (rs : List MemoryWord) (h : Graph) (id : ℕ) (t : Term) (a d : ℕ) → sort_of t ≡ Some (memory a d) → IsImage es rs h id t
    → (k : ℕ) → k < 2 ^ a → Means es rs h (id + k) (word d) (λ v. number (slice_index (as_words (val t v)) k))
memory_image es rs h id t a d e i = subst (λ s. IsImageOf es rs h id s (val t)) e i.image

pub word_image : (es : Entries Sort) (rs : List MemoryWord) (h : Graph) (id : ℕ) (t : Term) (d : ℕ) → sort_of t ≡ Some (word d) → IsImage es rs h id t → Means es rs h id (word d) (val t)
word_image es rs h id t d e i = subst (λ s. IsImageOf es rs h id s (val t)) e i.image

pub truth_image : (es : Entries Sort) (rs : List MemoryWord) (h : Graph) (id : ℕ) (t : Term) → sort_of t ≡ Some truth → IsImage es rs h id t → Means es rs h id truth (val t)
truth_image es rs h id t e i = subst (λ s. IsImageOf es rs h id s (val t)) e i.image

pub image_of_memory : (es : Entries Sort) (rs : List MemoryWord) (h : Graph) (id : ℕ) (t : Term) (a d : ℕ) → sort_of t ≡ Some (memory a d) → ((v w : Valuation) → IsSpread es h.names rs v w → NamesFit v t)
    → ((k : ℕ) → k < 2 ^ a → Means es rs h (id + k) (word d) (λ v. number (slice_index (as_words (val t v)) k))) → IsImage es rs h id t
image_of_memory es rs h id t a d e f i = record { fits = f; image = subst (λ s. IsImageOf es rs h id s (val t)) (sym e) i }

pub image_of_word : (es : Entries Sort) (rs : List MemoryWord) (h : Graph) (id : ℕ) (t : Term) (d : ℕ) → sort_of t ≡ Some (word d) → ((v w : Valuation) → IsSpread es h.names rs v w → NamesFit v t)
    → Means es rs h id (word d) (val t) → IsImage es rs h id t
image_of_word es rs h id t d e f i = record { fits = f; image = subst (λ s. IsImageOf es rs h id s (val t)) (sym e) i }

pub memory_words : (es : Entries Sort) (rs : List MemoryWord) (h : Graph) (id : ℕ) (t : Term) (a d : ℕ) → sort_of t ≡ Some (memory a d) → IsImage es rs h id t → AreWords h id (2 ^ a) d
memory_words es rs h id t a d e i k b = (memory_image es rs h id t a d e i k b).plain

pub memory_holds : (es : Entries Sort) (rs : List MemoryWord) (h : Graph) (id : ℕ) (t : Term) (a d : ℕ) → sort_of t ≡ Some (memory a d) → IsImage es rs h id t
    → (v w : Valuation) → IsSpread es h.names rs v w → HoldWords h w id (2 ^ a) (as_words (val t v)) 0
memory_holds es rs h id t a d e i v w s k b =
    let z : 0 + k ≡ k = omega arith in
    subst (λ j. val (tree h (id + k)) w ≡ number (slice_index (as_words (val t v)) j)) (sym z) ((memory_image es rs h id t a d e i k b).value v w s)

-- images in a store that has grown
Means-kept : {h k : Graph} (es : Entries Sort) (rs : List MemoryWord) (id : ℕ) (s : Sort) (m : Valuation → Value) → Grows h k → Means es rs h id s m → Means es rs k id s m
Means-kept {h} {k} es rs id s m a o =
    record {
      plain = IsPlain-kept id s a o.plain;
      value = λ v w p. val_kept id w (m v) a o.plain.below (o.value v w (subst (λ ns. IsSpread es ns rs v w) a.names p));
    }

IsImageOf-kept : {h k : Graph} (es : Entries Sort) (rs : List MemoryWord) (id : ℕ) (s : Option Sort) (m : Valuation → Value) → Grows h k → IsImageOf es rs h id s m → IsImageOf es rs k id s m
IsImageOf-kept es rs id None m a i = absurd i
IsImageOf-kept es rs id (Some truth) m a i = Means-kept es rs id truth m a i
IsImageOf-kept es rs id (Some (word d)) m a i = Means-kept es rs id (word d) m a i
IsImageOf-kept es rs id (Some (memory b d)) m a i = λ j l. Means-kept es rs (id + j) (word d) (λ v. number (slice_index (as_words (m v)) j)) a (i j l)

pub IsImage-kept : {h k : Graph} (es : Entries Sort) (rs : List MemoryWord) (id : ℕ) (t : Term) → Grows h k → IsImage es rs h id t → IsImage es rs k id t
IsImage-kept {h} {k} es rs id t a i =
    record {
      fits = λ v w p. i.fits v w (subst (λ ns. IsSpread es ns rs v w) a.names p);
      image = IsImageOf-kept es rs id (sort_of t) (val t) a i.image;
    }

-- one image more
images_kept : (g h k : Graph) (rs : List MemoryWord) (n : ℕ) (is js : ℕ → Option TermId) (x : TermId) → Grows h k → ((q : ℕ) → js q ≡ cond (nat_eq n q) (Some x) (is q))
    → IsImage g.names rs k x.0 (tree g n) → (q : ℕ) (b : Bool) → nat_eq n q ≡ b → HasImage g.names rs g h is q → HasImage g.names rs g k js q
images_kept g h k rs n is js x a put new q true e i =
    let at : js q ≡ Some x = put q ∙ ap (λ t. cond t (Some x) (is q)) e in
    (rw at refl, λ d. subst (λ o. IsImage g.names rs k (id_or o d).0 (tree g q)) (sym at) (subst (λ j. IsImage g.names rs k x.0 (tree g j)) (exact_unsigned_eq n q e) new))
images_kept g h k rs n is js x a put new q false e i =
    let at : js q ≡ is q = put q ∙ ap (λ t. cond t (Some x) (is q)) e in
    (subst (λ o. IsSome o) (sym at) i.0, λ d. subst (λ o. IsImage g.names rs k (id_or o d).0 (tree g q)) (sym at) (IsImage-kept g.names rs (id_or (is q) d).0 (tree g q) a (i.1 d)))

pub images_more : (g h k : Graph) (rs : List MemoryWord) (ids : List ℕ) (place n : ℕ) (is js : ℕ → Option TermId) (x : TermId) → Grows h k → n ≡ get_or ids place 0
    → ((q : ℕ) → js q ≡ cond (nat_eq n q) (Some x) (is q)) → IsImage g.names rs k x.0 (tree g n)
    → AreDone (HasImage g.names rs g h is) ids place → AreDone (HasImage g.names rs g k js) ids (place + 1)
images_more g h k rs ids place n is js x a e put new i =
    done_more (HasImage g.names rs g k js) ids place n e here (λ p b. images_kept g h k rs n is js x a put new (get_or ids p 0) (nat_eq n (get_or ids p 0)) refl (i p b))
  where
    here : HasImage g.names rs g k js n
    here =
        let at : js n ≡ Some x = put n ∙ ap (λ t. cond t (Some x) (is n)) (eq-eqb n n refl) in
        (rw at refl, λ d. subst (λ o. IsImage g.names rs k (id_or o d).0 (tree g n)) (sym at) new)

-- sorts of the operands of a choice of memories
same_memory : (s : Sort) (a d : ℕ) (t : Sort) → some_if (same_sort s t) s ≡ Some (memory a d) → (s ≡ memory a d) × (t ≡ memory a d)
same_memory truth a d truth e = cc
same_memory truth a d (word u) e = cc
same_memory truth a d (memory b c) e = cc
same_memory (word w) a d truth e = cc
same_memory (word w) a d (word u) e = absurd (no_word (w == u) w a d e)
  where
    no_word : (t : Bool) (w a d : ℕ) → some_if t (word w) ≡ Some (memory a d) → ⊥
    no_word true w a d e = cc
    no_word false w a d e = cc
same_memory (word w) a d (memory b c) e = cc
same_memory (memory p q) a d truth e = cc
same_memory (memory p q) a d (word u) e = cc
same_memory (memory p q) a d (memory b c) e = by_test ((p == b) && (q == c)) refl e
  where
    by_test : (t : Bool) → ((p == b) && (q == c)) ≡ t → some_if t (memory p q) ≡ Some (memory a d) → (memory p q ≡ memory a d) × (memory b c ≡ memory a d)
    by_test true h e =
        let w = both (p == b) (q == c) h in
        let i : memory p q ≡ memory a d = cc in
        let j : b ≡ p = sym (same_number p b w.0) in
        let k : c ≡ q = sym (same_number q c w.1) in
        (i, ap (λ n. memory n c) j ∙ (ap (memory p) k ∙ i))
    by_test false h e = cc

pub ite_sorts : (c x y : Option Sort) (a d : ℕ) → ite_sort c x y ≡ Some (memory a d) → (c ≡ Some truth) × (x ≡ Some (memory a d)) × (y ≡ Some (memory a d))
ite_sorts (Some truth) (Some s) (Some t) a d e =
    let h = same_memory s a d t e in
    (refl, ap (λ (u : Sort). Some u) h.0, ap (λ (u : Sort). Some u) h.1)
ite_sorts _ _ _ a d e = cc

-- a name of a memory: its words' names in a row
pub leaf_over : (g h : Graph) (rs : List MemoryWord) (firsts : List ℕ) (n first : ℕ) (a d : ℕ) → HasFirsts g.names h.names rs firsts → n < length g.names → get_or firsts n 0 ≡ first
    → (entry_at g.names n).1 ≡ memory a d → IsTrue (is_width d) → AreOver h (Names (record { 0 = first })) (2 ^ a)
leaf_over g h rs firsts n first a d f b at s wide =
    record {
      over = λ k l. record { operands = tt; names = ((word_there k l).below, tt) };
      sorted = λ k l. ap is_some (leaf_sort (first + k) (word_there k l).sort);
    }
  where
    word_there : (k : ℕ) → k < 2 ^ a → HasWord g.names h.names rs n k (first + k)
    word_there k l = subst (λ j. HasWord g.names h.names rs n k (j + k)) at (f.words n k b (subst (λ t. k < word_count t) (sym s) l))

    leaf_sort : (p : ℕ) → (entry_at h.names p).1 ≡ word (word_width (entry_at g.names n).1) → sort_of (name (entry_at h.names p).0 (entry_at h.names p).1) ≡ Some (word d)
    leaf_sort p e = rw (e, s, wide) refl

pub leaf_image : (g h k : Graph) (rs : List MemoryWord) (firsts : List ℕ) (n first : ℕ) (id : ℕ) (a d : ℕ) → HasFirsts g.names h.names rs firsts → n < length g.names → get_or firsts n 0 ≡ first
    → (entry_at g.names n).1 ≡ memory a d → IsTrue (is_width d) → IsTrue (is_sort (memory a d)) → id ≡ length h.nodes → IsRow h k (tree_in h (Names (record { 0 = first }))) (2 ^ a)
    → IsImage g.names rs k id (name (entry_at g.names n).0 (entry_at g.names n).1)
leaf_image g h k rs firsts n first id a d f b at s wide sorted i row =
    image_of_memory g.names rs k id (name (entry_at g.names n).0 (entry_at g.names n).1) a d (rw (s, sorted) refl)
    (λ v w p. p.sorts n b)
    (λ j l. record {
      plain = row_plain h k (tree_in h (Names (record { 0 = first }))) (2 ^ a) id j (word d) row i l (leaf_sort (first + j) (word_there j l).sort) (leaf_plain (first + j) (word_there j l).sort);
      value = λ v w p. row_val h k (tree_in h (Names (record { 0 = first }))) (2 ^ a) id j w _ row i l ((word_there j l).value v w (subst (λ ns. IsSpread g.names ns rs v w) row.names p));
    })
  where
    word_there : (k : ℕ) → k < 2 ^ a → HasWord g.names h.names rs n k (first + k)
    word_there k l = subst (λ j. HasWord g.names h.names rs n k (j + k)) at (f.words n k b (subst (λ t. k < word_count t) (sym s) l))

    leaf_sort : (p : ℕ) → (entry_at h.names p).1 ≡ word (word_width (entry_at g.names n).1) → sort_of (name (entry_at h.names p).0 (entry_at h.names p).1) ≡ Some (word d)
    leaf_sort p e = rw (e, s, wide) refl

    leaf_plain : (p : ℕ) → (entry_at h.names p).1 ≡ word (word_width (entry_at g.names n).1) → is_blastable (name (entry_at h.names p).0 (entry_at h.names p).1) ≡ true
    leaf_plain p e = rw e refl

-- a choice of memories
either : (t : Bool) (xs ys : Value) (k : ℕ) → cond t (number (slice_index (as_words xs) k)) (number (slice_index (as_words ys) k)) ≡ number (slice_index (as_words (cond t xs ys)) k)
either true xs ys k = refl
either false xs ys k = refl

pub choice_image : (g h k : Graph) (rs : List MemoryWord) (c x y ic ix iy : TermId) (id a d : ℕ) → sort_of (ite (tree g c.0) (tree g x.0) (tree g y.0)) ≡ Some (memory a d)
    → IsImage g.names rs h ic.0 (tree g c.0) → IsImage g.names rs h ix.0 (tree g x.0) → IsImage g.names rs h iy.0 (tree g y.0)
    → id ≡ length h.nodes → IsRow h k (tree_in h (Choices ic ix iy)) (2 ^ a) → IsImage g.names rs k id (ite (tree g c.0) (tree g x.0) (tree g y.0))
choice_image g h k rs c x y ic ix iy id a d e p q r i row =
    let s = ite_sorts (sort_of (tree g c.0)) (sort_of (tree g x.0)) (sort_of (tree g y.0)) a d e in
    let mc = truth_image g.names rs h ic.0 (tree g c.0) s.0 p in
    let mx = memory_image g.names rs h ix.0 (tree g x.0) a d s.1 q in
    let my = memory_image g.names rs h iy.0 (tree g y.0) a d s.2 r in
    image_of_memory g.names rs k id (ite (tree g c.0) (tree g x.0) (tree g y.0)) a d e
    (λ v w f. let o = subst (λ ns. IsSpread g.names ns rs v w) row.names f in (p.fits v w o, q.fits v w o, r.fits v w o))
    (λ j l. record {
      plain = choices_words h k ic ix iy id (2 ^ a) d i row mc.plain (λ t b. (mx t b).plain) (λ t b. (my t b).plain) j l;
      value = λ v w f.
          let o = subst (λ ns. IsSpread g.names ns rs v w) row.names f in
          choices_value h k ic ix iy id (2 ^ a) j w _ _ _ i row l (mc.value v w o) ((mx j l).value v w o) ((my j l).value v w o)
          ∙ either (as_truth (val (tree g c.0) v)) (val (tree g x.0) v) (val (tree g y.0) v) j;
    })

-- a memory with a word replaced
pub store_image : (g h k : Graph) (rs : List MemoryWord) (m i x : Term) (im ii ix : TermId) (id a d : ℕ) → sort_of m ≡ Some (memory a d) → sort_of i ≡ Some (word a) → sort_of x ≡ Some (word d) → sort_of (store m i x) ≡ Some (memory a d)
    → IsImage g.names rs h im.0 m → IsImage g.names rs h ii.0 i → IsImage g.names rs h ix.0 x → Grows h k → AreWords k id (2 ^ a) d
    → ((w : Valuation) (xs : List ℕ) (n y : ℕ) → val (tree h ii.0) w ≡ number n → val (tree h ix.0) w ≡ number y → length xs ≡ 2 ^ a → HoldWords h w im.0 (2 ^ a) xs 0 → HoldWords k w id (2 ^ a) (slice_set xs n y) 0)
    → IsImage g.names rs k id (store m i x)
store_image g h k rs m i x im ii ix id a d sm si sx s p q r grows ws vs =
    let mi = word_image g.names rs h ii.0 i a si q in
    let mx = word_image g.names rs h ix.0 x d sx r in
    image_of_memory g.names rs k id (store m i x) a d s
    (λ v w f. let o = subst (λ ns. IsSpread g.names ns rs v w) grows.names f in (p.fits v w o, q.fits v w o, r.fits v w o))
    (λ j l. record {
      plain = ws j l;
      value = λ v w f.
          let o = subst (λ ns. IsSpread g.names ns rs v w) grows.names f in
          let z : 0 + j ≡ j = omega arith in
          let n = number_form (val i v) a (HasSort-val v i (word a) (q.fits v w o) si) in
          let y = number_form (val x v) d (HasSort-val v x (word d) (r.fits v w o) sx) in
          let all = vs w (as_words (val m v)) (as_number (val i v)) (as_number (val x v)) (mi.value v w o ∙ n) (mx.value v w o ∙ y)
          (memory_length (val m v) a d (HasSort-val v m (memory a d) (p.fits v w o) sm)) (memory_holds g.names rs h im.0 m a d sm p v w o) in
          subst (λ t. val (tree k (id + j)) w ≡ number (slice_index (slice_set (as_words (val m v)) (as_number (val i v)) (as_number (val x v))) t)) z (all j l);
    })

-- a load
load_word : (m i : Term) (a d : ℕ) → sort_of m ≡ Some (memory a d) → sort_of i ≡ Some (word a) → sort_of (load m i) ≡ Some (word d)
load_word m i a d p q = rw (p, q, same a) refl
  where
    same : (a : ℕ) → (a == a) ≡ true
    same a = grind (arith, nat_tests)

pub load_image : (g h k : Graph) (rs : List MemoryWord) (m i : Term) (im ii : ℕ) (id a d : ℕ) → sort_of m ≡ Some (memory a d) → sort_of i ≡ Some (word a)
    → IsImage g.names rs h im m → IsImage g.names rs h ii i → Grows h k → IsPlain k id (word d)
    → ((w : Valuation) (xs : List ℕ) (n : ℕ) → val (tree h ii) w ≡ number n → n < 2 ^ a → HoldWords h w im (2 ^ a) xs 0 → val (tree k id) w ≡ number (slice_index xs n))
    → IsImage g.names rs k id (load m i)
load_image g h k rs m i im ii id a d sm si p q grows plain vs =
    let mi = word_image g.names rs h ii i a si q in
    image_of_word g.names rs k id (load m i) d (load_word m i a d sm si)
    (λ v w f. let o = subst (λ ns. IsSpread g.names ns rs v w) grows.names f in (p.fits v w o, q.fits v w o))
    (record {
      plain = plain;
      value = λ v w f.
          let o = subst (λ ns. IsSpread g.names ns rs v w) grows.names f in
          let sorted = HasSort-val v i (word a) (q.fits v w o) si in
          vs w (as_words (val m v)) (as_number (val i v)) (mi.value v w o ∙ number_form (val i v) a sorted) (number_below (val i v) a sorted) (memory_holds g.names rs h im m a d sm p v w o);
    })

-- a load at a constant address picks the word
const_parts : (b : Bool) (w a : ℕ) → some_if b (word w) ≡ Some (word a) → (b ≡ true) × (w ≡ a)
const_parts true w a e = (refl, cc)
const_parts false w a e = cc

pub const_address : (w x a : ℕ) → sort_of (const w x) ≡ Some (word a) → x < 2 ^ a
const_address w x a e =
    let p = const_parts (is_width w && nat_lt x (2 ^ w)) w a e in
    subst (λ n. x < 2 ^ n) p.1 (below x (2 ^ w) (both (is_width w) (nat_lt x (2 ^ w)) p.0).1)

pub picked_image : (g h : Graph) (rs : List MemoryWord) (m i : Term) (im w x a d : ℕ) → i ≡ const w x → sort_of m ≡ Some (memory a d) → sort_of i ≡ Some (word a)
    → IsImage g.names rs h im m → IsImage g.names rs h (im + x) (load m i)
picked_image g h rs m i im w x a d c sm si p =
    let b : x < 2 ^ a = const_address w x a (ap sort_of (sym c) ∙ si) in
    let word' = memory_image g.names rs h im m a d sm p x b in
    image_of_word g.names rs h (im + x) (load m i) d (load_word m i a d sm si)
    (λ v u o. (p.fits v u o, subst (λ (t : Term). NamesFit v t) (sym c) tt))
    (record {
      plain = word'.plain;
      value = λ v u o. word'.value v u o ∙ ap (λ n. number (slice_index (as_words (val m v)) (as_number n))) (sym (ap (λ (t : Term). val t v) c));
    })

same_memories : (m : Option Sort) (a b c d : ℕ) → m ≡ Some (memory a b) → m ≡ Some (memory c d) → (a ≡ c) × (b ≡ d)
same_memories m a b c d e f = let g : Some (memory a b) ≡ Some (memory c d) = sym e ∙ f in (cc, cc)

-- sorts of the operands of a memory with a word replaced
pub update_sorts : (m i x : Option Sort) (a d : ℕ) → store_sort m i x ≡ Some (memory a d) → (m ≡ Some (memory a d)) × (i ≡ Some (word a)) × (x ≡ Some (word d))
update_sorts m i x a d e =
    let s = store_sorts m i x (ap is_some e) in
    let p = same_memories (store_sort m i x) s.0 s.1 a d s.5 e in
    (s.2 ∙ (ap (λ k. Some (memory k s.1)) p.0 ∙ ap (λ k. Some (memory a k)) p.1), s.3 ∙ ap (λ k. Some (word k)) p.0, s.4 ∙ ap (λ k. Some (word k)) p.1)

-- the sort of a name of a memory
pub leaf_parts : (s : Sort) (a d : ℕ) → some_if (is_sort s) s ≡ Some (memory a d) → (s ≡ memory a d) × IsTrue (is_sort (memory a d))
leaf_parts s a d e = by_test (is_sort s) refl e
  where
    by_test : (t : Bool) → is_sort s ≡ t → some_if t s ≡ Some (memory a d) → (s ≡ memory a d) × IsTrue (is_sort (memory a d))
    by_test true h e = let f : s ≡ memory a d = cc in (f, ap is_sort (sym f) ∙ h)
    by_test false h e = cc

-- the operands of a load
pub load_parts_sorts : (m i : Option Sort) (a : ℕ) → IsSome (load_sort m i) → i ≡ Some (word a) → (d : ℕ) × (m ≡ Some (memory a d))
load_parts_sorts m i a s e =
    let l = load_sorts m i s in
    let p : l.0 ≡ a = same_words (Some (word l.0)) l.0 a refl (sym l.3 ∙ e) in
    (l.1, l.2 ∙ ap (λ k. Some (memory k l.1)) p)
  where
    same_words : (s : Option Sort) (a b : ℕ) → s ≡ Some (word a) → s ≡ Some (word b) → a ≡ b
    same_words s a b e f = let g : Some (word a) ≡ Some (word b) = sym e ∙ f in cc

-- what the goal means
pub goal_means : (g h : Graph) (rs qs : List MemoryWord) (is : ℕ → Option TermId) (id x : TermId) → qs ≡ rs → sort_of (tree g id.0) ≡ Some truth → HasImage g.names qs g h is id.0 → x ≡ image_of is id
    → Means g.names rs h x.0 truth (val (tree g id.0))
goal_means g h rs qs is id x e s i at =
    subst (λ ps. Means g.names ps h x.0 truth (val (tree g id.0))) e (truth_image g.names qs h x.0 (tree g id.0) s (subst (λ (y : TermId). IsImage g.names qs h y.0 (tree g id.0)) (sym at) (i.1 id)))

-- the constant of a node
pub const_from_part : (g : Graph) (n : Node) (x : ℕ) (t : Term) → t ≡ tree_of_node g n → Some x ≡ const_part n → (w : ℕ) × (t ≡ const w x)
const_from_part g (Const w y) x t e p = let q : y ≡ x = cc in (w, e ∙ ap (const w) q)
const_from_part g _ x t e p = cc

pub picked_below : (g h : Graph) (rs : List MemoryWord) (m i : Term) (im w x a d : ℕ) → i ≡ const w x → sort_of m ≡ Some (memory a d) → sort_of i ≡ Some (word a) → IsImage g.names rs h im m → im + x < length h.nodes
picked_below g h rs m i im w x a d c sm si p = (memory_image g.names rs h im m a d sm p x (const_address w x a (ap sort_of (sym c) ∙ si))).plain.below

pub address_narrow : (t : Term) (a d : ℕ) → sort_of t ≡ Some (memory a d) → a ≤ 16
address_narrow t a d e = narrow a (both (nat_le 1 a) (nat_le a 16) (both (nat_le 1 a && nat_le a 16) (is_width d) (is_sort-sort_of t (memory a d) e)).0).1
  where
    narrow : (a : ℕ) → IsTrue (nat_le a 16) → a ≤ 16
    narrow a h = grind (arith, nat_tests)

pub memory_bounds : (a d : ℕ) → IsTrue (is_sort (memory a d)) → (1 ≤ a) × (a ≤ 16)
memory_bounds a d h = let b = both (nat_le 1 a) (nat_le a 16) (both (nat_le 1 a && nat_le a 16) (is_width d) h).0 in bounds a b.0 b.1
  where
    bounds : (a : ℕ) → IsTrue (nat_le 1 a) → IsTrue (nat_le a 16) → (1 ≤ a) × (a ≤ 16)
    bounds a g h = (grind (arith, nat_tests), grind (arith, nat_tests))

-- the same read with another default
pub image_by : (es : Entries Sort) (rs : List MemoryWord) (h : Graph) (is : ℕ → Option TermId) (x d : TermId) (t : Term) → x ≡ image_of is d → ((e' : TermId) → IsImage es rs h (id_or (is d.0) e').0 t) → IsImage es rs h x.0 t
image_by es rs h is x d t e f = subst (λ (y : TermId). IsImage es rs h y.0 t) (sym e) (f d)

-- a constant address is small
pub const_small : (m i : Term) (w x a d : ℕ) → i ≡ const w x → sort_of m ≡ Some (memory a d) → sort_of i ≡ Some (word a) → x < 65536
const_small m i w x a d c sm si =
    let b : x < 2 ^ a = const_address w x a (ap sort_of (sym c) ∙ si) in
    let n : 2 ^ a ≤ 2 ^ 16 = pow_mono (address_narrow m a d sm) in
    omega (arith, b, n)
