-- Words of memories.
use Rattle.std.proofs.Common.{◌≡◌, ℕ, ◌+◌, ◌-◌, ◌*◌, ◌/◌, ◌%◌, ◌<◌, ◌≤◌, ◌^◌, min, max, Bool, true, false, cond, not, ◌&&◌, nat_le, nat_lt, List, length, Option, Some, None, refl, sym, ap, ◌∙◌, subst, arith, ⊎_elim, ℤ, pos, negsuc, ◌-ℤ◌, slice_index, eq-eqb}
use Rattle.std.specs.Prelude.{IsTrue, IfSome, is_some, option_and_then, ◌==◌, int_lt}
use Rattle.std.proofs.Math.Nat.{mod-eq_of_lt, div-one}
use Rattle.std.proofs.Math.Pow.{pow_pos, pow_mono}
use Rattle.std.proofs.lemmas.Bool.{false≢true, cases_lt}
use Rattle.std.proofs.lemmas.Bool.Decides.{nat_tests}
use Rattle.std.proofs.lemmas.Int.{ints}
use borrow.Author.Tests.{lt-ltb, le-ltb, lt-leb, le-leb}
use Rattle.wb_values.specs.Value.{Name, Sort, truth, word, memory, Value, truth_value, number, words, as_number, as_words, Valuation}
use Rattle.wb_values.specs.Number.{word_sub, word_extract}
use Rattle.wb_values.specs.Choice.{some_if}
use Rattle.model_meaning.specs.Term.{Term, load, is_width, is_sort, load_sort, sort_of, val}
use Rattle.verilog_trees.specs.Syntax.{Expression, index}
use Rattle.verilog_meaning.specs.Expression.{Object, Scope, distance, object_width, is_memory, word_number, word_or_zero, indexed_word, integer_from, sign_of, width_of, value_of}
use Rattle.verilog_meaning.specs.Register.{word_count, words_between}
use Rattle.verilog_meaning.specs.Settled.{IsAddressWidth, AreWords, IsValueOf}
use Rattle.wb_terms.specs.Graph.{Graph, tree}
use Rattle.wb_terms.proofs.InRange.{is_sort-sort_of}
use Rattle.v_operators.specs.Meaning.{Grows, IsOfSort, HasNumber, Makes, Compares, Chooses}
use Rattle.v_operators.proofs.Growing.{Grows-trans, IsOfSort-kept, number_kept, truth_kept, tree_kept}
use Rattle.v_operators.proofs.Forms.{formed}
use Rattle.v_lower.specs.Lowered.{Images, IsSortOf, IsImage, has_sort, has_number, HasImages, StandsFor, IsLoweredAlone}
use Rattle.v_bits.specs.Moving.{near, IsPlace, at_place, below_zero, far_above, far_below}
use Rattle.v_lower.specs.Reading.{IsWordRead, Loads, loaded}
use Rattle.v_lower.proofs.Lowering.{stands_before}
use Rattle.v_bits.proofs.Shifting.{place-sub, address_room, near-place}

-- ---- the sort of a memory's term

memory_sort : (g : Graph) (id a d : ℕ) → IsOfSort g id (memory a d) → is_sort (memory a d) ≡ true
memory_sort g id a d o = is_sort-sort_of (tree g id) (memory a d) o.sort

and_left : (x y : Bool) → x && y ≡ true → x ≡ true
and_left true y h = refl
and_left false y h = absurd (false≢true h)

and_right : (x y : Bool) → x && y ≡ true → y ≡ true
and_right true y h = h
and_right false y h = absurd (false≢true h)

at_least : (m n : ℕ) → nat_le m n ≡ true → m ≤ n
at_least m n h = grind (arith, nat_tests, h)

module _ (g : Graph) (id a d : ℕ) (o : IsOfSort g id (memory a d)) where
  pub some_address : 1 ≤ a
  some_address = at_least 1 a (and_left _ _ (and_left _ _ (memory_sort g id a d o)))

  pub few_addresses : a ≤ 16
  few_addresses = at_least a 16 (and_right _ _ (and_left _ _ (memory_sort g id a d o)))

  pub some_bits : 1 ≤ d
  some_bits = at_least 1 d (and_left _ _ (and_right _ _ (memory_sort g id a d o)))

  pub at_most_128 : d ≤ 128
  at_most_128 = at_least d 128 (and_right _ _ (and_right _ _ (memory_sort g id a d o)))

-- ---- the term that loads

whole_address : (a : ℕ) → 1 ≤ a → a - 1 + 1 - 0 ≡ a
whole_address a h = omega (arith, h)

load_sorted : (m i : Option Sort) (a d : ℕ) → m ≡ Some (memory a d) → i ≡ Some (word a) → load_sort m i ≡ Some (word d)
load_sorted m i a d e f = ap (λ o. load_sort o i) e ∙ (ap (load_sort (Some (memory a d))) f ∙ ap (λ b. some_if b (word d)) (eq-eqb a a refl))

pub load_sort_of : (g : Graph) (m i a d : ℕ) → 1 ≤ a → IsOfSort g m (memory a d) → IsOfSort g i (word (a - 1 + 1 - 0)) → sort_of (load (tree g m) (tree g i)) ≡ Some (word d)
load_sort_of g m i a d s o q = load_sorted (sort_of (tree g m)) (sort_of (tree g i)) a d o.sort (subst (λ k. sort_of (tree g i) ≡ Some (word k)) (whole_address a s) q.sort)

pub load_made : (g h i j k l n : Graph) (m place limit within address read naught id a d : ℕ) → IsOfSort g m (memory a d) → IsOfSort g place (word 64)
    → Grows g h → ((p : Valuation) → HasNumber h limit 64 p (2 ^ a))
    → Grows h i → Compares h i place limit 64 within (λ x y. int_lt (integer_from false 64 x) (integer_from false 64 y))
    → Grows i j → Makes i j place 64 address (a - 1 + 1 - 0) (word_extract (a - 1) 0)
    → Grows j k → read < length k.nodes → tree k read ≡ load (tree j m) (tree j address)
    → Grows k l → ((p : Valuation) → HasNumber l naught d p 0)
    → Chooses l n within read naught d id → Loads g n m place id d (loaded a)
load_made g h i j k l n m place limit within address read naught id a d o q gh is_limit hi is_within ij is_address jk below e kl is_zero r =
    record {
      of_sort = r.of_sort;
      value = λ p xs b is_xs fits is_b.
          let gi : Grows g i = Grows-trans gh hi in
          let gj : Grows g j = Grows-trans gi ij in
          let said = truth_kept within p (nat_lt b (2 ^ a)) (Grows-trans ij (Grows-trans jk kl)) is_within.of_sort.below (is_within.value p b (2 ^ a) (number_kept place 64 p b gh q.below is_b) (is_limit p)) in
          let at : HasNumber j address (a - 1 + 1 - 0) p (word_extract (a - 1) 0 b) = is_address.value p b (number_kept place 64 p b gi q.below is_b) in
          let where_at : word_extract (a - 1) 0 b ≡ b % 2 ^ a = (ap (λ z. b / 2 ^ 0 % 2 ^ z) (whole_address a (some_address g m a d o)) ∙ ap (λ z. z % 2 ^ a) (div-one b)) in
          let words_at : val (tree j m) p ≡ words xs = ap (λ (t : Term). val t p) (tree_kept m gj o.below) ∙ is_xs in
          let got : val (tree k read) p ≡ number (slice_index xs (b % 2 ^ a)) =
          ap (λ (t : Term). val t p) e ∙ (ap (λ z. number (slice_index (as_words z) (as_number (val (tree j address) p)))) words_at ∙ (ap (λ z. number (slice_index xs (as_number z))) at.value ∙ ap (λ z. number (slice_index xs z)) where_at)) in
          let word_at : HasNumber k read d p (slice_index xs (b % 2 ^ a)) = record { value = got; fits = fits (b % 2 ^ a) } in
          r.value p (nat_lt b (2 ^ a)) (slice_index xs (b % 2 ^ a)) 0 said (number_kept read d p (slice_index xs (b % 2 ^ a)) kl below word_at) (is_zero p);
    }

-- ---- what it is worth

-- the word with a number from the least address on
module _ (f l a : ℕ) (xs : List ℕ) (few : a ≤ 16) (small_f : f < 2 ^ 32) (small_l : l < 2 ^ 32) (enough : distance f l + 1 ≤ 2 ^ a) (past : (k : ℕ) → distance f l + 1 ≤ k → slice_index xs k ≡ 0) where
  power : 2 ^ a ≤ 2 ^ 16
  power = pow_mono few

  -- a place past all words
  far : (b : ℕ) → 2 ^ 16 ≤ b → loaded a xs b ≡ 0
  far b h = ap (λ t. cond t (slice_index xs (b % 2 ^ a)) 0) (le-ltb b (2 ^ a) (omega (arith, h, power)))

  near_by : (b : ℕ) → b < 2 ^ a → loaded a xs b ≡ slice_index xs b
  near_by b h = ap (λ t. cond t (slice_index xs (b % 2 ^ a)) 0) (lt-ltb b (2 ^ a) h) ∙ ap (slice_index xs) (mod-eq_of_lt {n = b} {m = 2 ^ a} h)

  not_there : (b : ℕ) → distance f l + 1 ≤ b → loaded a xs b ≡ 0
  not_there b h = ⊎_elim (λ lt. near_by b lt ∙ past b h) (λ le. ap (λ t. cond t (slice_index xs (b % 2 ^ a)) 0) (le-ltb b (2 ^ a) le)) (cases_lt b (2 ^ a))

  -- an address that is in range, and one that is not
  inside : (i b : ℕ) → min f l ≤ i → i ≤ max f l → b ≡ i - min f l → loaded a xs b ≡ word_or_zero (word_number (f, l) (pos i)) (words xs)
  inside i b low high e =
      let t : nat_le (min f l) i && nat_le i (max f l) ≡ true = ap (λ z. z && nat_le i (max f l)) (le-leb _ _ low) ∙ le-leb _ _ high in
      near_by b (omega (arith, e, enough, low, high)) ∙ (ap (slice_index xs) e ∙ ap (λ z. word_or_zero (cond z (Some (i - min f l)) None) (words xs)) (sym t))

  above : (i : ℕ) → max f l < i → word_or_zero (word_number (f, l) (pos i)) (words xs) ≡ 0
  above i h = ap (λ z. word_or_zero (cond (nat_le (min f l) i && z) (Some (i - min f l)) None) (words xs)) (lt-leb _ _ h) ∙ none (nat_le (min f l) i) where
    none : (t : Bool) → word_or_zero (cond (t && false) (Some (i - min f l)) None) (words xs) ≡ 0
    none true = refl
    none false = refl

  under : (i : ℕ) → i < min f l → word_or_zero (word_number (f, l) (pos i)) (words xs) ≡ 0
  under i h = ap (λ z. word_or_zero (cond (z && nat_le i (max f l)) (Some (i - min f l)) None) (words xs)) (lt-leb _ _ h)

  pub loaded-word : (z : ℤ) (b : ℕ) → IsPlace (2 ^ 60) (2 ^ 62 + 2 ^ 34) (z -ℤ pos (min f l)) b → loaded a xs b ≡ word_or_zero (word_number (f, l) z) (words xs)
  loaded-word (pos i) b (at_place e h) =
      let s : i ≡ min f l + b = omega (arith, ints, e) in
      ⊎_elim (λ lt. not_there b (omega (arith, s, lt)) ∙ sym (above i lt))
      (λ le. inside i b (omega (arith, s)) le (omega (arith, s))) (cases_lt (max f l) i)
  loaded-word (pos i) b (below_zero e m h) = let s : i + 2 ^ 64 ≡ min f l + b = omega (arith, ints, e) in far b (omega (arith, m)) ∙ sym (under i (omega (arith, s, h)))
  loaded-word (pos i) b (far_above k e m n u) = let s : i ≡ min f l + k = omega (arith, ints, e) in far b (omega (arith, n)) ∙ sym (above i (omega (arith, s, m, small_f, small_l)))
  loaded-word (pos i) b (far_below k e m n u) = let s : i + k ≡ min f l = omega (arith, ints, e) in far b (omega (arith, n)) ∙ sym (under i (omega (arith, s, m)))
  loaded-word (negsuc i) b (at_place e h) = absurd (omega (arith, ints, e))
  loaded-word (negsuc i) b (below_zero e m h) = far b (omega (arith, m))
  loaded-word (negsuc i) b (far_above k e m n u) = far b (omega (arith, n))
  loaded-word (negsuc i) b (far_below k e m n u) = far b (omega (arith, n))

-- ---- of a name

memory_image : (g : Graph) (o : Object) (id : ℕ) (t : Sort) → is_memory o ≡ true → IsSortOf o t → IsOfSort g id t → (a : ℕ) × (d : ℕ) × IsOfSort g id (memory a d)
memory_image g o id truth m h q = absurd h
memory_image g o id (word w) m h q = absurd (false≢true (sym (ap not m) ∙ h.0))
memory_image g o id (memory a d) m h q = (a, d, q)

pub image_memory : (s : Scope) (im : Images) (g : Graph) (n : Name) (id : ℕ) → HasImages s im g → is_memory (s n) ≡ true → im n ≡ Some id → (a : ℕ) × (d : ℕ) × IsOfSort g id (memory a d)
image_memory s im g n id known m e = let i = known.image n id e in memory_image g (s n) id i.sort m i.of_name i.of_sort

-- a term has one sort
same_shape : (a d b e : ℕ) → Some (memory a d) ≡ Some (memory b e) → (a ≡ b) × (d ≡ e)
same_shape a d b e h = (ap address h, ap bits h) where
  address : Option Sort → ℕ
  address (Some (memory x y)) = x
  address _ = 0

  bits : Option Sort → ℕ
  bits (Some (memory x y)) = y
  bits _ = 0

no_word : (a d w : ℕ) → Some (memory a d) ≡ Some (word w) → ⊥
no_word a d w h = false≢true (sym (ap is_memory_sort h)) where
  is_memory_sort : Option Sort → Bool
  is_memory_sort (Some (memory x y)) = true
  is_memory_sort _ = false

shape_of : (g : Graph) (o : Object) (id a d : ℕ) (t : Sort) → IsSortOf o t → IsOfSort g id t → IsOfSort g id (memory a d) → IsAddressWidth (word_count o) a × (d ≡ object_width o)
shape_of g o id a d truth h q r = absurd h
shape_of g o id a d (word w) h q r = absurd (no_word a d w (sym r.sort ∙ q.sort))
shape_of g o id a d (memory b e) h q r =
    let s = same_shape a d b e (sym r.sort ∙ q.sort) in
    (subst (IsAddressWidth (word_count o)) (sym s.0) h.1, s.1 ∙ h.2)

words_of_value : (o : Object) (x : Value) → is_memory o ≡ true → IsValueOf o x → (xs : List ℕ) × (x ≡ words xs) × AreWords (word_count o) (object_width o) xs
words_of_value o (number x) m h = absurd (false≢true (sym (ap not m) ∙ h.0))
words_of_value o (words xs) m h = (xs, refl, h.1)
words_of_value o (truth_value b) m h = absurd h

-- where an object has addresses
addresses_of : (o : Object) → is_memory o ≡ true → (x : ℕ × ℕ) × (o.addresses ≡ Some x)
addresses_of o m = there o.addresses m where
  there : (q : Option (ℕ × ℕ)) → is_some q ≡ true → (x : ℕ × ℕ) × (q ≡ Some x)
  there (Some x) h = (x, refl)
  there None h = absurd (false≢true h)

-- the word of a memory by an index
module _ (s : Scope) (im : Images) (g h i k : Graph) (n : Name) (m base close place id a d : ℕ) (t : Bool) (u least : ℕ) where
  pub word_read : HasImages s im g → is_memory (s n) ≡ true → im n ≡ Some m → IsOfSort g m (memory a d) → IsOfSort g base (word u)
      → Grows g h → Makes g h base u close 64 (near t u) → Grows h i → Makes h i close 64 place 64 (λ x. word_sub 64 x least)
      → Grows i k → Loads i k m place id d (loaded a)
      → IfSome (s n).addresses (λ x. (least ≡ min x.0 x.1) × (x.0 < 2 ^ 32) × (x.1 < 2 ^ 32))
      → (e : Expression) → IsLoweredAlone s im g e u base → t ≡ sign_of s e → IsWordRead s im k n (index e) d id
  word_read known is_mem is_m o q gh is_close hi is_place ik is_loaded bounds e alone is_t =
      let image = known.image n m is_m in
      let shape = shape_of g (s n) m a d image.sort image.of_name image.of_sort o in
      let x = addresses_of (s n) is_mem in
      let facts = subst (λ z. IfSome z (λ x. (least ≡ min x.0 x.1) × (x.0 < 2 ^ 32) × (x.1 < 2 ^ 32))) x.1 bounds in
      record {
        width = shape.1;
        of_sort = is_loaded.of_sort;
        value = λ p v st.
            let gi : Grows g i = Grows-trans gh hi in
            let st0 = stands_before s im g k p v (Grows-trans gi ik) known st in
            let w = words_of_value (s n) (v n) is_mem (st0.fits n m is_m) in
            let y : ℕ = value_of s v e u (sign_of s e) in
            let at_base : HasNumber g base u p y = alone.lowered.value p v st0 in
            let at_place_ : HasNumber i place 64 p (word_sub 64 (near t u y) least) = is_place.value p (near t u y) (is_close.value p y at_base) in
            let worth : val (tree i m) p ≡ words w.0 = ap (λ (r : Term). val r p) (tree_kept m gi o.below) ∙ (st0.same n m is_m ∙ w.1) in
            let got : HasNumber k id d p (loaded a w.0 (word_sub 64 (near t u y) least)) = is_loaded.value p w.0 (word_sub 64 (near t u y) least) worth (λ j. subst (λ z. slice_index w.0 j < 2 ^ z) (sym shape.1) (w.2.narrow j)) at_place_ in
            let is_near : IsPlace (2 ^ 61) (2 ^ 62) (integer_from t u y) (near t u y) = near-place t u y at_base.fits in
            let small : least ≤ 2 ^ 33 = omega (arith, facts.0, facts.1) in
            let moved_to = place-sub (2 ^ 61) (2 ^ 62) (2 ^ 60) (2 ^ 62 + 2 ^ 34) (2 ^ 33) least address_room small (integer_from t u y) (near t u y) is_near in
            let count : word_count (s n) ≡ distance x.0.0 x.0.1 + 1 = ap words_between x.1 in
            let enough : distance x.0.0 x.0.1 + 1 ≤ 2 ^ a = subst (λ z. z ≤ 2 ^ a) count shape.0.enough in
            let past : (j : ℕ) → distance x.0.0 x.0.1 + 1 ≤ j → slice_index w.0 j ≡ 0 = λ j l. w.2.past j (subst (λ z. z ≤ j) (sym count) l) in
            let same : loaded a w.0 (word_sub 64 (near t u y) least) ≡ word_or_zero (word_number (x.0.0, x.0.1) (integer_from t u y)) (words w.0) =
            loaded-word x.0.0 x.0.1 a w.0 (few_addresses g m a d o) facts.1 facts.2 enough past (integer_from t u y) (word_sub 64 (near t u y) least)
            (subst (λ z. IsPlace (2 ^ 60) (2 ^ 62 + 2 ^ 34) (integer_from t u y -ℤ pos z) (word_sub 64 (near t u y) least)) facts.0 moved_to) in
            subst (λ z. HasNumber k id d p z)
            (same
            ∙ ap (λ z. word_or_zero (word_number x.0 (integer_from z u y)) (words w.0)) is_t
            ∙ ap (λ z. word_or_zero (word_number x.0 (integer_from (sign_of s e) z (value_of s v e z (sign_of s e)))) (words w.0)) alone.width
            ∙ ap (λ z. word_or_zero (word_number x.0 (integer_from (sign_of s e) (width_of s e) (value_of s v e (width_of s e) (sign_of s e)))) z) (sym w.1)
            ∙ ap (λ z. word_or_zero (option_and_then (λ q. word_number q (integer_from (sign_of s e) (width_of s e) (value_of s v e (width_of s e) (sign_of s e)))) z) (v n)) (sym x.1))
            got;
      }
