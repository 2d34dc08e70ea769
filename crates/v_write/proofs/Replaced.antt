-- Terms that are worth what a name holds after a number was written to some of its bits.
use Rattle.std.proofs.Common.{◌≡◌, ℕ, ◌+◌, ◌-◌, ◌/◌, ◌%◌, ◌^◌, ◌<◌, ◌≤◌, min, Bool, true, false, cond, not, ◌&&◌, nat_le, nat_lt, List, length, Option, Some, None, refl, ap, sym, subst, ◌∙◌, arith, slice_index, slice_set, eq-eqb, ℤ, pos, ◌-ℤ◌}
use Rattle.std.specs.Prelude.{IfSome, is_some, option_and_then, ◌==◌}
use Rattle.std.proofs.Math.Pow.{pow_mono}
use Rattle.std.proofs.Math.Nat.{mod-eq_of_lt, div-one}
use Rattle.std.proofs.lemmas.Bool.{false≢true}
use Rattle.std.proofs.lemmas.Bool.Decides.{nat_tests}
use Rattle.wb_values.specs.Value.{Sort, truth, word, memory, Value, truth_value, number, words, as_number, as_words, as_truth, Valuation}
use Rattle.wb_values.specs.Number.{word_sub, word_extract}
use Rattle.wb_values.specs.Choice.{some_if}
use Rattle.model_meaning.specs.Term.{Term, load, ite, same_sort, load_sort, ite_sort, sort_of, val}
use Rattle.verilog_meaning.specs.Expression.{Object, Bits, distance, object_width, is_memory, word_number, integer_from, place_of_bit}
use Rattle.verilog_meaning.specs.Statement.{indexed_cell, cell_at, all_bits, with_bits, with_bits_at, written_cell}
use Rattle.verilog_meaning.specs.Register.{word_count, words_between}
use Rattle.verilog_meaning.specs.Settled.{IsAddressWidth, AreWords, IsValueOf}
use Rattle.wb_terms.specs.Graph.{Graph, tree}
use Rattle.wb_terms.specs.declared.nodes.TermId.{TermId}
use Rattle.v_value.specs.Scope.{object_of}
use Rattle.v_value.specs.Index.{span_of}
use Rattle.v_value.specs.declared.select.Span.{Span}
use Rattle.v_bits.specs.declared.operand.Operand.{Operand}
use Rattle.v_bits.specs.declared.selecting.Wanted.{Wanted}
use Rattle.v_operators.specs.Meaning.{Grows, IsOfSort, HasNumber, HasTruth, Makes, Joins}
use Rattle.v_operators.proofs.Growing.{Grows-trans, IsOfSort-kept, number_kept, tree_kept}
use Rattle.v_operators.proofs.Forms.{formed}
use Rattle.v_bits.specs.Moving.{IsPlace, near}
use Rattle.v_bits.specs.Writing.{Unites, Stores, written_from, stored}
use Rattle.v_bits.proofs.Shifting.{place-sub, address_room, near-place}
use Rattle.v_bits.proofs.Stores.{some_address, few_addresses}
use Rattle.v_lower.specs.Lowered.{IsSortOf, has_sort}
use Rattle.verilog_rules.specs.Expression.{has_many_words}
use Rattle.v_write.specs.declared.part.Part.{Part}
use Rattle.v_write.specs.declared.part.PartBits.{PartBits}
use Rattle.v_write.specs.declared.part.PartBits.TheVariants.{All, Known, Moving}
use Rattle.v_write.specs.Parts.{worth, index_meant, cell_meant, bits_meant, IsNumber, HasAddress, HaveIndex, AreBits}
use Rattle.v_write.specs.Guard.{IsGuard, Guards}
use Rattle.v_write.specs.Changed.{ChangesWord, ChangesMemory, Reads, IsTermOf, IsChoice}
use Rattle.v_write.specs.Written.{Changes}
use Rattle.v_write.proofs.Cells.{all_written, words_at, stored-cell, words_written}

-- ---- a word

pub whole_changed : (o : Object) (g : Graph) (q : PartBits) (old value n w : ℕ) → q ≡ All → w ≡ object_width o → AreBits o g n q → IsOfSort g value (word n) → ChangesWord o g g q old value n value w
whole_changed o g q old value n w i e h sort =
    let same : n ≡ w = subst (AreBits o g n) i h ∙ sym e in
    record {
      of_sort = subst (λ k. IsOfSort g value (word k)) same sort;
      value = λ p a x indexes is_a is_x.
          let fits : x < 2 ^ w = subst (λ k. x < 2 ^ k) same is_x.fits in
          let r : with_bits w a (all_bits o) x ≡ x = subst (λ k. with_bits k a (all_bits o) x ≡ x) (sym e) (all_written o a x (subst (λ k. a < 2 ^ k) e is_a.fits) (subst (λ k. x < 2 ^ k) e fits)) in
          subst (λ z. HasNumber g value w p (with_bits w a (bits_meant o g p z) x)) (sym i) (record { value = is_x.value ∙ ap number (sym r); fits = subst (λ z. z < 2 ^ w) (sym r) fits });
    }

pub known_changed : (o : Object) (g h : Graph) (q : PartBits) (b : Span) (old value n id w : ℕ) → q ≡ Known b → AreBits o g n q → Joins g h old w value b.count id w (λ a x. with_bits_at w a (span_of b).low (span_of b).count x)
    → ChangesWord o g h q old value n id w
known_changed o g h q b old value n id w i e j =
    let same : n ≡ b.count = subst (AreBits o g n) i e in
    record {
      of_sort = j.of_sort;
      value = λ p a x indexes is_a is_x.
          subst (λ z. HasNumber h id w p (with_bits w a (bits_meant o g p z) x)) (sym i)
          (j.value p a x is_a (subst (λ k. HasNumber g value k p x) same is_x));
    }

pub moving_changed : (o : Object) (g h : Graph) (q : PartBits) (c : Wanted) (i : Operand) (old value n id w : ℕ) → q ≡ Moving c i → AreBits o g n q
    → Unites g h old w value c.count i.id.0 i.width id w (written_from (object_of c.object) c.back c.count i.signed i.width w)
    → ChangesWord o g h q old value n id w
moving_changed o g h q c i old value n id w is e u =
    let k = subst (AreBits o g n) is e in
    record {
      of_sort = u.of_sort;
      value = λ p a x indexes is_a is_x.
          let at : IsNumber g p i = subst (HaveIndex g p) is indexes in
          let got = u.value p a x (worth g p i.id.0) is_a (subst (λ m. HasNumber g value m p x) k.0 is_x) at in
          subst (λ z. HasNumber h id w p (with_bits w a (bits_meant o g p z) x)) (sym is)
          (subst (λ z. HasNumber h id w p (with_bits_at w a (place_of_bit z (index_meant g p i) -ℤ pos c.back) c.count x)) k.1 got);
    }

-- the bits that are meant, where the store has grown
pub bits_before : (o : Object) (g i : Graph) (q : PartBits) (n : ℕ) → Grows g i → AreBits o g n q → (p : Valuation) → HaveIndex g p q → HaveIndex i p q × (bits_meant o i p q ≡ bits_meant o g p q)
bits_before o g i All n grows bits p indexes = (tt, refl)
bits_before o g i (Known b) n grows bits p indexes = (tt, refl)
bits_before o g i (Moving m k) n grows bits p indexes =
    let kept : worth i p k.id.0 ≡ worth g p k.id.0 = ap (λ (t : Term). as_number (val t p)) (tree_kept k.id.0 grows bits.3.below) in
    let now : IsNumber i p k = subst (λ z. HasNumber i k.id.0 k.width p z) (sym kept) (number_kept k.id.0 k.width p (worth g p k.id.0) grows bits.3.below indexes) in
    (now, ap (λ z. record { low = place_of_bit o (integer_from k.signed k.width z) -ℤ pos m.back; count = m.count }) kept)

pub changed_before : (o : Object) (g i h : Graph) (q : PartBits) (old value n id w : ℕ) → Grows g i → AreBits o g n q → IsOfSort g value (word n) → ChangesWord o i h q old value n id w
    → (p : Valuation) (a x : ℕ) → HaveIndex g p q → HasNumber i old w p a → HasNumber g value n p x → HasNumber h id w p (with_bits w a (bits_meant o g p q) x)
changed_before o g i h q old value n id w grows bits sort c p a x indexes is_a is_x =
    let f = bits_before o g i q n grows bits p indexes in
    subst (λ z. HasNumber h id w p (with_bits w a z x)) f.1 (c.value p a x f.0 is_a (number_kept value n p x grows sort.below is_x))

-- ---- a memory

-- the sort of the term of a memory
memory_image : (g : Graph) (o : Object) (id : ℕ) (t : Sort) → is_memory o ≡ true → IsSortOf o t → IsOfSort g id t → (a : ℕ) × (d : ℕ) × IsOfSort g id (memory a d)
memory_image g o id truth m h q = absurd h
memory_image g o id (word w) m h q = absurd (false≢true (sym (ap not m) ∙ h.0))
memory_image g o id (memory a d) m h q = (a, d, q)

pub term_memory : (o : Object) (g : Graph) (id : ℕ) → is_memory o ≡ true → IsTermOf o g id → (a : ℕ) × (d : ℕ) × IsOfSort g id (memory a d)
term_memory o g id m i = memory_image g o id i.sort m i.of_name i.of_sort

-- a term has one sort
same_shape : (a d b e : ℕ) → Some (memory a d) ≡ Some (memory b e) → (a ≡ b) × (d ≡ e)
same_shape a d b e h = (ap address h, ap bits h) where
  address : Option Sort → ℕ
  address (Some (memory x y)) = x
  address _ = 0

  bits : Option Sort → ℕ
  bits (Some (memory x y)) = y
  bits _ = 0

no_word : (a d w : ℕ) → Some (memory a d) ≡ Some (word w) → ⊥
no_word a d w h = false≢true (sym (ap is_memory_sort h)) where
  is_memory_sort : Option Sort → Bool
  is_memory_sort (Some (memory x y)) = true
  is_memory_sort _ = false

shape_of : (g : Graph) (o : Object) (id a d : ℕ) (t : Sort) → IsSortOf o t → IsOfSort g id t → IsOfSort g id (memory a d) → IsAddressWidth (word_count o) a × (d ≡ object_width o)
shape_of g o id a d truth h q r = absurd h
shape_of g o id a d (word w) h q r = absurd (no_word a d w (sym r.sort ∙ q.sort))
shape_of g o id a d (memory b e) h q r =
    let s = same_shape a d b e (sym r.sort ∙ q.sort) in
    (subst (IsAddressWidth (word_count o)) (sym s.0) h.1, s.1 ∙ h.2)

pub term_shape : (o : Object) (g : Graph) (id a d : ℕ) → IsTermOf o g id → IsOfSort g id (memory a d) → IsAddressWidth (word_count o) a × (d ≡ object_width o)
term_shape o g id a d i q = shape_of g o id a d i.sort i.of_name i.of_sort q

pub few_words : (o : Object) (g : Graph) (id a d : ℕ) → IsTermOf o g id → IsOfSort g id (memory a d) → word_count o ≤ 2 ^ 16
few_words o g id a d i q =
    let enough : word_count o ≤ 2 ^ a = (term_shape o g id a d i q).0.enough in
    let most : 2 ^ a ≤ 2 ^ 16 = pow_mono (few_addresses g id a d q) in
    omega (arith, enough, most)

words_of_value : (o : Object) (x : Value) → is_memory o ≡ true → IsValueOf o x → (xs : List ℕ) × (x ≡ words xs) × AreWords (word_count o) (object_width o) xs
words_of_value o (number x) m h = absurd (false≢true (sym (ap not m) ∙ h.0))
words_of_value o (words xs) m h = (xs, refl, h.1)
words_of_value o (truth_value b) m h = absurd h

-- the word of a memory at a place of 64 bits, cut to an address
whole_address : (a : ℕ) → 1 ≤ a → a - 1 + 1 - 0 ≡ a
whole_address a h = omega (arith, h)

load_sorted : (m i : Option Sort) (a d : ℕ) → m ≡ Some (memory a d) → i ≡ Some (word a) → load_sort m i ≡ Some (word d)
load_sorted m i a d e f = ap (λ o. load_sort o i) e ∙ (ap (load_sort (Some (memory a d))) f ∙ ap (λ b. some_if b (word d)) (eq-eqb a a refl))

pub load_sort_of : (g : Graph) (m i a d : ℕ) → IsOfSort g m (memory a d) → IsOfSort g i (word (a - 1 + 1 - 0)) → sort_of (load (tree g m) (tree g i)) ≡ Some (word d)
load_sort_of g m i a d o q = load_sorted (sort_of (tree g m)) (sort_of (tree g i)) a d o.sort (subst (λ k. sort_of (tree g i) ≡ Some (word k)) (whole_address a (some_address g m a d o)) q.sort)

pub read_made : (g h k : Graph) (m place address id a d : ℕ) → IsOfSort g m (memory a d) → IsOfSort g place (word 64)
    → Grows g h → Makes g h place 64 address (a - 1 + 1 - 0) (word_extract (a - 1) 0)
    → Grows h k → id < length k.nodes → tree k id ≡ load (tree h m) (tree h address) → Reads g k m place id a d
read_made g h k m place address id a d o q gh is_address hk below e =
    let sorted : sort_of (load (tree h m) (tree h address)) ≡ Some (word d) = load_sort_of h m address a d (IsOfSort-kept m (memory a d) gh o) is_address.of_sort in
    record {
      of_sort = formed k id (load (tree h m) (tree h address)) (word d) below e sorted;
      value = λ p xs b is_xs fits is_b.
          let at : HasNumber h address (a - 1 + 1 - 0) p (word_extract (a - 1) 0 b) = is_address.value p b is_b in
          let where_at : word_extract (a - 1) 0 b ≡ b % 2 ^ a = (ap (λ z. b / 2 ^ 0 % 2 ^ z) (whole_address a (some_address g m a d o)) ∙ ap (λ z. z % 2 ^ a) (div-one b)) in
          let words_are : val (tree h m) p ≡ words xs = ap (λ (t : Term). val t p) (tree_kept m gh o.below) ∙ is_xs in
          let got : val (tree k id) p ≡ number (slice_index xs (b % 2 ^ a)) =
          ap (λ (t : Term). val t p) e ∙ (ap (λ z. number (slice_index (as_words z) (as_number (val (tree h address) p)))) words_are ∙ (ap (λ z. number (slice_index xs (as_number z))) at.value ∙ ap (λ z. number (slice_index xs z)) where_at)) in
          record { value = got; fits = fits (b % 2 ^ a) };
    }

-- The word that is stored: what stands at the place, with some bits replaced.
abbrev pub filled : Object → ℕ → List ℕ → Bits → ℕ → ℕ → ℕ
filled o a xs b x k = with_bits (object_width o) (slice_index xs (k % 2 ^ a)) b x

stored_so : (n a b : ℕ) (xs : List ℕ) (f : ℕ → ℕ) → n ≤ 2 ^ a → stored n xs b (f (b % 2 ^ a)) ≡ cond (nat_lt b n) (slice_set xs b (f b)) xs
stored_so n a b xs f room = by (nat_lt b n) refl where
  by : (t : Bool) → nat_lt b n ≡ t → cond t (slice_set xs b (f (b % 2 ^ a))) xs ≡ cond t (slice_set xs b (f b)) xs
  by true e =
      let below : b < n = grind (arith, nat_tests, e) in
      ap (λ k. slice_set xs b (f k)) (mod-eq_of_lt {n = b} {m = 2 ^ a} (omega (arith, below, room)))
  by false e = refl

addresses_of : (o : Object) → is_memory o ≡ true → (x : ℕ × ℕ) × (o.addresses ≡ Some x)
addresses_of o m = there o.addresses m where
  there : (q : Option (ℕ × ℕ)) → is_some q ≡ true → (x : ℕ × ℕ) × (q ≡ Some x)
  there (Some x) h = (x, refl)
  there None h = absurd (false≢true h)

-- The place of the word, the word that is stored, and the memory after it: old is the memory's term, i its index.
module _ (o : Object) (g h k l m : Graph) (q : PartBits) (i : Operand) (old value n close place fill id a d least count : ℕ) where
  pub memory_changed : is_memory o ≡ true → IsOfSort g old (memory a d) → IsAddressWidth (word_count o) a → d ≡ object_width o → IsOfSort g i.id.0 (word i.width)
      → Grows g h → Makes g h i.id.0 i.width close 64 (near i.signed i.width) → Grows h k → Makes h k close 64 place 64 (λ x. word_sub 64 x least)
      → Grows k l → ChangesMemory o g k l q old place value n fill a d
      → Stores l m old place fill id a d (stored count)
      → IfSome o.addresses (λ x. (least ≡ min x.0 x.1) × (x.0 < 2 ^ 32) × (x.1 < 2 ^ 32)) → count ≡ word_count o
      → (p : Valuation) (v : Value) (x : ℕ) → IsNumber g p i → HaveIndex g p q → val (tree g old) p ≡ v → IsValueOf o v → HasNumber g value n p x
      → val (tree m id) p ≡ written_cell o v (indexed_cell o (index_meant g p i)) (bits_meant o g p q) x
  memory_changed is_mem sort shape is_d index gh is_close hk is_place kl is_fill is_stored bounds is_count p v x at indexes is_v fits is_x =
      let y : ℕ = worth g p i.id.0 in
      let z : ℤ = integer_from i.signed i.width y in
      let gk : Grows g k = Grows-trans gh hk in
      let w = words_of_value o v is_mem fits in
      let b : ℕ = word_sub 64 (near i.signed i.width y) least in
      let at_place : HasNumber k place 64 p b = is_place.value p (near i.signed i.width y) (is_close.value p y at) in
      let worth_old : val (tree g old) p ≡ words w.0 = is_v ∙ w.1 in
      let c : ℕ = with_bits (object_width o) (slice_index w.0 (b % 2 ^ a)) (bits_meant o g p q) x in
      let at_fill : HasNumber l fill d p c = is_fill.value p w.0 b x indexes worth_old (λ j. w.2.narrow j) at_place is_x in
      let worth_after : val (tree l old) p ≡ words w.0 = ap (λ (r : Term). val r p) (tree_kept old (Grows-trans gk kl) sort.below) ∙ worth_old in
      let got : val (tree m id) p ≡ words (stored count w.0 b c) = is_stored.value p w.0 b c worth_after (number_kept place 64 p b kl is_place.of_sort.below at_place) at_fill in
      let f = addresses_of o is_mem in
      let facts = subst (λ e. IfSome e (λ r. (least ≡ min r.0 r.1) × (r.0 < 2 ^ 32) × (r.1 < 2 ^ 32))) f.1 bounds in
      let is_near = near-place i.signed i.width y at.fits in
      let small : least ≤ 2 ^ 33 = omega (arith, facts.0, facts.1) in
      let moved_to = place-sub (2 ^ 61) (2 ^ 62) (2 ^ 60) (2 ^ 62 + 2 ^ 34) (2 ^ 33) least address_room small z (near i.signed i.width y) is_near in
      let size : count ≡ distance f.0.0 f.0.1 + 1 = is_count ∙ ap words_between f.1 in
      let room : count ≤ 2 ^ a = subst (λ e. e ≤ 2 ^ a) (sym is_count) shape.enough in
      let fill_at : ℕ → ℕ = λ j. with_bits (object_width o) (slice_index w.0 j) (bits_meant o g p q) x in
      let same : stored count w.0 b c ≡ words_at w.0 fill_at (cell_at (word_number (f.0.0, f.0.1) z)) =
      stored_so count a b w.0 fill_at room
      ∙ (ap (λ e. cond (nat_lt b e) (slice_set w.0 b (fill_at b)) w.0) size
      ∙ stored-cell f.0.0 f.0.1 w.0 fill_at facts.1 facts.2 z b (subst (λ e. IsPlace (2 ^ 60) (2 ^ 62 + 2 ^ 34) (z -ℤ pos e) b) facts.0 moved_to)) in
      got ∙ (ap words same
      ∙ (ap (λ e. words (words_at w.0 fill_at (cell_at (option_and_then (λ r. word_number r z) e)))) (sym f.1)
      ∙ (sym (words_written o w.0 (option_and_then (λ r. word_number r z) o.addresses) (bits_meant o g p q) x)
      ∙ ap (λ e. written_cell o e (indexed_cell o z) (bits_meant o g p q) x) (sym w.1))))

-- the word that is stored, where all of it is written and where some bits are
pub all_filled : (o : Object) (k : Graph) (q : PartBits) (old place value n a d : ℕ) → q ≡ All → d ≡ object_width o → AreBits o k n q → IsOfSort k value (word n) → ChangesMemory o k k k q old place value n value a d
all_filled o k q old place value n a d i e h sort =
    let same : n ≡ d = subst (AreBits o k n) i h ∙ sym e in
    record {
      of_sort = subst (λ z. IsOfSort k value (word z)) same sort;
      value = λ p xs b x indexes is_xs narrow is_b is_x.
          let fits : x < 2 ^ object_width o = subst (λ z. x < 2 ^ z) (same ∙ e) is_x.fits in
          let r : with_bits (object_width o) (slice_index xs (b % 2 ^ a)) (all_bits o) x ≡ x = all_written o (slice_index xs (b % 2 ^ a)) x (narrow (b % 2 ^ a)) fits in
          let now : HasNumber k value d p x = subst (λ z. HasNumber k value z p x) same is_x in
          subst (λ z. HasNumber k value d p (with_bits (object_width o) (slice_index xs (b % 2 ^ a)) (bits_meant o k p z) x)) (sym i) (subst (λ z. HasNumber k value d p z) (sym r) now);
    }

pub bits_filled : (o : Object) (k i l : Graph) (q : PartBits) (old place value read n id a d : ℕ) → d ≡ object_width o → Grows k i → IsOfSort k old (memory a d) → AreBits o k n q → IsOfSort k value (word n)
    → Reads k i old place read a d → ChangesWord o i l q read value n id d → ChangesMemory o k k l q old place value n id a d
bits_filled o k i l q old place value read n id a d e ki sort h is_value r c =
    record {
      of_sort = c.of_sort;
      value = λ p xs b x indexes is_xs narrow is_b is_x.
          let at : HasNumber i read d p (slice_index xs (b % 2 ^ a)) = r.value p xs b is_xs (λ j. subst (λ z. slice_index xs j < 2 ^ z) (sym e) (narrow j)) is_b in
          subst (λ z. HasNumber l id d p (with_bits z (slice_index xs (b % 2 ^ a)) (bits_meant o k p q) x)) e
          (changed_before o k i l q read value n id d ki h is_value c p (slice_index xs (b % 2 ^ a)) x indexes at is_x);
    }

-- the same where the store has grown before the place was put
pub filled_before : (o : Object) (g k l : Graph) (q : PartBits) (old place value n id a d : ℕ) → Grows g k → IsOfSort g old (memory a d) → AreBits o g n q → IsOfSort g value (word n)
    → ChangesMemory o k k l q old place value n id a d → ChangesMemory o g k l q old place value n id a d
filled_before o g k l q old place value n id a d gk sort h is_value c =
    record {
      of_sort = c.of_sort;
      value = λ p xs b x indexes is_xs narrow is_b is_x.
          let f = bits_before o g k q n gk h p indexes in
          subst (λ z. HasNumber l id d p (with_bits (object_width o) (slice_index xs (b % 2 ^ a)) z x)) f.1
          (c.value p xs b x f.0 (ap (λ (t : Term). val t p) (tree_kept old gk sort.below) ∙ is_xs) narrow is_b (number_kept value n p x gk is_value.below is_x));
    }

-- ---- a name

word_image : (g : Graph) (o : Object) (id : ℕ) (t : Sort) → is_memory o ≡ false → IsSortOf o t → IsOfSort g id t → IsOfSort g id (word (object_width o)) × (t ≡ word (object_width o))
word_image g o id truth m h q = absurd h
word_image g o id (word w) m h q = (subst (λ k. IsOfSort g id (word k)) h.1 q, ap word h.1)
word_image g o id (memory a d) m h q = absurd (false≢true (sym m ∙ h.0))

pub term_word : (o : Object) (g : Graph) (id : ℕ) → is_memory o ≡ false → IsTermOf o g id → IsOfSort g id (word (object_width o))
term_word o g id m i = (word_image g o id i.sort m i.of_name i.of_sort).0

number_of_value : (o : Object) (x : Value) → is_memory o ≡ false → IsValueOf o x → (x ≡ number (as_number x)) × (as_number x < 2 ^ object_width o)
number_of_value o (number x) m h = (refl, h.1)
number_of_value o (words xs) m h = absurd (false≢true (sym m ∙ h.0))
number_of_value o (truth_value b) m h = absurd h

-- what is no memory
pub name_changed : (o : Object) (g h : Graph) (q : Part) (old value id w : ℕ) → q.address ≡ None → is_memory o ≡ false → w ≡ object_width o
    → ChangesWord o g h q.bits old value q.count id w → Changes o g h q old value id
name_changed o g h q old value id w none m e c =
    record {
      of_sort = λ t so r. let f = word_image g o old t m so r in subst (λ z. IsOfSort h id z) (ap word e ∙ sym f.1) c.of_sort;
      value = λ p v x indexes is_v fits is_x.
          let f = number_of_value o v m fits in
          let was : HasNumber g old w p (as_number v) = record { value = is_v ∙ f.0; fits = subst (λ k. as_number v < 2 ^ k) (sym e) f.1 } in
          let got = c.value p (as_number v) x indexes.1 was is_x in
          got.value ∙ (ap (λ k. number (with_bits k (as_number v) (bits_meant o g p q.bits) x)) e
          ∙ ap (λ z. written_cell o v (cell_meant o g p z) (bits_meant o g p q.bits) x) (sym none));
    }

-- a memory
memory_sorted : (g h : Graph) (o : Object) (old id a d : ℕ) (t : Sort) → IsSortOf o t → IsOfSort g old t → IsOfSort g old (memory a d) → IsOfSort h id (memory a d) → IsOfSort h id t
memory_sorted g h o old id a d t so q r n = subst (λ z. IsOfSort h id z) (ap sort (sym r.sort ∙ q.sort)) n where
  sort : Option Sort → Sort
  sort (Some z) = z
  sort None = truth

pub name_stored : (o : Object) (g h : Graph) (q : Part) (i : Operand) (old value id a d : ℕ) → q.address ≡ Some i → IsOfSort g old (memory a d) → IsOfSort h id (memory a d)
    → ((p : Valuation) (v : Value) (x : ℕ) → IsNumber g p i → HaveIndex g p q.bits → val (tree g old) p ≡ v → IsValueOf o v → HasNumber g value q.count p x
    → val (tree h id) p ≡ written_cell o v (indexed_cell o (index_meant g p i)) (bits_meant o g p q.bits) x)
    → Changes o g h q old value id
name_stored o g h q i old value id a d some was n worth_new =
    record {
      of_sort = λ t so r. memory_sorted g h o old id a d t so r was n;
      value = λ p v x indexes is_v fits is_x.
          let at : IsNumber g p i = subst (HasAddress g p) some indexes.0 in
          worth_new p v x at indexes.1 is_v fits is_x
          ∙ ap (λ z. written_cell o v (cell_meant o g p z) (bits_meant o g p q.bits) x) (sym some);
    }

-- ---- a choice between two terms of one sort

same_sorts : (t : Sort) → same_sort t t ≡ true
same_sorts truth = refl
same_sorts (word w) = eq-eqb w w refl
same_sorts (memory a d) = ap (λ b. b && (d == d)) (eq-eqb a a refl) ∙ eq-eqb d d refl

chosen_sort : (c x y : Option Sort) (t : Sort) → c ≡ Some truth → x ≡ Some t → y ≡ Some t → ite_sort c x y ≡ Some t
chosen_sort c x y t e f k =
    ap (λ o. ite_sort o x y) e ∙ (ap (λ o. ite_sort (Some truth) o y) f ∙ (ap (ite_sort (Some truth) (Some t)) k ∙ ap (λ b. some_if b t) (same_sorts t)))

pub choice_sort : (g : Graph) (c x y : ℕ) (t : Sort) → IsOfSort g c truth → IsOfSort g x t → IsOfSort g y t → sort_of (ite (tree g c) (tree g x) (tree g y)) ≡ Some t
choice_sort g c x y t o q r = chosen_sort (sort_of (tree g c)) (sort_of (tree g x)) (sort_of (tree g y)) t o.sort q.sort r.sort

pub choice_made : (g h : Graph) (guard : Option TermId) (k : TermId) (x y id : ℕ) → guard ≡ Some k → IsGuard g guard → id < length h.nodes → tree h id ≡ ite (tree g k.0) (tree g x) (tree g y)
    → IsChoice g h guard x y id
choice_made g h guard k x y id is there below e =
    record {
      of_sort = λ t o q. formed h id (ite (tree g k.0) (tree g x) (tree g y)) t below e (choice_sort g k.0 x y t (subst (IsGuard g) is there) o q);
      value = λ p b c.
          let said : HasTruth g k.0 p b = subst (λ z. Guards g p z b) is c in
          ap (λ (t : Term). val t p) e ∙ ap (λ z. cond (as_truth z) (val (tree g x) p) (val (tree g y) p)) said.value;
    }

pub choice_none : (g : Graph) (guard : Option TermId) (x y : ℕ) → guard ≡ None → IsChoice g g guard x y x
choice_none g guard x y is =
    record { of_sort = λ t o q. o; value = λ p b c. ap (λ z. cond z (val (tree g x) p) (val (tree g y) p)) (sym (subst (λ z. Guards g p z b) is c)) }

-- an object that has a sort has at most 128 bits
pub sort_width : (o : Object) → has_sort o ≡ true → object_width o ≤ 128
sort_width o h = most o.is_declared (nat_le (object_width o) 128) (not (has_many_words o.addresses)) refl h where
  most : (a b c : Bool) → nat_le (object_width o) 128 ≡ b → a && (b && c) ≡ true → object_width o ≤ 128
  most true true c e h = grind (arith, nat_tests, e)
  most true false c e h = absurd (false≢true h)
  most false b c e h = absurd (false≢true h)

pub word_of_width : (o : Object) (g : Graph) (id w : ℕ) → w ≡ object_width o → is_memory o ≡ false → IsTermOf o g id → IsOfSort g id (word w)
word_of_width o g id w e m i = subst (λ k. IsOfSort g id (word k)) (sym e) (term_word o g id m i)
