-- Registers and inputs of a design by their places among its parts, and which values fit them.
use Rattle.std.proofs.Common.{◌≡◌, ◌∙◌, ℕ, zero, suc, ◌^◌, ◌<◌, ◌≤◌, Bool, true, false, cond, not, List, [], ◌∷◌, length, bit_and, Option, Some, None, option_map, refl, sym, ap, subst, arith, min, ◌⊎◌, inl, inr, pow_pos, pow_mono, true≢false}
use Rattle.std.specs.Prelude.{◌==◌, nat_lt, nat_le, is_some, slice_index, slice_index_or, Contains, IsTrue}
use Rattle.std.proofs.lemmas.Bool.{and_parts, and_from, false≢true, cases_lt, lt-ltb, ltb-true, not-true}
use Rattle.std.proofs.lemmas.Bool.Decides.{nat_tests}
use Rattle.std.proofs.lemmas.List.Elements.{Contains-get_or}
use Rattle.std.proofs.lemmas.Slice.Eq.{bytes_eq-Decides}
use Rattle.wb_values.specs.Value.{Name, same_name, Sort, truth, word, memory, Value, truth_value, number, words, all_below, Entries}
use Rattle.serde_json.specs.Data.{Data}
use Rattle.verilog_meaning.specs.Expression.{Object, object_width, is_memory}
use Rattle.verilog_meaning.specs.Register.{word_count, is_bit_of, is_set, value_bit}
use Rattle.verilog_meaning.specs.Hierarchy.{PathStep, Placed, placed_scope, dotted}
use Rattle.verilog_meaning.specs.Settled.{Design, at_path, IsPlacedIn, IsDeclared, IsAddressWidth, is_counted}
use Rattle.verilog_registers.specs.Registers.{IsRegister}
use Rattle.verilog_exists.specs.Exists.{IsOfText}
use Rattle.verilog_exists.proofs.Dots.{dots_tell}
use Rattle.verilog_exists.proofs.Spots.{plain_declared, plain_path}
use Rattle.reports.specs.Report.{IsTraceRegister, IsInput}
use Rattle.trace_files.specs.Shape.{IsValueIn, of_number}
use Rattle.trace_files.specs.Meaning.{FitsObject, IsRegisterValue, IsInputValue}
use Rattle.v_design.specs.Registers.{CountedBits, AreBitsOf}
use Rattle.v_design.specs.Parts.{Parts, registers_of, inputs_of, under_names, bits_by_name, are_bits_of, are_bits_for, is_word, are_words}
use Rattle.v_design.specs.Design.{IsDesignOf, IsSortOf, IsDataInput}
use Rattle.trace_texts.specs.Order.{register_name, input_name, register_bits, is_traced}
use Rattle.trace_texts.proofs.Bits.{set_there, there_set}
use Rattle.trace_reading.specs.Numbers.{numeral_in}
use Rattle.trace_reading.specs.Fitting.{bits_of_input, has_width, is_register_value, place_before, place_in, input_sort, register_fits, input_fits, register_named_fits, input_named_fits}
use Rattle.trace_reading.proofs.Masks.{unset_there, keeps, below_from_mask}
use Rattle.trace_reading.proofs.Shapes.{AllKept, FitsBits, value_there, value_fits, number_there, numeral_of_number, none_some, some_same, AreTests}

-- ---- the place of a name

abbrev name_at : Entries Sort → ℕ → Name
name_at ns k = (slice_index_or ns k ([], truth)).0

pub place_sound : (ns : Entries Sort) (j : ℕ) (n : Name) (k : ℕ) → place_before ns j n ≡ Some k → (k < j) × (name_at ns k ≡ n)
place_sound ns zero n k e = absurd (none_some k e)
place_sound ns (suc j) n k e = by (same_name (name_at ns j) n) refl e (place_sound ns j n k)
  where
    by : (t : Bool) → same_name (name_at ns j) n ≡ t → cond t (Some j) (place_before ns j n) ≡ Some k
        → (place_before ns j n ≡ Some k → (k < j) × (name_at ns k ≡ n)) → (k < suc j) × (name_at ns k ≡ n)
    by true h f r =
        let is : j ≡ k = some_same j k f in
        (omega (arith, is), ap (name_at ns) (sym is) ∙ (bytes_eq-Decides (name_at ns j) n).0 h)
    by false h f r = let q = r f in (omega (arith, q.0), q.1)

pub place_complete : (ns : Entries Sort) (j : ℕ) (n : Name) (k : ℕ) → k < j → name_at ns k ≡ n → (i : ℕ) × (place_before ns j n ≡ Some i)
place_complete ns zero n k l e = absurd (omega (arith, l))
place_complete ns (suc j) n k l e = by (same_name (name_at ns j) n) refl (place_complete ns j n k)
  where
    by : (t : Bool) → same_name (name_at ns j) n ≡ t → (k < j → name_at ns k ≡ n → (i : ℕ) × (place_before ns j n ≡ Some i))
        → (i : ℕ) × (cond t (Some j) (place_before ns j n) ≡ Some i)
    by true h r = (j, refl)
    by false h r = r (before (cases_lt k j)) e
      where
        before : (k < j) ⊎ (j ≤ k) → k < j
        before (inl m) = m
        before (inr m) =
            let is : k ≡ j = omega (arith, m, l) in
            absurd (true≢false (sym ((bytes_eq-Decides (name_at ns j) n).1 (ap (name_at ns) (sym is) ∙ e)) ∙ h))

-- ---- numbers

pub kept_all : (ms xs : List ℕ) → AllKept ms xs → (k : ℕ) → (bit_and (slice_index xs k) (slice_index ms k) == slice_index xs k) ≡ true
kept_all [] [] h k = refl
kept_all [] (x ∷ xs) h k = absurd h
kept_all (m ∷ ms) [] h k = absurd h
kept_all (m ∷ ms) (x ∷ xs) h zero = h.0
kept_all (m ∷ ms) (x ∷ xs) h (suc k) = kept_all ms xs h.1 k

pub kept_length : (ms xs : List ℕ) → AllKept ms xs → length xs ≡ length ms
kept_length [] [] h = refl
kept_length [] (x ∷ xs) h = absurd h
kept_length (m ∷ ms) [] h = absurd h
kept_length (m ∷ ms) (x ∷ xs) h = ap suc (kept_length ms xs h.1)

all_kept : (ms xs : List ℕ) → length xs ≡ length ms → ((k b : ℕ) → is_set (slice_index ms k) b ≡ false → is_set (slice_index xs k) b ≡ false) → AllKept ms xs
all_kept [] [] e h = tt
all_kept [] (x ∷ xs) e h = absurd (omega (arith, e))
all_kept (m ∷ ms) [] e h = absurd (omega (arith, e))
all_kept (m ∷ ms) (x ∷ xs) e h = (keeps x m (h 0), all_kept ms xs (omega (arith, e)) (λ k. h (suc k)))

pub below_words : (w : ℕ) (xs : List ℕ) → ((k : ℕ) → slice_index xs k < 2 ^ w) → all_below w xs ≡ true
below_words w [] h = refl
below_words w (x ∷ xs) h = and_from (nat_lt x (2 ^ w)) (all_below w xs) (lt-ltb x (2 ^ w) (h 0)) (below_words w xs (λ k. h (suc k)))

-- ---- how many bits an address has

abbrev wider_by : Bool → ℕ → ℕ
wider_by true a = a
wider_by false a = suc a

abbrev address_bits : ℕ → ℕ
address_bits zero = 1
address_bits (suc n) = wider_by (nat_le (suc n) (2 ^ address_bits n)) (address_bits n)

above : (x y : ℕ) → 2 ^ x < 2 ^ y → suc x ≤ y
above x y l = elim (cases_lt x y) as (λ _. suc x ≤ y) [ inl k ↦ omega (arith, k) | inr k ↦ absurd (less x y k l) ]
  where
    less : (i j : ℕ) → j ≤ i → 2 ^ i < 2 ^ j → ⊥
    less i j k m = let g : 2 ^ j ≤ 2 ^ i = pow_mono k in omega (arith, g, m)

wider : (n a : ℕ) → IsAddressWidth n a → (t : Bool) → nat_le (suc n) (2 ^ a) ≡ t → IsAddressWidth (suc n) (wider_by t a)
wider n a h true e =
    record {
      at_least_one = h.at_least_one;
      enough = grind (arith, nat_tests, e);
      least = λ b l m. h.least b l (omega (arith, m));
    }
wider n a h false e =
    let more : 2 ^ a < suc n = grind (arith, nat_tests, e) in
    let low = h.at_least_one in
    let full = h.enough in
    let positive : 0 < 2 ^ a = pow_pos a in
    let all : suc n ≤ 2 ^ suc a = omega (arith, full, positive) in
    record {
      at_least_one = omega (arith, low);
      enough = all;
      least = λ b l m. above a b (omega (arith, m, more));
    }

is_address_bits : (n : ℕ) → IsAddressWidth n (address_bits n)
is_address_bits zero = record { at_least_one = omega arith; enough = omega arith; least = λ b l m. l }
is_address_bits (suc n) = wider n (address_bits n) (is_address_bits n) (nat_le (suc n) (2 ^ address_bits n)) refl

some_sort : (o : Object) → (t : Sort) × IsSortOf o t
some_sort o = by (is_memory o) refl
  where
    by : (t : Bool) → is_memory o ≡ t → (s : Sort) × IsSortOf o s
    by true e = (memory (address_bits (word_count o)) (object_width o), (e, is_address_bits (word_count o), refl))
    by false e = (word (object_width o), (ap not e, refl))

-- ---- lists of names

under_at : (ns : Entries Sort) (cs : List CountedBits) (k : ℕ) → IsTrue (are_bits_for ns cs) → k < length ns
    → Contains (under_names ns cs) ((slice_index_or ns k ([], truth)).0, slice_index_or cs k (record { least = None; masks = [] }))
under_at [] cs k h l = absurd (omega (arith, l))
under_at (n ∷ ns) [] k h l = absurd (false≢true h)
under_at (n ∷ ns) (c ∷ cs) zero h l = (0, omega arith, refl)
under_at (n ∷ ns) (c ∷ cs) (suc k) h l =
    let r = under_at ns cs k (and_parts (are_bits_of n.1 c) (are_bits_for ns cs) h).1 (omega (arith, l)) in
    (suc r.0, omega (arith, r.1), r.2)

place_of : (ns : Entries Sort) (n : Name) (s : Sort) → Contains ns (n, s) → (k : ℕ) × (k < length ns) × (name_at ns k ≡ n)
place_of ns n s h = (h.0, h.1, at ns h.0 h.1 h.2)
  where
    at : (ms : Entries Sort) (k : ℕ) → k < length ms → slice_index_or ms k (n, s) ≡ (n, s) → name_at ms k ≡ n
    at [] k l e = absurd (omega (arith, l))
    at (m ∷ ms) zero l e = ap (λ (p : Name × Sort). p.0) e
    at (m ∷ ms) (suc k) l e = at ms k (omega (arith, l)) e

pub word_at : (ns : Entries Sort) (k : ℕ) → IsTrue (are_words ns) → k < length ns → is_word (slice_index_or ns k ([], truth)).1 ≡ true
word_at [] k h l = absurd (omega (arith, l))
word_at (n ∷ ns) zero h l = (and_parts (is_word n.1) (are_words ns) h).0
word_at (n ∷ ns) (suc k) h l = word_at ns k (and_parts (is_word n.1) (are_words ns) h).1 (omega (arith, l))

-- ---- values of objects

bit_below : (p : Placed) (n : Name) (k b : ℕ) → is_counted p n k b ≡ true → b < object_width (placed_scope p n)
bit_below p n k b h =
    ltb-true b (object_width (placed_scope p n))
    (and_parts (nat_lt k (word_count (placed_scope p n))) (nat_lt b (object_width (placed_scope p n))) (and_parts (is_bit_of (placed_scope p n) k b) _ h).0).1

addresses : (p : Placed) (n : Name) (c : CountedBits) → AreBitsOf p n c → is_some c.least ≡ is_memory (placed_scope p n)
addresses p n c h = ap is_some h.addressed ∙ by (placed_scope p n).addresses
  where
    by : (o : Option (ℕ × ℕ)) → is_some (option_map (λ a. min a.0 a.1) o) ≡ is_some o
    by None = refl
    by (Some a) = refl

fits_object : (p : Placed) (n : Name) (c : CountedBits) → AreBitsOf p n c → (x : Value) → FitsBits c x → FitsObject (placed_scope p n) x
fits_object p n c h (truth_value b) f = absurd f
fits_object p n c h (number x) f =
    (sym (addresses p n c h) ∙ f.0, below_from_mask (object_width (placed_scope p n)) x (slice_index c.masks 0) f.1 (λ b t. bit_below p n 0 b (sym (h.counted 0 b) ∙ t)))
fits_object p n c h (words xs) f = (
  sym (addresses p n c h) ∙ f.0,
  kept_length c.masks xs f.1 ∙ h.each_word,
  below_words (object_width (placed_scope p n)) xs
      (λ k. below_from_mask (object_width (placed_scope p n)) (slice_index xs k) (slice_index c.masks k) (kept_all c.masks xs f.1 k)
      (λ b t. bit_below p n k b (sym (h.counted k b) ∙ t))),
)

rest_unset : (p : Placed) (n : Name) (c : CountedBits) → AreBitsOf p n c → (x : Value) → FitsBits c x → (k b : ℕ) → is_counted p n k b ≡ false → value_bit x k b ≡ false
rest_unset p n c h (truth_value t) f k b u = absurd f
rest_unset p n c h (number x) f zero b u = unset_there x (slice_index c.masks 0) f.1 b (h.counted 0 b ∙ u)
rest_unset p n c h (number x) f (suc k) b u = refl
rest_unset p n c h (words xs) f k b u = unset_there (slice_index xs k) (slice_index c.masks k) (kept_all c.masks xs f.1 k) b (h.counted k b ∙ u)

fits_bits : (p : Placed) (n : Name) (c : CountedBits) → AreBitsOf p n c → (x : Value) → FitsObject (placed_scope p n) x
    → ((k b : ℕ) → is_counted p n k b ≡ false → value_bit x k b ≡ false) → FitsBits c x
fits_bits p n c h (truth_value t) f g = absurd f
fits_bits p n c h (number x) f g = (addresses p n c h ∙ f.0, keeps x (slice_index c.masks 0) (λ b u. g 0 b (sym (h.counted 0 b) ∙ u)))
fits_bits p n c h (words xs) f g =
    (addresses p n c h ∙ f.0, all_kept c.masks xs (f.1 ∙ sym h.each_word) (λ k b u. g k b (sym (h.counted k b) ∙ u)))

word_width_is : (o : Object) (s : Sort) → is_word s ≡ true → IsSortOf o s → (is_memory o ≡ false) × (bits_of_input s ≡ object_width o)
word_width_is o truth w h = absurd (false≢true w)
word_width_is o (memory a d) w h = absurd (false≢true w)
word_width_is o (word d) w h = (not-true (is_memory o) h.0, h.1)

-- ---- the design

module _ (d : Design) (e : Parts) (design : IsDesignOf d e) (text : IsOfText d) (counting : IsTrue (are_bits_for (registers_of e) e.bits)) (plain : IsTrue (are_words (inputs_of e))) where
  -- what a place among the registers is
  pub record IsPlaceOf (k : ℕ) : Type 0 where
    pub place : Placed
    pub own : Name
    pub is_name : register_name e k ≡ dotted place.path own
    pub is_register : IsRegister d place own
    pub bits : AreBitsOf place own (register_bits e k)

  pub bits_there : (k : ℕ) → k < length (registers_of e) → (p : Placed) (m : Name) → register_name e k ≡ dotted p.path m → IsRegister d p m
      → AreBitsOf p m (register_bits e k)
  bits_there k l p m q is =
      design.bits_are p m (register_bits e k) is
      (subst (λ n. Contains (bits_by_name e) (n, register_bits e k)) q (under_at (registers_of e) e.bits k counting l))

  pub place_there : (k : ℕ) → k < length (registers_of e) → IsPlaceOf k
  place_there k l =
      let r = design.registers_are (register_name e k) (slice_index_or (registers_of e) k ([], truth)).1 (Contains-get_or (registers_of e) k ([], truth) l) in
      record { place = r.0; own = r.1; is_name = r.2; is_register = r.3; bits = bits_there k l r.0 r.1 r.2 r.3 }

  pub traced : (k : ℕ) → k < length (registers_of e) → is_traced e k ≡ true → IsTraceRegister d (register_name e k)
  traced k l h =
      let p = place_there k l in
      let b = set_there (register_bits e k).masks h in
      record {
        place = p.place;
        own = p.own;
        word = b.0;
        bit = b.1;
        is_place = p.is_register.is_placed;
        is_declared = p.is_register.is_declared;
        counted = sym (p.bits.counted b.0 b.1) ∙ b.2;
        is_name = p.is_name;
      }

  register_of : (n : Name) → (r : IsTraceRegister d n) → IsRegister d r.place r.own
  register_of n r = record { is_placed = r.is_place; is_declared = r.is_declared; keeps = inl (record { word = r.word; bit = r.bit; counts = r.counted }) }

  traced_there : (n : Name) (r : IsTraceRegister d n) (k : ℕ) → k < length (registers_of e) → register_name e k ≡ n → is_traced e k ≡ true
  traced_there n r k l q =
      let b = bits_there k l r.place r.own (q ∙ r.is_name) (register_of n r) in
      there_set (register_bits e k).masks r.word r.bit (b.counted r.word r.bit ∙ r.counted)

  pub found : (n : Name) → IsTraceRegister d n → (k : ℕ) × (k < length (registers_of e)) × (is_traced e k ≡ true) × (register_name e k ≡ n)
  found n r =
      let c = design.all_registers r.place r.own (register_of n r) in
      let k = place_of (registers_of e) (dotted r.place.path r.own) c.0 c.1 in
      (k.0, k.1, traced_there n r k.0 k.1 (k.2 ∙ sym r.is_name), k.2 ∙ sym r.is_name)

  -- one name is that of one net
  same_site : (p q : Placed) (n m : Name) → IsPlacedIn d p → IsDeclared p n → IsPlacedIn d q → IsDeclared q m → dotted p.path n ≡ dotted q.path m → (p ≡ q) × (n ≡ m)
  same_site p q n m hp hn hq hm is =
      let r = dots_tell p.path q.path n m (plain_path d text.no_dots p.path p hp) (plain_path d text.no_dots q.path q hq)
      (plain_declared d text.no_dots p n hp hn) (plain_declared d text.no_dots q m hq hm) is in
      (some_same p q (sym hp ∙ (ap (at_path d) r.0 ∙ hq)), r.1)

  register_is : (k : ℕ) → k < length (registers_of e) → is_traced e k ≡ true → (x : Value) → FitsBits (register_bits e k) x → IsRegisterValue d (register_name e k) x
  register_is k l h x f =
      let p = place_there k l in
      let at = λ (q : Placed) (own : Name) (hq : IsPlacedIn d q) (hm : IsDeclared q own) (is : register_name e k ≡ dotted q.path own).
      same_site p.place q p.own own p.is_register.is_placed p.is_register.is_declared hq hm (sym p.is_name ∙ is) in record {
        is_register = traced k l h;
        fits = λ q own hq hm is.
            let same = at q own hq hm is in
            subst (λ o. FitsObject o x) (λ i. placed_scope (same.0 i) (same.1 i)) (fits_object p.place p.own (register_bits e k) p.bits x f);
        rest = λ q own j b hq hm is u.
            let same = at q own hq hm is in
            rest_unset p.place p.own (register_bits e k) p.bits x f j b ((λ i. is_counted (same.0 i) (same.1 i) j b) ∙ u);
      }

  pub register_bits_fit : (n : Name) (x : Value) → IsRegisterValue d n x → (k : ℕ) → k < length (registers_of e) → register_name e k ≡ n
      → (is_traced e k ≡ true) × FitsBits (register_bits e k) x
  register_bits_fit n x v k l q =
      let r = v.is_register in
      let b = bits_there k l r.place r.own (q ∙ r.is_name) (register_of n r) in (
        traced_there n r k l q,
        fits_bits r.place r.own (register_bits e k) b x (v.fits r.place r.own r.is_place r.is_declared r.is_name)
            (λ j i u. v.rest r.place r.own j i r.is_place r.is_declared r.is_name u),
      )

  -- ---- inputs

  pub data_input : (k : ℕ) → k < length (inputs_of e) → IsDataInput d (input_name e k) (input_sort e k)
  data_input k l = design.inputs_are (input_name e k) (input_sort e k) (Contains-get_or (inputs_of e) k ([], truth) l)

  pub input_found : (n : Name) → IsInput d n → (k : ℕ) × (k < length (inputs_of e)) × (input_name e k ≡ n)
  input_found n r =
      let t = some_sort (placed_scope r.place n) in
      place_of (inputs_of e) n t.0
      (design.all_inputs n t.0 (record { top = r.place; is_top = r.is_place; is_input = r.is_port; no_clock = r.other; of_sort = t.1 }))

  input_is : (k : ℕ) → k < length (inputs_of e) → (x : ℕ) → nat_lt x (2 ^ bits_of_input (input_sort e k)) ≡ true → IsInputValue d (input_name e k) (number x)
  input_is k l x h =
      let i = data_input k l in
      let w = word_width_is (placed_scope i.top (input_name e k)) (input_sort e k) (word_at (inputs_of e) k plain l) i.of_sort in record {
        is_input = record { place = i.top; is_place = i.is_top; is_port = i.is_input; other = i.no_clock };
        fits = λ p at.
            subst (λ q. FitsObject (placed_scope q (input_name e k)) (number x)) (some_same i.top p (sym i.is_top ∙ at))
            (w.0, subst (λ b. x < 2 ^ b) w.1 (ltb-true x (2 ^ bits_of_input (input_sort e k)) h));
      }

  number_fitting : (o : Object) (s : Sort) (v : Value) → (is_memory o ≡ false) × (bits_of_input s ≡ object_width o) → FitsObject o v
      → (x : ℕ) × (v ≡ number x) × (nat_lt x (2 ^ bits_of_input s) ≡ true)
  number_fitting o s (truth_value b) w f = absurd f
  number_fitting o s (number x) w f = (x, refl, lt-ltb x (2 ^ bits_of_input s) (subst (λ b. x < 2 ^ b) (sym w.1) f.1))
  number_fitting o s (words xs) w f = absurd (true≢false (sym f.0 ∙ w.0))

  pub input_number : (n : Name) (v : Value) → IsInputValue d n v → (k : ℕ) → k < length (inputs_of e) → input_name e k ≡ n
      → (x : ℕ) × (v ≡ number x) × (nat_lt x (2 ^ bits_of_input (input_sort e k)) ≡ true)
  input_number n v h k l q =
      let i = data_input k l in
      number_fitting (placed_scope i.top (input_name e k)) (input_sort e k) v
      (word_width_is (placed_scope i.top (input_name e k)) (input_sort e k) (word_at (inputs_of e) k plain l) i.of_sort)
      (subst (λ m. FitsObject (placed_scope i.top m) v) (sym q) (h.fits i.top i.is_top))

  -- ---- the tests

  pub test_register : (n : Name) (c : Data) → (o : Option ℕ) → place_in (registers_of e) n ≡ o → register_fits e o c ≡ true → (v : Value) × IsValueIn c v × IsRegisterValue d n v
  test_register n c None is h = absurd (false≢true h)
  test_register n c (Some k) is h =
      let q = place_sound (registers_of e) (length (registers_of e)) n k is in
      let p = and_parts (is_traced e k) (is_register_value (register_bits e k) c) h in
      let v = value_there (register_bits e k) c p.1 in
      (v.0, v.1, subst (λ m. IsRegisterValue d m v.0) q.1 (register_is k q.0 p.0 v.0 v.2))

  pass_register : (n : Name) (c : Data) (v : Value) → IsValueIn c v → IsRegisterValue d n v → register_named_fits e n c ≡ true
  pass_register n c v is h =
      let f = found n h.is_register in
      let i = place_complete (registers_of e) (length (registers_of e)) n f.0 f.1 f.3 in
      let q = place_sound (registers_of e) (length (registers_of e)) n i.0 i.1 in
      let r = register_bits_fit n v h i.0 q.0 q.1 in
      ap (λ o. register_fits e o c) i.1
      ∙ and_from (is_traced e i.0) (is_register_value (register_bits e i.0) c) r.0 (value_fits (register_bits e i.0) c v is r.1)

  pub test_input : (n : Name) (c : Data) → (o : Option ℕ) → place_in (inputs_of e) n ≡ o → input_fits e o c ≡ true → (v : Value) × IsValueIn c v × IsInputValue d n v
  test_input n c None is h = absurd (false≢true h)
  test_input n c (Some k) is h =
      let q = place_sound (inputs_of e) (length (inputs_of e)) n k is in
      let x = number_there (bits_of_input (input_sort e k)) c h in
      (number x.0, of_number x.0 x.1, subst (λ m. IsInputValue d m (number x.0)) q.1 (input_is k q.0 x.0 x.2))

  numeral_of_value : (c : Data) (v : Value) (x : ℕ) → IsValueIn c v → v ≡ number x → numeral_in c ≡ Some x
  numeral_of_value c v x is q = numeral_of_number c x (subst (IsValueIn c) q is)

  pass_input : (n : Name) (c : Data) (v : Value) → IsValueIn c v → IsInputValue d n v → input_named_fits e n c ≡ true
  pass_input n c v is h =
      let f = input_found n h.is_input in
      let i = place_complete (inputs_of e) (length (inputs_of e)) n f.0 f.1 f.2 in
      let q = place_sound (inputs_of e) (length (inputs_of e)) n i.0 i.1 in
      let x = input_number n v h i.0 q.0 q.1 in
      ap (λ o. input_fits e o c) i.1 ∙ (ap (has_width (bits_of_input (input_sort e i.0))) (numeral_of_value c v x.0 is x.1) ∙ x.2)

  pub tests : AreTests e (IsRegisterValue d) (IsInputValue d)
  tests = record {
    register_there = λ n c h. test_register n c (place_in (registers_of e) n) refl h;
    register_fits = pass_register;
    input_there = λ n c h. test_input n c (place_in (inputs_of e) n) refl h;
    input_fits = pass_input;
  }
