-- The values that a file gives to a design are those of its trace.
use Rattle.std.proofs.Common.{◌≡◌, ◌∙◌, ℕ, zero, suc, ◌+◌, ◌-◌, ◌^◌, ◌<◌, ◌≤◌, Bool, true, false, cond, not, ◌&&◌, List, [], ◌∷◌, ◌++◌, length, map, take, replicate, get_or, Option, Some, None, Ordering, Less, Equal, Greater, nat_cmp, is_eq, refl, sym, ap, ap₂, subst, arith, pow_pos, take_all, append-nil, length-append, true≢false}
use Rattle.std.specs.Prelude.{◌==◌, nat_lt, nat_le, is_some, is_none, unwrap_or, option_and_then, slice_get, slice_index, slice_index_or, bit_and, Contains, IsTrue, codes}
use Rattle.std.specs.Ordering.{match_ordering}
use Rattle.std.specs.Cmp.Lexicographic.{slice_cmp}
use Rattle.std.proofs.lemmas.Bool.{and_parts, and_from, false≢true, lt-ltb, ltb-true, leb-true, eq-eqb}
use Rattle.std.proofs.lemmas.List.{get_or-map, length-map, length-replicate, take-append-le}
use Rattle.std.proofs.lemmas.Map.Text.{is_eq-slice_cmp}
use Rattle.std.proofs.lemmas.Slice.Eq.{bytes_eq-Decides}
use Rattle.wb_values.specs.Value.{Name, Sort, truth, word, memory, Value, truth_value, number, words, all_below, is_of_sort, HasSort, Entries}
use Rattle.serde_json.specs.Data.{Data, null, boolean, string, array, object, Items, no_items, item, Members, no_members, member}
use Rattle.serde_json.specs.Data as json
use Rattle.serde_json.specs.Find.{get, get_member, as_str, as_array, as_object}
use Rattle.serde_json.specs.Events.{items_len}
use Rattle.verilog_meaning.specs.Register.{is_set, value_bit}
use Rattle.verilog_meaning.specs.Settled.{Design}
use Rattle.wb_terms.specs.Environment.{AreOfSorts}
use Rattle.reports.specs.Report.{Trace, StandsFor}
use Rattle.trace_files.specs.Shape.{AreNumerals, IsValueIn, of_number, of_words, AreEntriesIn, AreObjectsOf, IsShapeOf}
use Rattle.trace_files.specs.Meaning.{IsRegisterValue, IsInputValue}
use Rattle.verilog_exists.specs.Exists.{IsOfText}
use Rattle.v_design.specs.Registers.{CountedBits}
use Rattle.v_design.specs.Parts.{Parts, registers_of, inputs_of, are_bits_of, are_bits_for, is_word, are_words}
use Rattle.v_design.specs.Design.{IsDesignOf}
use Rattle.trace_texts.specs.Order.{register_name, input_name, register_bits}
use Rattle.trace_reading.specs.Numbers.{numeral_in, number_or_zero}
use Rattle.trace_reading.specs.Fitting.{bits_of_input, input_sort, all_members, register_named_fits, input_named_fits, place_in, cycle_fits, cycles_fit, register_in}
use Rattle.trace_reading.specs.Given.{number_given, words_given, numbers_listed, with_zeros, value_given, register_given, registers_given, input_given, inputs_given, cycles_of_items}
use Rattle.trace_reading.proofs.Masks.{none_set, unset_there, kept_below}
use Rattle.trace_reading.proofs.Orderly.{IsInOrder, IsOrderly, AreOrderly, object_in_order}
use Rattle.trace_reading.proofs.Shapes.{AllKept, FitsBits, AllEntries, AllCycles, each_entry, entry_given, numeral_of_number, numbers_given, some_same, none_some}
use Rattle.trace_reading.proofs.Sites.{kept_length, kept_all, register_bits_fit, input_number, test_register, test_input, word_at, below_words}

-- ---- zeros after numbers

zeros : (n k : ℕ) → slice_index (replicate n 0) k ≡ 0
zeros zero k = refl
zeros (suc n) zero = refl
zeros (suc n) (suc k) = zeros n k

after_words : (xs : List ℕ) (m k : ℕ) → slice_index (xs ++ replicate m 0) k ≡ slice_index xs k
after_words [] m k = zeros m k
after_words (x ∷ xs) m zero = refl
after_words (x ∷ xs) m (suc k) = after_words xs m k

padded : (n : ℕ) (xs : List ℕ) → length xs ≤ n → with_zeros n xs ≡ xs ++ replicate (n - length xs) 0
padded n xs l = ap (λ ys. ys ++ replicate (n - length ys) 0) (take_all n xs l)

padded_length : (n : ℕ) (xs : List ℕ) → length xs ≤ n → length (xs ++ replicate (n - length xs) 0) ≡ n
padded_length n xs l =
    let zs : List ℕ = replicate (n - length xs) 0 in
    let a : length (xs ++ zs) ≡ length xs + length zs = length-append xs zs in
    let b : length zs ≡ n - length xs = length-replicate (n - length xs) 0 in
    omega (arith, a, b, l)

-- ---- a value and what counts of it

-- The value is of the sort, and has no bit that does not count.
record IsGood (s : Sort) (c : CountedBits) (y : Value) : Type 0 where
  sorted : HasSort y s
  rest : (w b : ℕ) → is_set (slice_index c.masks w) b ≡ false → value_bit y w b ≡ false

memory_sorted : (a w : ℕ) (xs : List ℕ) → length xs ≤ 2 ^ a → ((k : ℕ) → slice_index xs k < 2 ^ w) → HasSort (words (xs ++ replicate (2 ^ a - length xs) 0)) (memory a w)
memory_sorted a w xs l h =
    let all = xs ++ replicate (2 ^ a - length xs) 0 in
    and_from (length all == 2 ^ a) (all_below w all) (eq-eqb (length all) (2 ^ a) (padded_length (2 ^ a) xs l))
    (below_words w all (λ k. subst (λ x. x < 2 ^ w) (sym (after_words xs (2 ^ a - length xs) k)) (h k)))

good_none : (s : Sort) (c : CountedBits) → are_bits_of s c ≡ true → IsGood s c (value_given s None)
good_none truth c h = absurd (false≢true h)
good_none (word w) c h = record { sorted = lt-ltb 0 (2 ^ w) (pow_pos w); rest = rest }
  where
    rest : (k b : ℕ) → is_set (slice_index c.masks k) b ≡ false → value_bit (number 0) k b ≡ false
    rest zero b u = none_set b
    rest (suc k) b u = refl
good_none (memory a w) c h =
    record {
      sorted = subst (λ xs. HasSort (words xs) (memory a w)) (sym (padded (2 ^ a) [] (omega arith))) (memory_sorted a w [] (omega arith) (λ k. pow_pos w));
      rest = λ k b u.
          ap (λ xs. is_set (slice_index xs k) b) (padded (2 ^ a) [] (omega arith)) ∙ (ap (λ x. is_set x b) (after_words [] (2 ^ a - 0) k) ∙ none_set b);
    }

mask_below : (w : ℕ) (ms : List ℕ) (k : ℕ) → all_below w ms ≡ true → slice_index ms k < 2 ^ w
mask_below w [] k h = pow_pos w
mask_below w (m ∷ ms) zero h = ltb-true m (2 ^ w) (and_parts (nat_lt m (2 ^ w)) (all_below w ms) h).0
mask_below w (m ∷ ms) (suc k) h = mask_below w ms k (and_parts (nat_lt m (2 ^ w)) (all_below w ms) h).1

-- what is known of the bits of a memory, and of a word
memory_bits : (a w : ℕ) (c : CountedBits) → are_bits_of (memory a w) c ≡ true → (is_some c.least ≡ true) × (length c.masks ≤ 2 ^ a) × (all_below w c.masks ≡ true)
memory_bits a w c h =
    let low = nat_le (unwrap_or c.least 0 + length c.masks) 65536 in
    let p = and_parts (is_some c.least) (nat_le (length c.masks) (2 ^ a) && (low && all_below w c.masks)) h in
    let q = and_parts (nat_le (length c.masks) (2 ^ a)) (low && all_below w c.masks) p.1 in
    (p.0, leb-true (length c.masks) (2 ^ a) q.0, (and_parts low (all_below w c.masks) q.1).1)

word_bits : (w : ℕ) (c : CountedBits) → are_bits_of (word w) c ≡ true → (is_some c.least ≡ false) × (all_below w c.masks ≡ true)
word_bits w c h =
    let p = and_parts (is_none c.least) ((length c.masks == 1) && all_below w c.masks) h in
    (none (c.least) p.0, (and_parts (length c.masks == 1) (all_below w c.masks) p.1).1)
  where
    none : (o : Option ℕ) → is_none o ≡ true → is_some o ≡ false
    none None e = refl
    none (Some x) e = absurd (false≢true e)

words_of : (d : Data) (v : Value) → IsValueIn d v → (xs : List ℕ) → v ≡ words xs → words_given (Some d) ≡ xs
words_of d _ (of_number x h) xs e = absurd (apart e)
  where
    IsNumber : Value → Type 0
    IsNumber (truth_value b) = ⊥
    IsNumber (number z) = Unit {0}
    IsNumber (words ys) = ⊥

    apart : number x ≡ words xs → ⊥
    apart q = subst IsNumber q tt
words_of d _ (of_words ds ys a h) xs e = ap numbers_listed a ∙ (numbers_given ds ys h ∙ ap listed e)
  where
    listed : Value → List ℕ
    listed (truth_value b) = []
    listed (number z) = []
    listed (words zs) = zs

filled_words : (a : ℕ) (c : CountedBits) (d : Data) (xs : List ℕ) → length c.masks ≤ 2 ^ a → IsValueIn d (words xs) → AllKept c.masks xs
    → with_zeros (2 ^ a) (words_given (Some d)) ≡ xs ++ replicate (2 ^ a - length xs) 0
filled_words a c d xs l is k =
    let few : length xs ≤ 2 ^ a = omega (arith, l, kept_length c.masks xs k) in
    ap (with_zeros (2 ^ a)) (words_of d (words xs) is xs refl) ∙ padded (2 ^ a) xs few

good_some : (s : Sort) (c : CountedBits) (d : Data) (v : Value) → are_bits_of s c ≡ true → IsValueIn d v → FitsBits c v → IsGood s c (value_given s (Some d))
good_some truth c d v h is f = absurd (false≢true h)
good_some (word w) c d (truth_value b) h is f = absurd f
good_some (word w) c d (number x) h is f =
    let given : number_given (Some d) ≡ x = ap number_or_zero (numeral_of_number d x is) in
    subst (λ y. IsGood (word w) c (number y)) (sym given)
    (record { sorted = lt-ltb x (2 ^ w) (kept_below x (slice_index c.masks 0) w f.1 (mask_below w c.masks 0 (word_bits w c h).1)); rest = rest })
  where
    rest : (k b : ℕ) → is_set (slice_index c.masks k) b ≡ false → value_bit (number x) k b ≡ false
    rest zero b u = unset_there x (slice_index c.masks 0) f.1 b u
    rest (suc k) b u = refl
good_some (word w) c d (words xs) h is f = absurd (true≢false (sym f.0 ∙ (word_bits w c h).0))
good_some (memory a w) c d (truth_value b) h is f = absurd f
good_some (memory a w) c d (number x) h is f = absurd (true≢false (sym (memory_bits a w c h).0 ∙ f.0))
good_some (memory a w) c d (words xs) h is f =
    let m = memory_bits a w c h in
    let few : length xs ≤ 2 ^ a = omega (arith, m.1, kept_length c.masks xs f.1) in
    subst (λ ys. IsGood (memory a w) c (words ys)) (sym (filled_words a c d xs m.1 is f.1))
    (record {
      sorted =
          memory_sorted a w xs few
          (λ k. kept_below (slice_index xs k) (slice_index c.masks k) w (kept_all c.masks xs f.1 k) (mask_below w c.masks k m.2));
      rest = λ k b u.
          ap (λ x. is_set x b) (after_words xs (2 ^ a - length xs) k) ∙ unset_there (slice_index xs k) (slice_index c.masks k) (kept_all c.masks xs f.1 k) b u;
    })

stands : (s : Sort) (c : CountedBits) (d : Data) (v : Value) → are_bits_of s c ≡ true → IsValueIn d v → FitsBits c v → StandsFor (length c.masks) v (value_given s (Some d))
stands truth c d v h is f = absurd (false≢true h)
stands (word w) c d (truth_value b) h is f = absurd f
stands (word w) c d (number x) h is f = sym (ap number_or_zero (numeral_of_number d x is))
stands (word w) c d (words xs) h is f = absurd (true≢false (sym f.0 ∙ (word_bits w c h).0))
stands (memory a w) c d (truth_value b) h is f = absurd f
stands (memory a w) c d (number x) h is f = absurd (true≢false (sym (memory_bits a w c h).0 ∙ f.0))
stands (memory a w) c d (words xs) h is f =
    let m = memory_bits a w c h in
    let long : length xs ≡ length c.masks = kept_length c.masks xs f.1 in
    sym (ap (take (length c.masks)) (filled_words a c d xs m.1 is f.1)
    ∙ (take-append-le (length c.masks) xs (replicate (2 ^ a - length xs) 0) (omega (arith, long)) ∙ take_all (length c.masks) xs (omega (arith, long))))

-- ---- what data has under a name

pub object_get : (n : Name) (d : Data) (ms : Members) → as_object d ≡ Some ms → get n d ≡ get_member n ms
object_get n null ms e = absurd (none_some ms e)
object_get n (boolean b) ms e = absurd (none_some ms e)
object_get n (json.number x) ms e = absurd (none_some ms e)
object_get n (string s) ms e = absurd (none_some ms e)
object_get n (array ds) ms e = absurd (none_some ms e)
object_get n (object qs) ms e = ap (get_member n) (some_same qs ms e)

-- a test of all members holds of what is found under a name
pub member_passes : (p : Name → Data → Bool) (ms : Members) (n : Name) (c : Data) → all_members p ms ≡ true → get_member n ms ≡ Some c → p n c ≡ true
member_passes p no_members n c h e = absurd (none_some c e)
member_passes p (member m d ms) n c h e = by (slice_cmp nat_cmp n m) refl e (and_parts (p m d) (all_members p ms) h) (member_passes p ms n c)
  where
    by : (o : Ordering) → slice_cmp nat_cmp n m ≡ o → match_ordering o (get_member n ms) (Some d) (get_member n ms) ≡ Some c
        → (p m d ≡ true) × (all_members p ms ≡ true) → (all_members p ms ≡ true → get_member n ms ≡ Some c → p n c ≡ true) → p n c ≡ true
    by Less q f t r = r t.1 f
    by Equal q f t r =
        let same : n ≡ m = (bytes_eq-Decides n m).0 (sym (is_eq-slice_cmp n m) ∙ ap is_eq q) in
        ap₂ p same (sym (some_same d c f)) ∙ t.0
    by Greater q f t r = r t.1 f

right_at : (ns : Entries Sort) (cs : List CountedBits) (k : ℕ) → IsTrue (are_bits_for ns cs) → k < length ns
    → are_bits_of (slice_index_or ns k ([], truth)).1 (slice_index_or cs k (record { least = None; masks = [] })) ≡ true
right_at [] cs k h l = absurd (omega (arith, l))
right_at (n ∷ ns) [] k h l = absurd (false≢true h)
right_at (n ∷ ns) (c ∷ cs) zero h l = (and_parts (are_bits_of n.1 c) (are_bits_for ns cs) h).0
right_at (n ∷ ns) (c ∷ cs) (suc k) h l = right_at ns cs k (and_parts (are_bits_of n.1 c) (are_bits_for ns cs) h).1 (omega (arith, l))

all_sorted : (f : Name × Sort → Value) (ns : Entries Sort)
    → ((k : ℕ) → k < length ns → HasSort (f (slice_index_or ns k ([], truth))) (slice_index_or ns k ([], truth)).1) → AreOfSorts ns (map f ns)
all_sorted f [] h = tt
all_sorted f (n ∷ ns) h = (h 0 (omega arith), all_sorted f ns (λ k l. h (suc k) (omega (arith, l))))

got_at : {A B : Type 0} (f : A → B) (ns : List A) (k : ℕ) (x : A) (y : B) → slice_get (map f ns) k ≡ Some y → (k < length ns) × (y ≡ f (slice_index_or ns k x))
got_at f [] k x y e = absurd (none_some y e)
got_at f (n ∷ ns) zero x y e = (omega arith, sym (some_same (f n) y e))
got_at f (n ∷ ns) (suc k) x y e = let r = got_at f ns k x y e in (omega (arith, r.0), r.1)

got_bits : (cs : List CountedBits) (k : ℕ) (c x : CountedBits) → slice_get cs k ≡ Some c → c ≡ slice_index_or cs k x
got_bits [] k c x e = absurd (none_some c e)
got_bits (b ∷ cs) zero c x e = sym (some_same b c e)
got_bits (b ∷ cs) (suc k) c x e = got_bits cs k c x e

-- ---- the values of all registers, where each that the file names fits its register

module _ (e : Parts) (counting : IsTrue (are_bits_for (registers_of e) e.bits)) (file registers : Data) (ms : Members) (has : get (codes "registers") file ≡ Some registers) (members : as_object registers ≡ Some ms)
    (valued : (k : ℕ) → k < length (registers_of e) → (c : Data) → get_member (register_name e k) ms ≡ Some c → (v : Value) × IsValueIn c v × FitsBits (register_bits e k) v) where
  abbrev register_at : ℕ → Name × Sort
  register_at k = slice_index_or (registers_of e) k ([], truth)

  pub under : (n : Name) → register_in file n ≡ get_member n ms
  under n = ap (option_and_then (get n)) has ∙ object_get n registers ms members

  good_at : (k : ℕ) → k < length (registers_of e) → IsGood (register_at k).1 (register_bits e k) (register_given file (register_at k))
  good_at k l = by (get_member (register_name e k) ms) refl
    where
      right : are_bits_of (register_at k).1 (register_bits e k) ≡ true
      right = right_at (registers_of e) e.bits k counting l

      by : (o : Option Data) → get_member (register_name e k) ms ≡ o → IsGood (register_at k).1 (register_bits e k) (register_given file (register_at k))
      by None is =
          subst (λ o. IsGood (register_at k).1 (register_bits e k) (value_given (register_at k).1 o)) (sym (under (register_name e k) ∙ is))
          (good_none (register_at k).1 (register_bits e k) right)
      by (Some c) is =
          let v = valued k l c is in
          subst (λ o. IsGood (register_at k).1 (register_bits e k) (value_given (register_at k).1 o)) (sym (under (register_name e k) ∙ is))
          (good_some (register_at k).1 (register_bits e k) c v.0 right v.1 v.2)

  pub values_sorted : AreOfSorts (registers_of e) (registers_given e file)
  values_sorted = all_sorted (register_given file) (registers_of e) (λ k l. (good_at k l).sorted)

  pub values_rest : (k w b : ℕ) (c : CountedBits) (y : Value) → slice_get e.bits k ≡ Some c → slice_get (registers_given e file) k ≡ Some y
      → is_set (slice_index c.masks w) b ≡ false → value_bit y w b ≡ false
  values_rest k w b c y hc hy u =
      let g = got_at (register_given file) (registers_of e) k ([], truth) y hy in
      let is = got_bits e.bits k c (record { least = None; masks = [] }) hc in
      ap (λ z. value_bit z w b) g.1 ∙ (good_at k g.0).rest w b (ap (λ q. is_set (slice_index q.masks w) b) (sym is) ∙ u)

-- ---- the numbers of all inputs, where each that the file names fits its input

word_sorted : (s : Sort) (x : ℕ) → is_word s ≡ true → nat_lt x (2 ^ bits_of_input s) ≡ true → HasSort (number x) s
word_sorted truth x w h = absurd (false≢true w)
word_sorted (word b) x w h = h
word_sorted (memory a b) x w h = absurd (false≢true w)

module _ (e : Parts) (plain : IsTrue (are_words (inputs_of e))) (cycle : Data) (ms : Members) (members : as_object cycle ≡ Some ms)
    (valued : (k : ℕ) → k < length (inputs_of e) → (c : Data) → get_member (input_name e k) ms ≡ Some c
    → (x : ℕ) × IsValueIn c (number x) × (nat_lt x (2 ^ bits_of_input (input_sort e k)) ≡ true)) where
  abbrev input_at : ℕ → Name × Sort
  input_at k = slice_index_or (inputs_of e) k ([], truth)

  input_sorted : (k : ℕ) → k < length (inputs_of e) → HasSort (number (input_given cycle (input_at k))) (input_at k).1
  input_sorted k l = by (get_member (input_name e k) ms) refl
    where
      plain_here : is_word (input_at k).1 ≡ true
      plain_here = word_at (inputs_of e) k plain l

      by : (o : Option Data) → get_member (input_name e k) ms ≡ o → HasSort (number (input_given cycle (input_at k))) (input_at k).1
      by None is =
          subst (λ o. HasSort (number (number_given o)) (input_at k).1) (sym (object_get (input_name e k) cycle ms members ∙ is))
          (word_sorted (input_at k).1 0 plain_here (lt-ltb 0 (2 ^ bits_of_input (input_at k).1) (pow_pos (bits_of_input (input_at k).1))))
      by (Some c) is =
          let x = valued k l c is in
          subst (λ o. HasSort (number (number_given o)) (input_at k).1) (sym (object_get (input_name e k) cycle ms members ∙ is))
          (subst (λ y. HasSort (number y) (input_at k).1) (sym (ap number_or_zero (numeral_of_number c x.0 x.1))) (word_sorted (input_at k).1 x.0 plain_here x.2))

  numbers_mapped : (ns : Entries Sort) → map number (map (input_given cycle) ns) ≡ map (λ n. number (input_given cycle n)) ns
  numbers_mapped [] = refl
  numbers_mapped (n ∷ ns) = ap (λ xs. number (input_given cycle n) ∷ xs) (numbers_mapped ns)

  pub numbers_sorted : AreOfSorts (inputs_of e) (map number (inputs_given e cycle))
  numbers_sorted = subst (AreOfSorts (inputs_of e)) (sym (numbers_mapped (inputs_of e))) (all_sorted (λ n. number (input_given cycle n)) (inputs_of e) input_sorted)

-- ---- a design

module _ (d : Design) (e : Parts) (design : IsDesignOf d e) (text : IsOfText d) (counting : IsTrue (are_bits_for (registers_of e) e.bits)) (plain : IsTrue (are_words (inputs_of e))) where
  abbrev at : ℕ → Name × Sort
  at k = slice_index_or (registers_of e) k ([], truth)

  -- ---- registers

  module _ (file registers : Data) (ms : Members) (has : get (codes "registers") file ≡ Some registers) (members : as_object registers ≡ Some ms) (fits : all_members (register_named_fits e) ms ≡ true) where
    value_under : (k : ℕ) → k < length (registers_of e) → (c : Data) → get_member (register_name e k) ms ≡ Some c → (v : Value) × IsValueIn c v × FitsBits (register_bits e k) v
    value_under k l c is =
        let n = register_name e k in
        let t = test_register d e design text counting plain n c (place_in (registers_of e) n) refl (member_passes (register_named_fits e) ms n c fits is) in
        (t.0, t.1, (register_bits_fit d e design text counting plain n t.0 t.2 k l refl).1)

    pub registers_sorted : AreOfSorts (registers_of e) (registers_given e file)
    registers_sorted = values_sorted e counting file registers ms has members value_under

    pub registers_rest : (k w b : ℕ) (c : CountedBits) (y : Value) → slice_get e.bits k ≡ Some c → slice_get (registers_given e file) k ≡ Some y
        → is_set (slice_index c.masks w) b ≡ false → value_bit y w b ≡ false
    registers_rest = values_rest e counting file registers ms has members value_under

    pub registers_told : (es : Entries Value) → AreEntriesIn ms es → IsInOrder ms → AllEntries (IsRegisterValue d) es → (k : ℕ) (x : Value) → k < length (registers_of e)
        → Contains es (register_name e k, x) → StandsFor (length (register_bits e k).masks) x (slice_index_or (registers_given e file) k (number 0))
    registers_told es a o r k x l c =
        let n = register_name e k in
        let given = entry_given ms es n x a o c in
        let f = register_bits_fit d e design text counting plain n x (each_entry (IsRegisterValue d) es n x r c) k l refl in
        subst (StandsFor (length (register_bits e k).masks) x)
        (sym (get_or-map (register_given file) (registers_of e) k ([], truth) (number 0) l ∙ ap (value_given (at k).1) (under e counting file registers ms has members value_under n ∙ given.1)))
        (stands (at k).1 (register_bits e k) given.0 x (right_at (registers_of e) e.bits k counting l) given.2 f.1)

  -- ---- inputs

  module _ (cycle : Data) (ms : Members) (members : as_object cycle ≡ Some ms) (fits : all_members (input_named_fits e) ms ≡ true) where
    number_under : (k : ℕ) → k < length (inputs_of e) → (c : Data) → get_member (input_name e k) ms ≡ Some c
        → (x : ℕ) × IsValueIn c (number x) × (nat_lt x (2 ^ bits_of_input (input_sort e k)) ≡ true)
    number_under k l c is =
        let n = input_name e k in
        let t = test_input d e design text counting plain n c (place_in (inputs_of e) n) refl (member_passes (input_named_fits e) ms n c fits is) in
        let x = input_number d e design text counting plain n t.0 t.2 k l refl in
        (x.0, subst (IsValueIn c) x.1 t.1, x.2)

    pub inputs_sorted : AreOfSorts (inputs_of e) (map number (inputs_given e cycle))
    inputs_sorted = numbers_sorted e plain cycle ms members number_under

    pub inputs_told : (es : Entries Value) → AreEntriesIn ms es → IsInOrder ms → AllEntries (IsInputValue d) es → (k : ℕ) (x : Value) → k < length (inputs_of e)
        → Contains es (input_name e k, x) → x ≡ number (slice_index_or (inputs_given e cycle) k 0)
    inputs_told es a o r k x l c =
        let n = input_name e k in
        let given = entry_given ms es n x a o c in
        let y = input_number d e design text counting plain n x (each_entry (IsInputValue d) es n x r c) k l refl in
        y.1
        ∙ ap number (sym (get_or-map (input_given cycle) (inputs_of e) k ([], truth) 0 l
        ∙ (ap number_given (object_get n cycle ms members ∙ given.1) ∙ ap number_or_zero (numeral_of_number given.0 y.0 (subst (IsValueIn given.0) y.1 given.2)))))
