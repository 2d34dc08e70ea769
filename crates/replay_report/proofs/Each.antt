-- Every run that a whole trace tells has the trace's values: a trace leaves nothing of a run's first registers and inputs open.
use Rattle.std.proofs.Common.{◌≡◌, ◌∙◌, ℕ, zero, suc, ◌^◌, ◌<◌, ◌≤◌, Bool, true, false, cond, List, [], ◌∷◌, length, map, take, Option, Some, None, refl, sym, ap, ap₂, subst, arith, ◌⊎◌, inl, inr, true≢false}
use Rattle.std.specs.Prelude.{◌==◌, is_some, slice_get, slice_index, slice_index_or, Contains, IsTrue}
use Rattle.std.specs.Int.{bit_at}
use Rattle.std.proofs.lemmas.Bool.{and_parts, cases_lt, eqb-true, false≢true}
use Rattle.std.proofs.lemmas.Bool.Decides.{nat_tests}
use Rattle.std.proofs.lemmas.List.{get_or-map, length-map}
use Rattle.std.proofs.lemmas.Nat.Bits.{bit_at-lt, bit_at-zero, same_from_bits}
use Rattle.std.proofs.lemmas.Slice.Eq.{bytes_eq-Decides}
use Rattle.wb_values.specs.Value.{Name, same_name, Sort, truth, word, memory, Value, truth_value, number, words, all_below, HasSort, Valuation, Entries, entry_of}
use Rattle.verilog_meaning.specs.Register.{word_count, is_set, value_bit}
use Rattle.verilog_meaning.specs.Hierarchy.{placed_scope}
use Rattle.refinement.specs.Map.{Setting, map_scope, design_of}
use Rattle.refinement.specs.Run.{Run}
use Rattle.refinement.specs.Obligation as pure
use Rattle.verilog_exists.specs.Exists.{IsOfText}
use Rattle.wb_terms.specs.Environment.{AreOfSorts}
use Rattle.reports.specs.Report.{Trace, StandsFor, IsInput}
use Rattle.trace_files.specs.Meaning.{IsFullFor}
use Rattle.trace_files.specs.Replay.{IsToldBy}
use Rattle.v_design.specs.Registers.{CountedBits}
use Rattle.v_design.specs.Parts.{Parts, registers_of, inputs_of, are_bits_of, are_bits_for, are_words}
use Rattle.v_design.specs.Design.{IsDesignOf, values_under}
use Rattle.mapped_designs.specs.Runs.{IsRestZero}
use Rattle.trace_texts.specs.Order.{register_name, input_name, register_bits, is_traced}
use Rattle.trace_texts.proofs.Bits.{there_set}
use Rattle.trace_texts.proofs.Dots.{means_there}
use Rattle.trace_reading.specs.Told.{AreRegistersOf, AreInputsOf, AreCyclesOf}
use Rattle.trace_reading.proofs.Sites.{traced, place_there, data_input}

none_some : {A : Type 0} (x : A) → ◌≡◌ {A = Option A} None (Some x) → ⊥
none_some x e = cc

-- ---- numbers and words with the same bits

bit_from_set : (m n : ℕ) → m < 2 → n < 2 → (m == 1) ≡ (n == 1) → m ≡ n
bit_from_set m n p q e = grind (arith, nat_tests)

same_numbers : (x y : ℕ) → ((b : ℕ) → is_set x b ≡ is_set y b) → x ≡ y
same_numbers x y h = same_from_bits x y (λ b. bit_from_set (bit_at x b) (bit_at y b) (bit_at-lt x b) (bit_at-lt y b) (h b))

none_set : (b : ℕ) → is_set 0 b ≡ false
none_set b = ap (λ x. x == 1) (bit_at-zero b)

past_end : (xs : List ℕ) (k : ℕ) → length xs ≤ k → slice_index xs k ≡ 0
past_end [] k l = refl
past_end (x ∷ xs) zero l = absurd (omega (arith, l))
past_end (x ∷ xs) (suc k) l = past_end xs k (omega (arith, l))

taken : (n : ℕ) (xs : List ℕ) (k : ℕ) → k < n → slice_index (take n xs) k ≡ slice_index xs k
taken zero xs k l = absurd (omega (arith, l))
taken (suc n) [] k l = refl
taken (suc n) (x ∷ xs) zero l = refl
taken (suc n) (x ∷ xs) (suc k) l = taken n xs k (omega (arith, l))

same_words : (xs ys : List ℕ) → length xs ≡ length ys → ((k : ℕ) → slice_index xs k ≡ slice_index ys k) → xs ≡ ys
same_words [] [] e h = refl
same_words [] (y ∷ ys) e h = absurd (omega (arith, e))
same_words (x ∷ xs) [] e h = absurd (omega (arith, e))
same_words (x ∷ xs) (y ∷ ys) e h =
    let first = h 0 in
    let rest = same_words xs ys (omega (arith, e)) (λ k. h (suc k)) in
    λ i. first i ∷ rest i

-- ---- a register

-- The value has no bit that does not count.
abbrev HasRest : CountedBits → Value → Type 0
HasRest c y = (w b : ℕ) → is_set (slice_index c.masks w) b ≡ false → value_bit y w b ≡ false

-- A trace's value stands for both values, where some bit counts.
abbrev StandsForBoth : CountedBits → Value → Value → Type 0
StandsForBoth c y z = (v : Value) × StandsFor (length c.masks) v y × StandsFor (length c.masks) v z

unset : (c : CountedBits) (w b : ℕ) → ((k i : ℕ) → is_set (slice_index c.masks k) i ≡ true → ⊥) → is_set (slice_index c.masks w) b ≡ false
unset c w b none = by (is_set (slice_index c.masks w) b) refl
  where
    by : (t : Bool) → is_set (slice_index c.masks w) b ≡ t → is_set (slice_index c.masks w) b ≡ false
    by true e = absurd (none w b e)
    by false e = e

both_zero : (c : CountedBits) (w x y : ℕ) → ((b : ℕ) → is_set x b ≡ false) → ((b : ℕ) → is_set y b ≡ false) → x ≡ y
both_zero c w x y h g = same_numbers x y (λ b. h b ∙ sym (g b))

number_same : (c : CountedBits) (x y : ℕ) → StandsForBoth c (number x) (number y) → x ≡ y
number_same c x y (truth_value b, p, q) = absurd p
number_same c x y (number v, p, q) = sym p ∙ q
number_same c x y (words vs, p, q) = absurd p

words_taken : (c : CountedBits) (xs ys : List ℕ) → StandsForBoth c (words xs) (words ys) → take (length c.masks) xs ≡ take (length c.masks) ys
words_taken c xs ys (truth_value b, p, q) = absurd p
words_taken c xs ys (number v, p, q) = absurd p
words_taken c xs ys (words vs, p, q) = sym p ∙ q

words_same : (c : CountedBits) (xs ys : List ℕ) → length xs ≡ length ys → HasRest c (words xs) → HasRest c (words ys) → take (length c.masks) xs ≡ take (length c.masks) ys → xs ≡ ys
words_same c xs ys e h g t = same_words xs ys e (λ k. one k (cases_lt k (length c.masks)))
  where
    one : (k : ℕ) → (k < length c.masks) ⊎ (length c.masks ≤ k) → slice_index xs k ≡ slice_index ys k
    one k (inl l) = sym (taken (length c.masks) xs k l) ∙ (ap (λ zs. slice_index zs k) t ∙ taken (length c.masks) ys k l)
    one k (inr l) =
        let none = λ (b : ℕ). ap (λ m. is_set m b) (past_end c.masks k l) ∙ none_set b in
        both_zero c k (slice_index xs k) (slice_index ys k) (λ b. h k b (none b)) (λ b. g k b (none b))

memory_length : (a w : ℕ) (xs : List ℕ) → HasSort (words xs) (memory a w) → length xs ≡ 2 ^ a
memory_length a w xs h = eqb-true (length xs) (2 ^ a) (and_parts (length xs == 2 ^ a) (all_below w xs) h).0

-- Two values of a register's sort without bits that do not count are the same where a trace's value stands for both, or no bit counts.
value_same : (s : Sort) (c : CountedBits) (y z : Value) → are_bits_of s c ≡ true → HasSort y s → HasSort z s → HasRest c y → HasRest c z
    → StandsForBoth c y z ⊎ ((w b : ℕ) → is_set (slice_index c.masks w) b ≡ false) → y ≡ z
value_same truth c y z bits hy hz ry rz o = absurd (false≢true bits)
value_same (word w) c (truth_value t) z bits hy hz ry rz o = absurd (false≢true hy)
value_same (word w) c (words xs) z bits hy hz ry rz o = absurd (false≢true hy)
value_same (word w) c (number x) (truth_value t) bits hy hz ry rz o = absurd (false≢true hz)
value_same (word w) c (number x) (words ys) bits hy hz ry rz o = absurd (false≢true hz)
value_same (word w) c (number x) (number y) bits hy hz ry rz (inl both) = ap number (number_same c x y both)
value_same (word w) c (number x) (number y) bits hy hz ry rz (inr none) =
    ap number (both_zero c 0 x y (λ b. ry 0 b (none 0 b)) (λ b. rz 0 b (none 0 b)))
value_same (memory a w) c (truth_value t) z bits hy hz ry rz o = absurd (false≢true hy)
value_same (memory a w) c (number x) z bits hy hz ry rz o = absurd (false≢true hy)
value_same (memory a w) c (words xs) (truth_value t) bits hy hz ry rz o = absurd (false≢true hz)
value_same (memory a w) c (words xs) (number y) bits hy hz ry rz o = absurd (false≢true hz)
value_same (memory a w) c (words xs) (words ys) bits hy hz ry rz (inl both) =
    ap words (words_same c xs ys (memory_length a w xs hy ∙ sym (memory_length a w ys hz)) ry rz (words_taken c xs ys both))
value_same (memory a w) c (words xs) (words ys) bits hy hz ry rz (inr none) =
    ap words
    (same_words xs ys (memory_length a w xs hy ∙ sym (memory_length a w ys hz))
    (λ k. both_zero c k (slice_index xs k) (slice_index ys k) (λ b. ry k b (none k b)) (λ b. rz k b (none k b))))

-- ---- lists of values

same_values : (ns : Entries Sort) (xs ys : List Value) → AreOfSorts ns xs → AreOfSorts ns ys
    → ((k : ℕ) (x y : Value) → slice_get xs k ≡ Some x → slice_get ys k ≡ Some y → HasSort x (slice_index_or ns k ([], truth)).1 → HasSort y (slice_index_or ns k ([], truth)).1
    → k < length ns → x ≡ y)
    → xs ≡ ys
same_values [] [] [] h g f = refl
same_values [] [] (y ∷ ys) h g f = absurd g
same_values [] (x ∷ xs) ys h g f = absurd h
same_values (n ∷ ns) [] ys h g f = absurd h
same_values (n ∷ ns) (x ∷ xs) [] h g f = absurd g
same_values (n ∷ ns) (x ∷ xs) (y ∷ ys) h g f =
    let first = f 0 x y refl refl h.0 g.0 (omega arith) in
    let rest = same_values ns xs ys h.1 g.1 (λ k a b p q hs gs l. f (suc k) a b p q hs gs (omega (arith, l))) in
    λ i. first i ∷ rest i

got : (xs : List Value) (k : ℕ) (x : Value) → slice_get xs k ≡ Some x → slice_index_or xs k (number 0) ≡ x
got [] k x e = absurd (none_some x e)
got (y ∷ xs) zero x e = cc
got (y ∷ xs) (suc k) x e = got xs k x e

bits_there : (ns : Entries Sort) (cs : List CountedBits) (k : ℕ) → IsTrue (are_bits_for ns cs) → k < length ns
    → (slice_get cs k ≡ Some (slice_index_or cs k (record { least = None; masks = [] })))
    × (are_bits_of (slice_index_or ns k ([], truth)).1 (slice_index_or cs k (record { least = None; masks = [] })) ≡ true)
bits_there [] cs k h l = absurd (omega (arith, l))
bits_there (n ∷ ns) [] k h l = absurd (false≢true h)
bits_there (n ∷ ns) (c ∷ cs) zero h l = (refl, (and_parts (are_bits_of n.1 c) (are_bits_for ns cs) h).0)
bits_there (n ∷ ns) (c ∷ cs) (suc k) h l = bits_there ns cs k (and_parts (are_bits_of n.1 c) (are_bits_for ns cs) h).1 (omega (arith, l))

entry_there : (es : Entries Value) (n : Name) (v : Value) → entry_of es n ≡ Some v → Contains es (n, v)
entry_there [] n v e = absurd (none_some v e)
entry_there (d ∷ es) n v e = by (same_name d.0 n) refl e (entry_there es n v)
  where
    by : (b : Bool) → same_name d.0 n ≡ b → cond b (Some d.1) (entry_of es n) ≡ Some v → (entry_of es n ≡ Some v → Contains es (n, v)) → Contains (d ∷ es) (n, v)
    by true h f r =
        let same : d.0 ≡ n = (bytes_eq-Decides d.0 n).0 h in
        let value : d.1 ≡ v = cc in
        (0, omega arith, λ i. (same i, value i))
    by false h f r = let q = r f in (suc q.0, omega (arith, q.1), q.2)

entry_given : (es : Entries Value) (n : Name) → IsTrue (is_some (entry_of es n)) → (v : Value) × Contains es (n, v)
entry_given es n h = by (entry_of es n) refl h
  where
    by : (o : Option Value) → entry_of es n ≡ o → is_some o ≡ true → (v : Value) × Contains es (n, v)
    by None e f = absurd (false≢true f)
    by (Some v) e f = (v, entry_there es n v e)

contained : {A : Type 0} (xs : List A) (k : ℕ) (x : A) → slice_get xs k ≡ Some x → Contains xs x
contained [] k x e = absurd (none_some x e)
contained (y ∷ ys) zero x e = (0, omega arith, cc)
contained (y ∷ ys) (suc k) x e = let r = contained ys k x e in (suc r.0, omega (arith, r.1), r.2)

pub item_there : {A : Type 0} (xs : List A) (k : ℕ) → k < length xs → (x : A) × (slice_get xs k ≡ Some x)
item_there [] k l = absurd (omega (arith, l))
item_there (x ∷ xs) zero l = (x, refl)
item_there (x ∷ xs) (suc k) l = item_there xs k (omega (arith, l))

under_same : (ns : Entries Sort) (xs : List Value) (v : Valuation) → ((j : ℕ) → j < length ns → v (slice_index_or ns j ([], truth)).0 ≡ slice_index_or xs j (number 0))
    → AreOfSorts ns xs → values_under ns v ≡ xs
under_same [] [] v h g = refl
under_same [] (x ∷ xs) v h g = absurd g
under_same (n ∷ ns) [] v h g = absurd g
under_same (n ∷ ns) (x ∷ xs) v h g =
    let first = h 0 (omega arith) in
    let rest = under_same ns xs v (λ j m. h (suc j) (omega (arith, m))) g.1 in
    λ i. first i ∷ rest i

number_there : (ms : List ℕ) (i : ℕ) → slice_index_or (map number ms) i (number 0) ≡ number (slice_index_or ms i 0)
number_there [] i = refl
number_there (m ∷ ms) zero = refl
number_there (m ∷ ms) (suc i) = number_there ms i

-- ---- a run that a trace tells

module _ (s : Setting) (e : Parts) (o : pure.Obligation) (t : Trace) (run : Run) (design : IsDesignOf (design_of s) e) (text : IsOfText (design_of s))
    (counting : IsTrue (are_bits_for (registers_of e) e.bits)) (plain : IsTrue (are_words (inputs_of e))) (full : IsFullFor s o t) (told : IsToldBy s run t) where
  run_value : (k : ℕ) (x : Value) → k < length (registers_of e) → slice_get (values_under (registers_of e) (run.registers 0)) k ≡ Some x
      → run.registers 0 (register_name e k) ≡ x
  run_value k x l q =
      sym (get_or-map (λ (n : Name × Sort). run.registers 0 n.0) (registers_of e) k ([], truth) (number 0) l) ∙ got (values_under (registers_of e) (run.registers 0)) k x q

  pub first_same : (given : List Value) → AreRegistersOf e t given → AreOfSorts (registers_of e) (values_under (registers_of e) (run.registers 0))
      → IsRestZero e (values_under (registers_of e) (run.registers 0)) → values_under (registers_of e) (run.registers 0) ≡ given
  first_same given are sorted rest = same_values (registers_of e) (values_under (registers_of e) (run.registers 0)) given sorted are.sorted one
    where
      one : (k : ℕ) (x y : Value) → slice_get (values_under (registers_of e) (run.registers 0)) k ≡ Some x → slice_get given k ≡ Some y
          → HasSort x (slice_index_or (registers_of e) k ([], truth)).1 → HasSort y (slice_index_or (registers_of e) k ([], truth)).1 → k < length (registers_of e) → x ≡ y
      one k x y p q hx hy l = by (is_traced e k) refl
        where
          c : CountedBits
          c = register_bits e k

          bits : (slice_get e.bits k ≡ Some c) × (are_bits_of (slice_index_or (registers_of e) k ([], truth)).1 c ≡ true)
          bits = bits_there (registers_of e) e.bits k counting l

          by : (b : Bool) → is_traced e k ≡ b → x ≡ y
          by false h =
              value_same (slice_index_or (registers_of e) k ([], truth)).1 c x y bits.1 hx hy (λ w i. rest k w i c x bits.0 p) (λ w i. are.rest k w i c y bits.0 q)
              (inr (λ w i. unset c w i (λ m j set. true≢false (sym (there_set c.masks m j set) ∙ h))))
          by true h =
              let n = register_name e k in
              let v = entry_given t.registers n (full.registers n (traced (design_of s) e design text counting plain k l h)) in
              let r = place_there (design_of s) e design text counting plain k l in
              let same : map_scope s n ≡ placed_scope r.place r.own =
              ap (map_scope s) r.is_name ∙ means_there (design_of s) r.place r.own text.no_dots r.is_register.is_placed r.is_register.is_declared in
              let count : word_count (map_scope s n) ≡ length c.masks = ap word_count same ∙ sym r.bits.each_word in
              let here : StandsFor (length c.masks) v.0 x = subst (StandsFor (length c.masks) v.0) (run_value k x l p) (subst (λ w. StandsFor w v.0 (run.registers 0 n)) count (told.registers n v.0 v.1)) in
              let given_one : StandsFor (length c.masks) v.0 y = subst (StandsFor (length c.masks) v.0) (got given k y q) (are.told k v.0 l v.1) in
              value_same (slice_index_or (registers_of e) k ([], truth)).1 c x y bits.1 hx hy (λ w i. rest k w i c x bits.0 p) (λ w i. are.rest k w i c y bits.0 q)
              (inl (v.0, here, given_one))

  stood : (w x : ℕ) (v z : Value) → v ≡ number x → StandsFor w v z → z ≡ number x
  stood w x v z q h = number_of_number z (subst (λ u. StandsFor w u z) q h)
    where
      number_of_number : (u : Value) → StandsFor w (number x) u → u ≡ number x
      number_of_number (truth_value b) f = absurd f
      number_of_number (number y) f = ap number (sym f)
      number_of_number (words ys) f = absurd f

  pub inputs_same : (cycles : List (List ℕ)) → AreCyclesOf e t cycles → (k : ℕ) (numbers : List ℕ) → slice_get cycles k ≡ Some numbers → k < length t.inputs
      → values_under (inputs_of e) (run.inputs k) ≡ map number numbers
  inputs_same cycles are k numbers q l = under_same (inputs_of e) (map number numbers) (run.inputs k) value_at of.sorted
    where
      es : (x : Entries Value) × (slice_get t.inputs k ≡ Some x)
      es = item_there t.inputs k l

      of : AreInputsOf e es.0 numbers
      of = are.each k es.0 numbers es.1 q

      value_at : (j : ℕ) → j < length (inputs_of e) → run.inputs k (input_name e j) ≡ slice_index_or (map number numbers) j (number 0)
      value_at j m =
          let n = input_name e j in
          let i = data_input (design_of s) e design text counting plain j m in
          let v =
          entry_given es.0 n
          (full.inputs es.0 n (contained t.inputs k es.0 es.1) (record { place = i.top; is_place = i.is_top; is_port = i.is_input; other = i.no_clock })) in
          stood (word_count (map_scope s n)) (slice_index_or numbers j 0) v.0 (run.inputs k n) (of.told j v.0 m v.1) (told.inputs k es.0 n v.0 es.1 v.1)
          ∙ sym (number_there numbers j)
