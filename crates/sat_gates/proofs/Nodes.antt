-- Bits of operands to bits of terms, form by form.
use Rattle.std.proofs.Common.{◌≡◌, ◌∙◌, ℕ, suc, ◌+◌, ◌-◌, ◌*◌, ◌/◌, ◌%◌, ◌^◌, ◌<◌, ◌≤◌, Bool, true, false, not, ◌&&◌, ◌||◌, cond, List, [], ◌∷◌, ◌++◌, length, take, drop, replicate, get_or, Option, Some, None, eqb, ltb, arith, refl, sym, ap, subst, ◌⊎◌, inl, inr}
use Rattle.std.specs.Prelude.{IsSome, nat_le, nat_lt}
use Rattle.std.proofs.lemmas.Bool.{false≢true, eqb-true, leb-true, ltb-true, le-leb, lt-leb, cases_eq, and_parts}
use Rattle.std.proofs.Math.Nat.{pow-succ'}
use Rattle.std.proofs.lemmas.Nat.{pow-add}
use Rattle.std.proofs.lemmas.List.{length-append, length-drop, length-take-le, length-replicate, take_all, take_more, nil_from_length}
use Rattle.wb_values.specs.Value.{Sort, truth, word, memory, Value, truth_value, number, words, as_truth, as_number}
use Rattle.wb_values.specs.Choice.{some_if}
use Rattle.model_meaning.specs.Term.{bits_sort, same_bits_sort, same_word_sort, compared, concat_sort, extract_sort, extended_sort, ite_sort, same_sort, width_of_sort, complement, conjunction, disjunction, exclusive_or, is_equal}
use Rattle.wb_values.specs.Number.{word_add, word_sub, word_ult, word_ule, word_concat, word_extract, word_zext, word_sext, top_bit}
use Rattle.gate_base.specs.Circuit.{exactly_one}
use Rattle.gate_words.specs.declared.chains.Cell.{Cell}
use Rattle.gate_words.specs.declared.chains.Cell.TheVariants as cell
use Rattle.gate_words.specs.Binary.{digit, number_of}
use Rattle.gate_words.specs.Cells.{outputs, last_carry}
use Rattle.gate_words.proofs.Numbers.{number_below, length-outputs, number-and, number-or, number-xor, number-not, choose_all, number-sum, number-difference, last-below, last-same, number-append, number-drop, number-take, number-zeros, top_of, signed_fill}
use Rattle.sat_gates.specs.Encodes.{Writes}
use Rattle.sat_gates.specs.Blasting.{WritesOf}

-- two words of one width
pub record AreWords (a b r : Option Sort) : Type 0 where
  pub bits : ℕ
  pub left : a ≡ Some (word bits)
  pub right : b ≡ Some (word bits)
  pub result : r ≡ Some (word bits)

words_of_test : (w u : ℕ) (t : Bool) → eqb w u ≡ t → IsSome (some_if t (word w)) → AreWords (Some (word w)) (Some (word u)) (some_if t (word w))
words_of_test w u true e s = record { bits = w; left = refl; right = ap (λ n. Some (word n)) (sym (eqb-true w u e)); result = refl }
words_of_test w u false e s = absurd (false≢true s)

pub are_words : (a b : Option Sort) → IsSome (same_word_sort a b) → AreWords a b (same_word_sort a b)
are_words (Some (word w)) (Some (word u)) s = words_of_test w u (eqb w u) refl s
are_words _ _ s = absurd (false≢true s)

pub record AreTruths (a b r : Option Sort) : Type 0 where
  pub left : a ≡ Some truth
  pub right : b ≡ Some truth
  pub result : r ≡ Some truth

pub are_bits : (a b : Option Sort) → IsSome (same_bits_sort a b) → AreTruths a b (same_bits_sort a b) ⊎ AreWords a b (same_bits_sort a b)
are_bits (Some truth) (Some truth) s = inl (record { left = refl; right = refl; result = refl })
are_bits (Some (word w)) (Some (word u)) s = inr (words_of_test w u (eqb w u) refl s)
are_bits _ _ s = absurd (false≢true s)

-- what it is to write a word or a truth value
pub word_written : (u : ℕ) (x : Value) (xs : List Bool) → Writes (word u) x xs → (length xs ≡ u) × (number_of xs ≡ as_number x)
word_written u (truth_value b) xs h = absurd h
word_written u (number n) xs h = h
word_written u (words ws) xs h = absurd h

pub truth_written : (x : Value) (xs : List Bool) → Writes truth x xs → (x ≡ truth_value (as_truth x)) × (xs ≡ as_truth x ∷ [])
truth_written (truth_value b) xs h = (refl, h)
truth_written (number n) xs h = absurd h
truth_written (words ws) xs h = absurd h

pub is_number : (u : ℕ) (x : Value) (xs : List Bool) → Writes (word u) x xs → x ≡ number (as_number x)
is_number u (truth_value b) xs h = absurd h
is_number u (number n) xs h = refl
is_number u (words ws) xs h = absurd h

-- a result of two words that is a word
both_words : (a b r : Option Sort) (x y : Value) (xs ys out : List Bool) (t : AreWords a b r) → WritesOf a x xs → WritesOf b y ys → (n : ℕ)
    → (length xs ≡ t.bits → length ys ≡ t.bits → number_of xs ≡ as_number x → number_of ys ≡ as_number y → (length out ≡ t.bits) × (number_of out ≡ n)) → WritesOf r (number n) out
both_words a b r x y xs ys out t h k n f =
    let p = word_written t.bits x xs (subst (λ o. WritesOf o x xs) t.left h) in
    let q = word_written t.bits y ys (subst (λ o. WritesOf o y ys) t.right k) in
    subst (λ o. WritesOf o (number n) out) (sym t.result) (f p.0 q.0 p.1 q.1)

pub writes_add : (a b : Option Sort) (x y : Value) (xs ys out : List Bool) → IsSome (same_word_sort a b) → WritesOf a x xs → WritesOf b y ys
    → out ≡ outputs cell.Sum false xs ys → WritesOf (same_word_sort a b) (number (word_add (width_of_sort a) (as_number x) (as_number y))) out
writes_add a b x y xs ys out s h k e =
    let t = are_words a b s in
    both_words a b (same_word_sort a b) x y xs ys out t h k (word_add (width_of_sort a) (as_number x) (as_number y)) (λ i j p q.
    let l : length xs ≡ length ys = i ∙ sym j in
    let w : length xs ≡ width_of_sort a = i ∙ sym (ap width_of_sort t.left) in
    let z : number_of xs + number_of ys + 0 ≡ as_number x + as_number y = omega (arith, p, q) in (
      ap length e ∙ (length-outputs cell.Sum false xs ys l ∙ i),
      ap number_of e ∙ (number-sum false xs ys l ∙ (ap (λ n. n % 2 ^ length xs) z ∙ ap (λ n. (as_number x + as_number y) % 2 ^ n) w)),
    ))

pub writes_sub : (a b : Option Sort) (x y : Value) (xs ys out : List Bool) → IsSome (same_word_sort a b) → WritesOf a x xs → WritesOf b y ys
    → out ≡ outputs cell.Difference true xs ys → WritesOf (same_word_sort a b) (number (word_sub (width_of_sort a) (as_number x) (as_number y))) out
writes_sub a b x y xs ys out s h k e =
    let t = are_words a b s in
    both_words a b (same_word_sort a b) x y xs ys out t h k (word_sub (width_of_sort a) (as_number x) (as_number y)) (λ i j p q.
    let l : length xs ≡ length ys = i ∙ sym j in
    let w : length xs ≡ width_of_sort a = i ∙ sym (ap width_of_sort t.left) in (
      ap length e ∙ (length-outputs cell.Difference true xs ys l ∙ i),
      ap number_of e ∙ (number-difference xs ys l ∙ (ap (λ n. (n + (2 ^ length xs - number_of ys)) % 2 ^ length xs) p
          ∙ (ap (λ n. (as_number x + (2 ^ length xs - n)) % 2 ^ length xs) q ∙ ap (λ n. (as_number x + (2 ^ n - as_number y)) % 2 ^ n) w))),
    ))

-- an operator on two words of one width
pub writes_word : (f : ℕ → ℕ → ℕ → ℕ) (a b : Option Sort) (x y : Value) (xs ys out : List Bool) → IsSome (same_word_sort a b) → WritesOf a x xs → WritesOf b y ys
    → length out ≡ length xs → number_of out ≡ f (length xs) (number_of xs) (number_of ys)
    → WritesOf (same_word_sort a b) (number (f (width_of_sort a) (as_number x) (as_number y))) out
writes_word f a b x y xs ys out s h k l e =
    let t = are_words a b s in
    both_words a b (same_word_sort a b) x y xs ys out t h k (f (width_of_sort a) (as_number x) (as_number y)) (λ i j p q.
    let w : length xs ≡ width_of_sort a = i ∙ sym (ap width_of_sort t.left) in (
      l ∙ i,
      e ∙ (ap (λ n. f n (number_of xs) (number_of ys)) w ∙ (ap (λ n. f (width_of_sort a) n (number_of ys)) p ∙ ap (f (width_of_sort a) (as_number x)) q)),
    ))

-- bit by bit: on words the numbers, on truth values the one bit
both_bits : (op : Value → Value → Value) (k : Cell) (f : Bool → Bool → Bool) (g : ℕ → ℕ → ℕ)
    → ((p q : Bool) → op (truth_value p) (truth_value q) ≡ truth_value (f p q))
    → ((m n : ℕ) → op (number m) (number n) ≡ number (g m n))
    → ((p q : Bool) → outputs k false (p ∷ []) (q ∷ []) ≡ f p q ∷ [])
    → ((xs ys : List Bool) → length xs ≡ length ys → number_of (outputs k false xs ys) ≡ g (number_of xs) (number_of ys))
    → (a b : Option Sort) (x y : Value) (xs ys out : List Bool) → IsSome (same_bits_sort a b) → WritesOf a x xs → WritesOf b y ys
    → out ≡ outputs k false xs ys → WritesOf (same_bits_sort a b) (op x y) out
both_bits op k f g on_truths on_numbers on_bits on_lists a b x y xs ys out s h l e = elim (are_bits a b s) [
  | inl t ↦
      let p = truth_written x xs (subst (λ o. WritesOf o x xs) t.left h) in
      let q = truth_written y ys (subst (λ o. WritesOf o y ys) t.right l) in
      let value : op x y ≡ truth_value (f (as_truth x) (as_truth y)) = ap (λ z. op z y) p.0 ∙ (ap (λ z. op (truth_value (as_truth x)) z) q.0 ∙ on_truths (as_truth x) (as_truth y)) in
      let bits : out ≡ f (as_truth x) (as_truth y) ∷ [] = e ∙ (ap (λ z. outputs k false z ys) p.1 ∙ (ap (λ z. outputs k false (as_truth x ∷ []) z) q.1 ∙ on_bits (as_truth x) (as_truth y))) in
      subst (λ o. WritesOf o (op x y) out) (sym t.result) (subst (λ z. Writes truth z out) (sym value) bits)
  | inr t ↦
      let hx = subst (λ o. WritesOf o x xs) t.left h in
      let hy = subst (λ o. WritesOf o y ys) t.right l in
      let p = word_written t.bits x xs hx in
      let q = word_written t.bits y ys hy in
      let value : op x y ≡ number (g (as_number x) (as_number y)) =
      ap (λ z. op z y) (is_number t.bits x xs hx) ∙ (ap (λ z. op (number (as_number x)) z) (is_number t.bits y ys hy) ∙ on_numbers (as_number x) (as_number y)) in
      let same : length xs ≡ length ys = p.0 ∙ sym q.0 in
      subst (λ o. WritesOf o (op x y) out) (sym t.result) (subst (λ z. Writes (word t.bits) z out) (sym value)
      (ap length e ∙ (length-outputs k false xs ys same ∙ p.0), ap number_of e ∙ (on_lists xs ys same ∙ (ap (λ z. g z (number_of ys)) p.1 ∙ ap (λ z. g (as_number x) z) q.1))))
]

pub writes_and : (a b : Option Sort) (x y : Value) (xs ys out : List Bool) → IsSome (same_bits_sort a b) → WritesOf a x xs → WritesOf b y ys
    → out ≡ outputs cell.And false xs ys → WritesOf (same_bits_sort a b) (conjunction x y) out
writes_and = both_bits conjunction cell.And (λ p q. p && q) _ (λ p q. refl) (λ m n. refl) (λ p q. refl) (number-and false)

pub writes_or : (a b : Option Sort) (x y : Value) (xs ys out : List Bool) → IsSome (same_bits_sort a b) → WritesOf a x xs → WritesOf b y ys
    → out ≡ outputs cell.Or false xs ys → WritesOf (same_bits_sort a b) (disjunction x y) out
writes_or = both_bits disjunction cell.Or (λ p q. p || q) _ (λ p q. refl) (λ m n. refl) (λ p q. refl) (number-or false)

pub writes_xor : (a b : Option Sort) (x y : Value) (xs ys out : List Bool) → IsSome (same_bits_sort a b) → WritesOf a x xs → WritesOf b y ys
    → out ≡ outputs cell.Xor false xs ys → WritesOf (same_bits_sort a b) (exclusive_or x y) out
writes_xor = both_bits exclusive_or cell.Xor exactly_one _ (λ p q. refl) (λ m n. refl) (λ p q. refl) (number-xor false)

-- complement
pub not_bits : (o : Option Sort) → IsSome (bits_sort o) → (o ≡ Some truth) ⊎ ((u : ℕ) × (o ≡ Some (word u)))
not_bits (Some truth) s = inl refl
not_bits (Some (word w)) s = inr (w, refl)
not_bits _ s = absurd (false≢true s)

pub writes_not : (a : Option Sort) (x : Value) (xs out : List Bool) → IsSome (bits_sort a) → WritesOf a x xs
    → out ≡ outputs cell.Not false xs xs → WritesOf (bits_sort a) (complement (width_of_sort a) x) out
writes_not a x xs out s h e = elim (not_bits a s) [
  | inl t ↦
      let p = truth_written x xs (subst (λ o. WritesOf o x xs) t h) in
      let bits : out ≡ not (as_truth x) ∷ [] = e ∙ (ap (λ z. outputs cell.Not false z z) p.1) in
      let value : complement (width_of_sort a) x ≡ truth_value (not (as_truth x)) = ap (complement (width_of_sort a)) p.0 in
      subst (λ o. WritesOf (bits_sort o) (complement (width_of_sort a) x) out) (sym t) (subst (λ z. Writes truth z out) (sym value) bits)
  | inr t ↦
      let hx = subst (λ o. WritesOf o x xs) t.1 h in
      let p = word_written t.0 x xs hx in
      let value : complement (width_of_sort a) x ≡ number (2 ^ t.0 - 1 - as_number x) =
      ap (complement (width_of_sort a)) (is_number t.0 x xs hx) ∙ ap (λ n. number (2 ^ n - 1 - as_number x)) (ap width_of_sort t.1) in
      subst (λ o. WritesOf (bits_sort o) (complement (width_of_sort a) x) out) (sym t.1) (subst (λ z. Writes (word t.0) z out) (sym value) (
        ap length e ∙ (length-outputs cell.Not false xs xs refl ∙ p.0),
        ap number_of e ∙ (number-not false xs xs refl ∙ (ap (λ n. 2 ^ n - 1 - number_of xs) p.0 ∙ ap (λ n. 2 ^ t.0 - 1 - n) p.1)),
      ))
]

-- comparisons
pub compared_some : (o : Option Sort) → IsSome (compared o) → IsSome o
compared_some (Some s) h = refl
compared_some None h = absurd (false≢true h)

pub compared_truth : (o : Option Sort) → IsSome (compared o) → compared o ≡ Some truth
compared_truth (Some s) h = refl
compared_truth None h = absurd (false≢true h)

pub writes_eq : (a b : Option Sort) (x y : Value) (xs ys : List Bool) (out : Bool) → IsSome (compared (same_bits_sort a b)) → WritesOf a x xs → WritesOf b y ys
    → out ≡ last_carry cell.Same true xs ys → WritesOf (compared (same_bits_sort a b)) (truth_value (is_equal x y)) (out ∷ [])
writes_eq a b x y xs ys out s h l e =
    subst (λ o. WritesOf o (truth_value (is_equal x y)) (out ∷ [])) (sym (compared_truth (same_bits_sort a b) s)) (ap (λ t. t ∷ []) (e ∙ equal))
  where
    one_bit : (p q : Bool) → last_carry cell.Same true (p ∷ []) (q ∷ []) ≡ is_equal (truth_value p) (truth_value q)
    one_bit true true = refl
    one_bit true false = refl
    one_bit false true = refl
    one_bit false false = refl

    equal : last_carry cell.Same true xs ys ≡ is_equal x y
    equal = elim (are_bits a b (compared_some (same_bits_sort a b) s)) [
      | inl t ↦
          let p = truth_written x xs (subst (λ o. WritesOf o x xs) t.left h) in
          let q = truth_written y ys (subst (λ o. WritesOf o y ys) t.right l) in
          ap (λ z. last_carry cell.Same true z ys) p.1 ∙ (ap (λ z. last_carry cell.Same true (as_truth x ∷ []) z) q.1
          ∙ (one_bit (as_truth x) (as_truth y) ∙ (ap (λ z. is_equal z (truth_value (as_truth y))) (sym p.0) ∙ ap (is_equal x) (sym q.0))))
      | inr t ↦
          let hx = subst (λ o. WritesOf o x xs) t.left h in
          let hy = subst (λ o. WritesOf o y ys) t.right l in
          let p = word_written t.bits x xs hx in
          let q = word_written t.bits y ys hy in
          last-same true xs ys (p.0 ∙ sym q.0)
          ∙ (ap (λ z. eqb z (number_of ys)) p.1 ∙ (ap (eqb (as_number x)) q.1
          ∙ (ap (λ z. is_equal z (number (as_number y))) (sym (is_number t.bits x xs hx)) ∙ ap (is_equal x) (sym (is_number t.bits y ys hy)))))
    ]

compare_words : (a b : Option Sort) (x y : Value) (xs ys : List Bool) (c out answer : Bool) → IsSome (compared (same_word_sort a b)) → WritesOf a x xs → WritesOf b y ys
    → out ≡ last_carry cell.Below c xs ys → ltb (as_number x) (as_number y + digit c) ≡ answer → WritesOf (compared (same_word_sort a b)) (truth_value answer) (out ∷ [])
compare_words a b x y xs ys c out answer s h l e f =
    let t = are_words a b (compared_some (same_word_sort a b) s) in
    let p = word_written t.bits x xs (subst (λ o. WritesOf o x xs) t.left h) in
    let q = word_written t.bits y ys (subst (λ o. WritesOf o y ys) t.right l) in
    let v : out ≡ answer = e ∙ (last-below c xs ys (p.0 ∙ sym q.0) ∙ (ap (λ z. ltb z (number_of ys + digit c)) p.1 ∙ (ap (λ z. ltb (as_number x) (z + digit c)) q.1 ∙ f))) in
    subst (λ o. WritesOf o (truth_value answer) (out ∷ [])) (sym (compared_truth (same_word_sort a b) s)) (ap (λ z. z ∷ []) v)

pub writes_ult : (a b : Option Sort) (x y : Value) (xs ys : List Bool) (out : Bool) → IsSome (compared (same_word_sort a b)) → WritesOf a x xs → WritesOf b y ys
    → out ≡ last_carry cell.Below false xs ys → WritesOf (compared (same_word_sort a b)) (truth_value (word_ult (as_number x) (as_number y))) (out ∷ [])
writes_ult a b x y xs ys out s h l e =
    compare_words a b x y xs ys false out (word_ult (as_number x) (as_number y)) s h l e (ap (ltb (as_number x)) (omega arith))

below_next : (m n : ℕ) → ltb m (n + 1) ≡ word_ule m n
below_next m n = grind (arith)

pub writes_ule : (a b : Option Sort) (x y : Value) (xs ys : List Bool) (out : Bool) → IsSome (compared (same_word_sort a b)) → WritesOf a x xs → WritesOf b y ys
    → out ≡ last_carry cell.Below true xs ys → WritesOf (compared (same_word_sort a b)) (truth_value (word_ule (as_number x) (as_number y))) (out ∷ [])
writes_ule a b x y xs ys out s h l e =
    compare_words a b x y xs ys true out (word_ule (as_number x) (as_number y)) s h l e (below_next (as_number x) (as_number y))

-- a comparison that knows the width
pub writes_signed : (f : ℕ → ℕ → ℕ → Bool) (a b : Option Sort) (x y : Value) (xs ys : List Bool) (out : Bool) → IsSome (compared (same_word_sort a b)) → WritesOf a x xs → WritesOf b y ys
    → out ≡ f (length xs) (number_of xs) (number_of ys)
    → WritesOf (compared (same_word_sort a b)) (truth_value (f (width_of_sort a) (as_number x) (as_number y))) (out ∷ [])
writes_signed f a b x y xs ys out s h k e =
    let t = are_words a b (compared_some (same_word_sort a b) s) in
    let p = word_written t.bits x xs (subst (λ o. WritesOf o x xs) t.left h) in
    let q = word_written t.bits y ys (subst (λ o. WritesOf o y ys) t.right k) in
    let w : length xs ≡ width_of_sort a = p.0 ∙ sym (ap width_of_sort t.left) in
    let v : out ≡ f (width_of_sort a) (as_number x) (as_number y) =
    e ∙ (ap (λ n. f n (number_of xs) (number_of ys)) w ∙ (ap (λ n. f (width_of_sort a) n (number_of ys)) p.1 ∙ ap (f (width_of_sort a) (as_number x)) q.1)) in
    subst (λ o. WritesOf o (truth_value (f (width_of_sort a) (as_number x) (as_number y))) (out ∷ [])) (sym (compared_truth (same_word_sort a b) s)) (ap (λ z. z ∷ []) v)

-- a choice
same_sort_true : (s t : Sort) → same_sort s t ≡ true → s ≡ t
same_sort_true truth truth e = refl
same_sort_true (word w) (word u) e = ap word (eqb-true w u e)
same_sort_true (memory a d) (memory b f) e = let p = and_parts _ _ e in ap (λ n. memory n d) (eqb-true a b p.0) ∙ ap (memory b) (eqb-true d f p.1)
same_sort_true truth (word u) e = absurd (false≢true e)
same_sort_true truth (memory b f) e = absurd (false≢true e)
same_sort_true (word w) truth e = absurd (false≢true e)
same_sort_true (word w) (memory b f) e = absurd (false≢true e)
same_sort_true (memory a d) truth e = absurd (false≢true e)
same_sort_true (memory a d) (word u) e = absurd (false≢true e)

pub record IsChoice (c a b r : Option Sort) : Type 0 where
  pub sort : Sort
  pub condition : c ≡ Some truth
  pub left : a ≡ Some sort
  pub right : b ≡ Some sort
  pub result : r ≡ Some sort

choice_of_test : (s t : Sort) (e : Bool) → same_sort s t ≡ e → IsSome (some_if e s) → IsChoice (Some truth) (Some s) (Some t) (some_if e s)
choice_of_test s t true e h = record { sort = s; condition = refl; left = refl; right = ap Some (sym (same_sort_true s t e)); result = refl }
choice_of_test s t false e h = absurd (false≢true h)

pub is_choice : (c a b : Option Sort) → IsSome (ite_sort c a b) → IsChoice c a b (ite_sort c a b)
is_choice (Some truth) (Some s) (Some t) h = choice_of_test s t (same_sort s t) refl h
is_choice _ _ _ h = absurd (false≢true h)

pub writes_ite : (c a b : Option Sort) (z x y : Value) (zs xs ys out : List Bool) (chosen : Bool) → IsSome (ite_sort c a b) → WritesOf c z zs → WritesOf a x xs → WritesOf b y ys
    → length xs ≡ length ys → zs ≡ chosen ∷ [] → out ≡ outputs cell.Choose chosen xs ys → WritesOf (ite_sort c a b) (cond (as_truth z) x y) out
writes_ite c a b z x y zs xs ys out chosen s g h k l d e =
    let t = is_choice c a b s in
    let p = truth_written z zs (subst (λ o. WritesOf o z zs) t.condition g) in
    let hx = subst (λ o. WritesOf o x xs) t.left h in
    let hy = subst (λ o. WritesOf o y ys) t.right k in
    let same : as_truth z ≡ chosen = first_same (as_truth z) chosen (sym p.1 ∙ d) in
    subst (λ o. WritesOf o (cond (as_truth z) x y) out) (sym t.result)
    (subst (λ bs. Writes t.sort (cond (as_truth z) x y) bs) (sym (e ∙ choose_all chosen xs ys l))
    (subst (λ q. Writes t.sort (cond q x y) (cond chosen xs ys)) (sym same) (pick chosen t.sort hx hy)))
  where
    first_same : (p q : Bool) → p ∷ [] ≡ q ∷ [] → p ≡ q
    first_same p q f = ap (λ bs. head_of bs) f
      where
        head_of : List Bool → Bool
        head_of [] = false
        head_of (b ∷ bs) = b

    pick : (q : Bool) (s : Sort) → Writes s x xs → Writes s y ys → Writes s (cond q x y) (cond q xs ys)
    pick true s i j = i
    pick false s i j = j

-- joins, parts and wider words
pub record AreJoined (a b r : Option Sort) : Type 0 where
  pub high : ℕ
  pub low : ℕ
  pub left : a ≡ Some (word high)
  pub right : b ≡ Some (word low)
  pub result : r ≡ Some (word (high + low))

joined_test : (u w : ℕ) (t : Bool) → IsSome (some_if t (word (u + w))) → AreJoined (Some (word u)) (Some (word w)) (some_if t (word (u + w)))
joined_test u w true s = record { high = u; low = w; left = refl; right = refl; result = refl }
joined_test u w false s = absurd (false≢true s)

pub are_joined : (a b : Option Sort) → IsSome (concat_sort a b) → AreJoined a b (concat_sort a b)
are_joined (Some (word u)) (Some (word w)) s = joined_test u w _ s
are_joined _ _ s = absurd (false≢true s)

pub writes_concat : (a b : Option Sort) (x y : Value) (xs ys out : List Bool) → IsSome (concat_sort a b) → WritesOf a x xs → WritesOf b y ys
    → out ≡ ys ++ xs → WritesOf (concat_sort a b) (number (word_concat (width_of_sort b) (as_number x) (as_number y))) out
writes_concat a b x y xs ys out s h k e =
    let t = are_joined a b s in
    let p = word_written t.high x xs (subst (λ o. WritesOf o x xs) t.left h) in
    let q = word_written t.low y ys (subst (λ o. WritesOf o y ys) t.right k) in
    let w : length ys ≡ width_of_sort b = q.0 ∙ sym (ap width_of_sort t.right) in
    subst (λ o. WritesOf o (number (word_concat (width_of_sort b) (as_number x) (as_number y))) out) (sym t.result) (
      ap length e ∙ (length-append ys xs ∙ omega (arith, p.0, q.0)),
      ap number_of e ∙ (number-append ys xs ∙ (ap (λ n. n * 2 ^ length ys + number_of ys) p.1 ∙ (ap (λ n. as_number x * 2 ^ length ys + n) q.1 ∙ ap (λ n. as_number x * 2 ^ n + as_number y) w))),
    )

pub record IsCut (h l : ℕ) (a r : Option Sort) : Type 0 where
  pub bits : ℕ
  pub operand : a ≡ Some (word bits)
  pub order : l ≤ h
  pub below : h < bits
  pub result : r ≡ Some (word (h + 1 - l))

cut_test : (h l w : ℕ) (t : Bool) → (nat_le l h && nat_lt h w) ≡ t → IsSome (some_if t (word (h + 1 - l))) → IsCut h l (Some (word w)) (some_if t (word (h + 1 - l)))
cut_test h l w true e s = let p = and_parts _ _ e in record { bits = w; operand = refl; order = leb-true l h p.0; below = ltb-true h w p.1; result = refl }
cut_test h l w false e s = absurd (false≢true s)

pub is_cut : (h l : ℕ) (a : Option Sort) → IsSome (extract_sort h l a) → IsCut h l a (extract_sort h l a)
is_cut h l (Some (word w)) s = cut_test h l w (nat_le l h && nat_lt h w) refl s
is_cut h l (Some truth) s = absurd (false≢true s)
is_cut h l (Some (memory a d)) s = absurd (false≢true s)
is_cut h l None s = absurd (false≢true s)

pub writes_extract : (h l : ℕ) (a : Option Sort) (x : Value) (xs out : List Bool) → IsSome (extract_sort h l a) → WritesOf a x xs
    → out ≡ take (h + 1 - l) (drop l xs) → WritesOf (extract_sort h l a) (number (word_extract h l (as_number x))) out
writes_extract h l a x xs out s g e =
    let t = is_cut h l a s in
    let p = word_written t.bits x xs (subst (λ o. WritesOf o x xs) t.operand g) in
    let fits : h + 1 - l ≤ length (drop l xs) = omega (arith, length-drop l xs, p.0, t.order, t.below) in
    subst (λ o. WritesOf o (number (word_extract h l (as_number x))) out) (sym t.result) (
      ap length e ∙ length-take-le (h + 1 - l) (drop l xs) fits,
      ap number_of e ∙ (number-take (h + 1 - l) (drop l xs) fits ∙ (ap (λ n. n % 2 ^ (h + 1 - l)) (number-drop l xs) ∙ ap (λ n. n / 2 ^ l % 2 ^ (h + 1 - l)) p.1)),
    )

pub record IsWider (n : ℕ) (a r : Option Sort) : Type 0 where
  pub bits : ℕ
  pub operand : a ≡ Some (word bits)
  pub order : bits ≤ n
  pub result : r ≡ Some (word n)

wider_test : (n w : ℕ) (t : Bool) → (nat_le w n && nat_le n 128) ≡ t → IsSome (some_if t (word n)) → IsWider n (Some (word w)) (some_if t (word n))
wider_test n w true e s = let p = and_parts _ _ e in record { bits = w; operand = refl; order = leb-true w n p.0; result = refl }
wider_test n w false e s = absurd (false≢true s)

pub is_wider : (n : ℕ) (a : Option Sort) → IsSome (extended_sort n a) → IsWider n a (extended_sort n a)
is_wider n (Some (word w)) s = wider_test n w (nat_le w n && nat_le n 128) refl s
is_wider n (Some truth) s = absurd (false≢true s)
is_wider n (Some (memory a d)) s = absurd (false≢true s)
is_wider n None s = absurd (false≢true s)

pub writes_zext : (n : ℕ) (a : Option Sort) (x : Value) (xs out : List Bool) → IsSome (extended_sort n a) → WritesOf a x xs
    → out ≡ xs ++ replicate (n - length xs) false → WritesOf (extended_sort n a) (number (word_zext (as_number x))) out
writes_zext n a x xs out s g e =
    let t = is_wider n a s in
    let p = word_written t.bits x xs (subst (λ o. WritesOf o x xs) t.operand g) in
    subst (λ o. WritesOf o (number (word_zext (as_number x))) out) (sym t.result) (
      ap length e ∙ (length-append xs (replicate (n - length xs) false) ∙ omega (arith, length-replicate (n - length xs) false, p.0, t.order)),
      ap number_of e ∙ (number-append xs (replicate (n - length xs) false) ∙ (ap (λ k. k * 2 ^ length xs + number_of xs) (number-zeros (n - length xs)) ∙ omega (arith, p.1))),
    )

pub writes_sext : (n : ℕ) (a : Option Sort) (x : Value) (xs out : List Bool) → IsSome (extended_sort n a) → WritesOf a x xs
    → out ≡ xs ++ replicate (n - length xs) (get_or xs (length xs - 1) false) → WritesOf (extended_sort n a) (number (word_sext n (width_of_sort a) (as_number x))) out
writes_sext n a x xs out s g e =
    let t = is_wider n a s in
    let p = word_written t.bits x xs (subst (λ o. WritesOf o x xs) t.operand g) in
    let b = get_or xs (length xs - 1) false in
    let w : length xs ≡ width_of_sort a = p.0 ∙ sym (ap width_of_sort t.operand) in
    let top : b ≡ top_bit (width_of_sort a) (as_number x) = sym (top_of xs) ∙ (ap (λ k. top_bit k (number_of xs)) w ∙ ap (top_bit (width_of_sort a)) p.1) in
    subst (λ o. WritesOf o (number (word_sext n (width_of_sort a) (as_number x))) out) (sym t.result) (
      ap length e ∙ (length-append xs (replicate (n - length xs) b) ∙ omega (arith, length-replicate (n - length xs) b, p.0, t.order)),
      ap number_of e ∙ (number-append xs (replicate (n - length xs) b) ∙ (signed_fill b (number_of xs) (length xs) n (omega (arith, p.0, t.order))
          ∙ (ap (λ k. k + cond b (2 ^ n - 2 ^ length xs) 0) p.1 ∙ (ap (λ k. as_number x + cond b (2 ^ n - 2 ^ k) 0) w ∙ ap (λ k. as_number x + cond k (2 ^ n - 2 ^ width_of_sort a) 0) top)))),
    )
