-- Inputs and the values of names, through the layout of the variables.
use Rattle.std.proofs.Common.{◌≡◌, ◌∙◌, ℕ, zero, suc, ◌+◌, ◌-◌, ◌/◌, ◌%◌, ◌^◌, ◌<◌, ◌≤◌, Bool, true, false, cond, List, [], ◌∷◌, ◌++◌, length, map, get_or, Option, Some, None, eqb, arith, refl, sym, ap, subst, inl, inr}
use Rattle.std.proofs.lemmas.List.{length-append}
use Rattle.std.proofs.lemmas.Bool.{false≢true, cases_eq, cases_lt, eq-eqb, ne_eqb, ltb-true}
use Rattle.std.proofs.lemmas.Nat.{div-add-mod', mod_below}
use Rattle.std.proofs.lemmas.Slice.Eq.{bytes_eq-Decides}
use Rattle.std.proofs.Math.Nat.{pow-succ'}
use Rattle.wb_values.specs.Value.{Name, Sort, truth, word, memory, Value, truth_value, number, words, as_truth, as_number, Entries, Valuation, HasSort, entry_of, same_name}
use Rattle.wb_terms.specs.Graph.{HasDistinctNames}
use Rattle.sat_base.specs.Formula.{variable_value}
use Rattle.gate_words.specs.Binary.{digit, number_of}
use Rattle.sat_gates.specs.Encodes.{Writes}
use Rattle.sat_gates.specs.Layout.{bit_count, variables_from, variables_of_sort, variables_of, firsts_of, end_of, next_after, IsLaidOut}
use Rattle.std.specs.Prelude.{is_some}
use Rattle.sat_gates.specs.Used.{entry_at, IsMarked}
use Rattle.sat_gates.specs.Reading.{FitsBelow}

-- a name is found at its place
pub absent : (es : Entries Sort) (m : Name) (j : ℕ) → j < length es → entry_of es m ≡ None → same_name (entry_at es j).0 m ≡ false
absent [] m j i h = absurd (omega (arith, i))
absent (e ∷ es) m zero i h = not_there (same_name e.0 m) h
  where
    not_there : (b : Bool) → cond b (Some e.1) (entry_of es m) ≡ None → b ≡ false
    not_there true k = absurd (no_some k)
      where
        is_none : Option Sort → Bool
        is_none None = true
        is_none (Some s) = false

        no_some : Some e.1 ≡ None → ⊥
        no_some q = false≢true (ap is_none q)
    not_there false k = refl
absent (e ∷ es) m (suc j) i h = absent es m j (omega (arith, i)) (rest (same_name e.0 m) h)
  where
    rest : (b : Bool) → cond b (Some e.1) (entry_of es m) ≡ None → entry_of es m ≡ None
    rest true k = absurd (no_some k)
      where
        is_none : Option Sort → Bool
        is_none None = true
        is_none (Some s) = false

        no_some : Some e.1 ≡ None → ⊥
        no_some q = false≢true (ap is_none q)
    rest false k = k

pub same_itself : (n : Name) → same_name n n ≡ true
same_itself n = (bytes_eq-Decides n n).1 refl

pub not_same : (n m : Name) → same_name n m ≡ false → same_name m n ≡ false
not_same n m e = test (same_name m n) refl
  where
    test : (b : Bool) → same_name m n ≡ b → same_name m n ≡ false
    test true h = absurd (false≢true (sym e ∙ (bytes_eq-Decides n m).1 (sym ((bytes_eq-Decides m n).0 h))))
    test false h = h

-- the first variable of a name
abbrev pub first_at : ℕ → Entries Sort → List Bool → ℕ → ℕ
first_at next (e ∷ es) (u ∷ us) zero = next
first_at next (e ∷ es) (u ∷ us) (suc j) = first_at (next_after next e.1 u) es us j
first_at next _ _ j = next

pub lookup : (next : ℕ) (es : Entries Sort) (us : List Bool) (j : ℕ) → HasDistinctNames es → j < length es → length us ≡ length es → IsMarked us j
    → variables_of es (firsts_of next es us) (entry_at es j).0 ≡ variables_from (first_at next es us j) (bit_count (entry_at es j).1)
lookup next [] us j d i n m = absurd (omega (arith, i))
lookup next (e ∷ es) [] j d i n m = absurd (omega (arith, n))
lookup next (e ∷ es) (u ∷ us) zero d i n m =
    ap (λ b. cond b (variables_of_sort e.1 (cond u (Some next) None)) (variables_of es (firsts_of (next_after next e.1 u) es us) e.0)) (same_itself e.0)
    ∙ ap (λ b. variables_of_sort e.1 (cond b (Some next) None)) m
lookup next (e ∷ es) (u ∷ us) (suc j) d i n m =
    ap (λ b. cond b (variables_of_sort e.1 (cond u (Some next) None)) (variables_of es (firsts_of (next_after next e.1 u) es us) (entry_at es j).0))
    (not_same (entry_at es j).0 e.0 (absent es e.0 j (omega (arith, i)) d.0))
    ∙ lookup (next_after next e.1 u) es us j d.1 (omega (arith, i)) (omega (arith, n)) m

pub first_is : (next : ℕ) (es : Entries Sort) (us : List Bool) (j : ℕ) → j < length es → length us ≡ length es → IsMarked us j → get_or (firsts_of next es us) j None ≡ Some (first_at next es us j)
first_is next [] us j i n m = absurd (omega (arith, i))
first_is next (e ∷ es) [] j i n m = absurd (omega (arith, n))
first_is next (e ∷ es) (u ∷ us) zero i n m = ap (λ b. cond b (Some next) None) m
first_is next (e ∷ es) (u ∷ us) (suc j) i n m = first_is (next_after next e.1 u) es us j (omega (arith, i)) (omega (arith, n)) m

pub firsts_count : (next : ℕ) (es : Entries Sort) (us : List Bool) → length us ≡ length es → length (firsts_of next es us) ≡ length es
firsts_count next [] us n = refl
firsts_count next (e ∷ es) [] n = absurd (omega (arith, n))
firsts_count next (e ∷ es) (u ∷ us) n = ap suc (firsts_count (next_after next e.1 u) es us (omega (arith, n)))

after_le : (next : ℕ) (s : Sort) (u : Bool) → next ≤ next_after next s u
after_le next s true = omega arith
after_le next s false = omega arith

pub end_le : (next : ℕ) (es : Entries Sort) (us : List Bool) → next ≤ end_of next es us
end_le next [] us = omega arith
end_le next (e ∷ es) [] = omega arith
end_le next (e ∷ es) (u ∷ us) = omega (arith, after_le next e.1 u, end_le (next_after next e.1 u) es us)

pub first_fits : (next : ℕ) (es : Entries Sort) (us : List Bool) (j : ℕ) → j < length es → length us ≡ length es → IsMarked us j → first_at next es us j + bit_count (entry_at es j).1 ≤ end_of next es us
first_fits next [] us j i n m = absurd (omega (arith, i))
first_fits next (e ∷ es) [] j i n m = absurd (omega (arith, n))
first_fits next (e ∷ es) (u ∷ us) zero i n m = subst (λ b. next + bit_count e.1 ≤ end_of (next_after next e.1 b) es us) (sym m) (end_le (next + bit_count e.1) es us)
first_fits next (e ∷ es) (u ∷ us) (suc j) i n m = first_fits (next_after next e.1 u) es us j (omega (arith, i)) (omega (arith, n)) m

-- the binary digits of a value
abbrev pub digits : ℕ → ℕ → List Bool
digits zero n = []
digits (suc w) n = eqb (n % 2) 1 ∷ digits w (n / 2)

abbrev pub bits_of : Sort → Value → List Bool
bits_of truth x = as_truth x ∷ []
bits_of (word w) x = digits w (as_number x)
bits_of (memory a d) x = []

digits_count : (w n : ℕ) → length (digits w n) ≡ w
digits_count zero n = refl
digits_count (suc w) n = ap suc (digits_count w (n / 2))

pub bits_count : (s : Sort) (x : Value) → length (bits_of s x) ≡ bit_count s
bits_count truth x = refl
bits_count (word w) x = digits_count w (as_number x)
bits_count (memory a d) x = refl

odd_digit : (r : ℕ) → r < 2 → digit (eqb r 1) ≡ r
odd_digit r h = elim (cases_eq r 1) [
  | inl e ↦ ap digit (eq-eqb r 1 e) ∙ sym e
  | inr e ↦ ap digit (ne_eqb r 1 e) ∙ omega (arith, h, e)
]

digits_value : (w n : ℕ) → n < 2 ^ w → number_of (digits w n) ≡ n
digits_value zero n h = omega (arith, h)
digits_value (suc w) n h =
    let half : n / 2 < 2 ^ w = omega (arith, div-add-mod' n 2, pow-succ' 2 w, h) in
    omega (arith, digits_value w (n / 2) half, odd_digit (n % 2) (mod_below n 2 (omega arith)), div-add-mod' n 2)

abbrev pub IsBitSort : Sort → Type 0
IsBitSort (memory a d) = ⊥
IsBitSort s = Unit {0}

pub bits_write : (s : Sort) (x : Value) → IsBitSort s → HasSort x s → Writes s x (bits_of s x)
bits_write truth (truth_value b) k h = refl
bits_write truth (number n) k h = absurd (false≢true h)
bits_write truth (words ws) k h = absurd (false≢true h)
bits_write (word w) (truth_value b) k h = absurd (false≢true h)
bits_write (word w) (number n) k h = (digits_count w n, digits_value w n (ltb-true n (2 ^ w) h))
bits_write (word w) (words ws) k h = absurd (false≢true h)
bits_write (memory a d) x k h = absurd k

-- bits are determined by the value that they write
number_same : (bs cs : List Bool) → length bs ≡ length cs → number_of bs ≡ number_of cs → bs ≡ cs
number_same [] [] e f = refl
number_same [] (c ∷ cs) e f = absurd (omega (arith, e))
number_same (b ∷ bs) [] e f = absurd (omega (arith, e))
number_same (true ∷ bs) (true ∷ cs) e f = ap (λ x. true ∷ x) (number_same bs cs (omega (arith, e)) (omega (arith, f)))
number_same (true ∷ bs) (false ∷ cs) e f = absurd (omega (arith, f))
number_same (false ∷ bs) (true ∷ cs) e f = absurd (omega (arith, f))
number_same (false ∷ bs) (false ∷ cs) e f = ap (λ x. false ∷ x) (number_same bs cs (omega (arith, e)) (omega (arith, f)))

written_same : (s : Sort) (x : Value) (bs cs : List Bool) → Writes s x bs → Writes s x cs → bs ≡ cs
written_same truth (truth_value b) bs cs h k = h ∙ sym k
written_same truth (number n) bs cs h k = absurd h
written_same truth (words ws) bs cs h k = absurd h
written_same (word w) (truth_value b) bs cs h k = absurd h
written_same (word w) (number n) bs cs h k = number_same bs cs (h.0 ∙ sym k.0) (h.1 ∙ sym k.1)
written_same (word w) (words ws) bs cs h k = absurd h
written_same (memory a d) (truth_value b) bs cs h k = absurd h
written_same (memory a d) (number n) bs cs h k = absurd h
written_same (memory a d) (words ws) bs cs h k = absurd h

-- the inputs that write the values of the used names
abbrev pub inputs_for : Valuation → Entries Sort → List Bool → List Bool
inputs_for v (e ∷ es) (u ∷ us) = cond u (bits_of e.1 (v e.0)) [] ++ inputs_for v es us
inputs_for v _ _ = []

pub inputs_count : (v : Valuation) (next : ℕ) (es : Entries Sort) (us : List Bool) → next + length (inputs_for v es us) ≡ end_of next es us
inputs_count v next [] us = omega arith
inputs_count v next (e ∷ es) [] = omega arith
inputs_count v next (e ∷ es) (true ∷ us) =
    omega (arith, length-append (bits_of e.1 (v e.0)) (inputs_for v es us), bits_count e.1 (v e.0), inputs_count v (next + bit_count e.1) es us)
inputs_count v next (e ∷ es) (false ∷ us) = inputs_count v next es us

-- the assignment has these bits from a variable on
abbrev pub HasFrom : List Bool → ℕ → List Bool → Type 0
HasFrom a next [] = Unit {0}
HasFrom a next (b ∷ bs) = (variable_value a next ≡ b) × HasFrom a (suc next) bs

pub has_from : (a bs : List Bool) (next : ℕ) → ((i : ℕ) → i < length bs → variable_value a (next + i) ≡ get_or bs i false) → HasFrom a next bs
has_from a [] next h = tt
has_from a (b ∷ bs) next h = (
  subst (λ n. variable_value a n ≡ b) (let e : next + 0 ≡ next = omega arith in e) (h 0 (omega arith)),
  has_from a bs (suc next) (λ i k. subst (λ n. variable_value a n ≡ get_or bs i false) (let e : next + suc i ≡ suc next + i = omega arith in e) (h (suc i) (omega (arith, k)))),
)

front_read : (a bs : List Bool) (next n : ℕ) (cs : List Bool) → length bs ≡ n → HasFrom a next (bs ++ cs) → map (variable_value a) (variables_from next n) ≡ bs
front_read a [] next zero cs e h = refl
front_read a [] next (suc n) cs e h = absurd (omega (arith, e))
front_read a (b ∷ bs) next zero cs e h = absurd (omega (arith, e))
front_read a (b ∷ bs) next (suc n) cs e h = ap (λ x. x ∷ map (variable_value a) (variables_from (suc next) n)) h.0 ∙ ap (λ x. b ∷ x) (front_read a bs (suc next) n cs (omega (arith, e)) h.1)

rest_read : (a bs : List Bool) (next n : ℕ) (cs : List Bool) → length bs ≡ n → HasFrom a next (bs ++ cs) → HasFrom a (next + n) cs
rest_read a [] next zero cs e h = subst (λ k. HasFrom a k cs) (let z : next ≡ next + 0 = omega arith in z) h
rest_read a [] next (suc n) cs e h = absurd (omega (arith, e))
rest_read a (b ∷ bs) next zero cs e h = absurd (omega (arith, e))
rest_read a (b ∷ bs) next (suc n) cs e h = subst (λ k. HasFrom a k cs) (let z : suc next + n ≡ next + suc n = omega arith in z) (rest_read a bs (suc next) n cs (omega (arith, e)) h.1)

pub inputs_read : (a : List Bool) (v : Valuation) (next : ℕ) (es : Entries Sort) (us : List Bool) (j : ℕ) → j < length es → length us ≡ length es → IsMarked us j
    → HasFrom a next (inputs_for v es us) → map (variable_value a) (variables_from (first_at next es us j) (bit_count (entry_at es j).1)) ≡ bits_of (entry_at es j).1 (v (entry_at es j).0)
inputs_read a v next [] us j i n m h = absurd (omega (arith, i))
inputs_read a v next (e ∷ es) [] j i n m h = absurd (omega (arith, n))
inputs_read a v next (e ∷ es) (true ∷ us) zero i n m h = front_read a (bits_of e.1 (v e.0)) next (bit_count e.1) (inputs_for v es us) (bits_count e.1 (v e.0)) h
inputs_read a v next (e ∷ es) (false ∷ us) zero i n m h = absurd (false≢true m)
inputs_read a v next (e ∷ es) (true ∷ us) (suc j) i n m h =
    inputs_read a v (next + bit_count e.1) es us j (omega (arith, i)) (omega (arith, n)) m (rest_read a (bits_of e.1 (v e.0)) next (bit_count e.1) (inputs_for v es us) (bits_count e.1 (v e.0)) h)
inputs_read a v next (e ∷ es) (false ∷ us) (suc j) i n m h = inputs_read a v next es us j (omega (arith, i)) (omega (arith, n)) m h

-- two assignments that write the same values agree on the inputs
range_same : (a b : List Bool) (first n : ℕ) → map (variable_value a) (variables_from first n) ≡ map (variable_value b) (variables_from first n)
    → (k : ℕ) → k < n → variable_value a (first + k) ≡ variable_value b (first + k)
range_same a b first zero e k i = absurd (omega (arith, i))
range_same a b first (suc n) e zero i = let z : first ≡ first + 0 = omega arith in subst (λ x. variable_value a x ≡ variable_value b x) z (ap (λ xs. get_or xs 0 false) e)
range_same a b first (suc n) e (suc k) i =
    let z : suc first + k ≡ first + suc k = omega arith in
    subst (λ x. variable_value a x ≡ variable_value b x) z (range_same a b (suc first) n (ap tail_of e) k (omega (arith, i)))
  where
    tail_of : List Bool → List Bool
    tail_of [] = []
    tail_of (x ∷ xs) = xs

abbrev pub WriteAll : List Bool → Valuation → ℕ → Entries Sort → List Bool → Type 0
WriteAll a v next es us = (j : ℕ) → j < length es → IsMarked us j → Writes (entry_at es j).1 (v (entry_at es j).0) (map (variable_value a) (variables_from (first_at next es us j) (bit_count (entry_at es j).1)))

pub same_inputs : (a b : List Bool) (v : Valuation) (next : ℕ) (es : Entries Sort) (us : List Bool) → length us ≡ length es → WriteAll a v next es us → WriteAll b v next es us
    → (i : ℕ) → next ≤ i → i < end_of next es us → variable_value a i ≡ variable_value b i
same_inputs a b v next [] us n f g i low high = absurd (omega (arith, low, high))
same_inputs a b v next (e ∷ es) [] n f g i low high = absurd (omega (arith, n))
same_inputs a b v next (e ∷ es) (false ∷ us) n f g i low high =
    same_inputs a b v next es us (omega (arith, n)) (λ j k m. f (suc j) (omega (arith, k)) m) (λ j k m. g (suc j) (omega (arith, k)) m) i low high
same_inputs a b v next (e ∷ es) (true ∷ us) n f g i low high = elim (cases_lt i (next + bit_count e.1)) [
  | inl below ↦
      let z : next + (i - next) ≡ i = omega (arith, low) in
      subst (λ x. variable_value a x ≡ variable_value b x) z
      (range_same a b next (bit_count e.1) (written_same e.1 (v e.0) _ _ (f 0 (omega arith) refl) (g 0 (omega arith) refl)) (i - next) (omega (arith, low, below)))
  | inr above ↦ same_inputs a b v (next + bit_count e.1) es us (omega (arith, n)) (λ j k m. f (suc j) (omega (arith, k)) m) (λ j k m. g (suc j) (omega (arith, k)) m) i above high
]

-- one name has one place
pub same_place : (es : Entries Sort) (j k : ℕ) → HasDistinctNames es → j < length es → k < length es → (entry_at es j).0 ≡ (entry_at es k).0 → j ≡ k
same_place [] j k d i h e = absurd (omega (arith, i))
same_place (x ∷ es) zero zero d i h e = refl
same_place (x ∷ es) zero (suc k) d i h e = absurd (false≢true (sym (absent es x.0 k (omega (arith, h)) d.0) ∙ (ap (λ n. same_name n x.0) (sym e) ∙ same_itself x.0)))
same_place (x ∷ es) (suc j) zero d i h e = absurd (false≢true (sym (absent es x.0 j (omega (arith, i)) d.0) ∙ (ap (λ n. same_name n x.0) e ∙ same_itself x.0)))
same_place (x ∷ es) (suc j) (suc k) d i h e = ap suc (same_place es j k d.1 (omega (arith, i)) (omega (arith, h)) e)

-- the names that are used are those with variables
laid_cond : (next : ℕ) (e : Name × Sort) (es : Entries Sort) (u : Bool) (fs : List (Option ℕ)) (end : ℕ) → IsLaidOut (next_after next e.1 u) es fs end
    → IsLaidOut next (e ∷ es) (cond u (Some next) None ∷ fs) end
laid_cond next e es true fs end h = (refl, h)
laid_cond next e es false fs end h = h

pub laid_out : (next : ℕ) (es : Entries Sort) (us : List Bool) → length us ≡ length es → IsLaidOut next es (firsts_of next es us) (end_of next es us)
laid_out next [] us n = refl
laid_out next (e ∷ es) [] n = absurd (omega (arith, n))
laid_out next (e ∷ es) (u ∷ us) n = laid_cond next e es u _ _ (laid_out (next_after next e.1 u) es us (omega (arith, n)))

some_used : (next : ℕ) (u : Bool) → is_some (cond u (Some next) None) ≡ u
some_used next true = refl
some_used next false = refl

pub used_some : (next : ℕ) (es : Entries Sort) (us : List Bool) (j : ℕ) → j < length es → length us ≡ length es → is_some (get_or (firsts_of next es us) j None) ≡ get_or us j false
used_some next [] us j i n = absurd (omega (arith, i))
used_some next (e ∷ es) [] j i n = absurd (omega (arith, n))
used_some next (e ∷ es) (u ∷ us) zero i n = some_used next u
used_some next (e ∷ es) (u ∷ us) (suc j) i n = used_some (next_after next e.1 u) es us j (omega (arith, i)) (omega (arith, n))

-- of any layout
pub laid_count : (next : ℕ) (es : Entries Sort) (fs : List (Option ℕ)) (end : ℕ) → IsLaidOut next es fs end → length fs ≡ length es
laid_count next [] [] end h = refl
laid_count next [] (f ∷ fs) end h = absurd h
laid_count next (e ∷ es) [] end h = absurd h
laid_count next (e ∷ es) (None ∷ fs) end h = ap suc (laid_count next es fs end h)
laid_count next (e ∷ es) (Some f ∷ fs) end h = ap suc (laid_count (next + bit_count e.1) es fs end h.1)

laid_le : (next : ℕ) (es : Entries Sort) (fs : List (Option ℕ)) (end : ℕ) → IsLaidOut next es fs end → next ≤ end
laid_le next [] [] end h = omega (arith, h)
laid_le next [] (f ∷ fs) end h = absurd h
laid_le next (e ∷ es) [] end h = absurd h
laid_le next (e ∷ es) (None ∷ fs) end h = laid_le next es fs end h
laid_le next (e ∷ es) (Some f ∷ fs) end h = omega (arith, laid_le (next + bit_count e.1) es fs end h.1)

pub laid_fits : (next : ℕ) (es : Entries Sort) (fs : List (Option ℕ)) (end bound j : ℕ) → IsLaidOut next es fs end → end < bound → j < length es → FitsBelow bound (get_or fs j None) (entry_at es j).1
laid_fits next [] fs end bound j h b i = absurd (omega (arith, i))
laid_fits next (e ∷ es) [] end bound j h b i = absurd h
laid_fits next (e ∷ es) (None ∷ fs) end bound zero h b i = tt
laid_fits next (e ∷ es) (None ∷ fs) end bound (suc j) h b i = laid_fits next es fs end bound j h b (omega (arith, i))
laid_fits next (e ∷ es) (Some f ∷ fs) end bound zero h b i = omega (arith, h.0, b, laid_le (next + bit_count e.1) es fs end h.1)
laid_fits next (e ∷ es) (Some f ∷ fs) end bound (suc j) h b i = laid_fits (next + bit_count e.1) es fs end bound j h.1 b (omega (arith, i))

pub look : (es : Entries Sort) (fs : List (Option ℕ)) (j : ℕ) → HasDistinctNames es → j < length es → length fs ≡ length es
    → variables_of es fs (entry_at es j).0 ≡ variables_of_sort (entry_at es j).1 (get_or fs j None)
look [] fs j d i n = absurd (omega (arith, i))
look (e ∷ es) [] j d i n = absurd (omega (arith, n))
look (e ∷ es) (f ∷ fs) zero d i n = ap (λ b. cond b (variables_of_sort e.1 f) (variables_of es fs e.0)) (same_itself e.0)
look (e ∷ es) (f ∷ fs) (suc j) d i n =
    ap (λ b. cond b (variables_of_sort e.1 f) (variables_of es fs (entry_at es j).0)) (not_same (entry_at es j).0 e.0 (absent es e.0 j (omega (arith, i)) d.0))
    ∙ look es fs j d.1 (omega (arith, i)) (omega (arith, n))

pub variables_count : (first n : ℕ) → length (variables_from first n) ≡ n
variables_count first zero = refl
variables_count first (suc n) = ap suc (variables_count (suc first) n)
