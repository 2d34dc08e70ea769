-- What values hold after a number was written to a place of them.
use Rattle.std.proofs.Common.{◌≡◌, ℕ, suc, ◌+◌, ◌<◌, Bool, true, false, cond, List, [], ◌∷◌, ◌++◌, length, refl, ap, sym, subst, ◌∙◌, Option, Some, None, arith, slice_index_or, slice_set}
use Rattle.std.proofs.lemmas.Slice.Eq.{bytes_eq-Decides}
use Rattle.wb_values.specs.Value as pure
use Rattle.wb_values.specs.Value.{Name, number, same_name, entry_of, value_or_zero, with_value}
use Rattle.verilog_meaning.specs.Expression.{Scope, Object, Bits}
use Rattle.verilog_meaning.specs.Statement as meaning
use Rattle.verilog_meaning.specs.Statement.{written_cell, written_place}
use Rattle.v_value.specs.Narrow.{FitsObject, HasFittingValues}
use Rattle.v_value.specs.declared.scope.Entry.{Entry}
use Rattle.v_value.specs.declared.scope.Value.{Value}
use Rattle.v_value.specs.Scope.{values_of, value_of_entry, valuation_at}
use Rattle.v_statement.specs.Places.{index_from}

same_is : (m n : Name) → same_name m n ≡ true → m ≡ n
same_is m n h = (bytes_eq-Decides m n).0 h

is_same : (m n : Name) → m ≡ n → same_name m n ≡ true
is_same m n h = (bytes_eq-Decides m n).1 h

cond_twice : {A : Type 0} (b : Bool) (x y z : A) → cond b x (cond b y z) ≡ cond b x z
cond_twice true x y z = refl
cond_twice false x y z = refl

cond_swap : {A : Type 0} (b c : Bool) (x y z : A) → (b ≡ true → c ≡ true → ⊥) → cond b x (cond c y z) ≡ cond c y (cond b x z)
cond_swap true true x y z h = absurd (h refl refl)
cond_swap true false x y z h = refl
cond_swap false c x y z h = refl

-- an entry under another name does not have this one too
apart : (e n m : Name) → same_name e n ≡ false → same_name e m ≡ true → same_name n m ≡ true → ⊥
apart e n m h p q =
    let t : same_name e n ≡ true = is_same e n (same_is e m p ∙ sym (same_is n m q)) in
    let f : true ≡ false = sym t ∙ h in
    cc f

-- what is so of the entry at an index where a name is found
pub record IsFound (es : List Entry) (n : Name) (i : ℕ) : Type 0 where
  pub within : i < length es
  pub was : (r : Entry) → r ≡ slice_index_or es i r → entry_of (values_of es) n ≡ Some (value_of_entry r.value)
  pub becomes : (r : Entry) → r ≡ slice_index_or es i r → (x : Value) (m : Name)
      → entry_of (values_of (slice_set es i (record { name = r.name; value = x }))) m ≡ cond (same_name n m) (Some (value_of_entry x)) (entry_of (values_of es) m)

found_here : (e : Entry) (es : List Entry) (n : Name) → same_name e.name.now n ≡ true → IsFound (e ∷ es) n 0
found_here e es n h = record {
  within = omega arith;
  was = λ r is. ap (λ b. cond b (Some (value_of_entry e.value)) (entry_of (values_of es) n)) h ∙ ap (λ (t : Entry). Some (value_of_entry t.value)) (sym is);
  becomes = λ r is x m.
      ap (λ (t : Entry). cond (same_name t.name.now m) (Some (value_of_entry x)) (entry_of (values_of es) m)) is
      ∙ ap (λ k. cond (same_name k m) (Some (value_of_entry x)) (entry_of (values_of es) m)) (same_is e.name.now n h)
      ∙ sym (cond_twice (same_name n m) (Some (value_of_entry x)) (Some (value_of_entry e.value)) (entry_of (values_of es) m))
      ∙ ap (λ k. cond (same_name n m) (Some (value_of_entry x)) (cond (same_name k m) (Some (value_of_entry e.value)) (entry_of (values_of es) m))) (sym (same_is e.name.now n h));
}

found_later : (e : Entry) (es : List Entry) (n : Name) (i : ℕ) → same_name e.name.now n ≡ false → IsFound es n i → IsFound (e ∷ es) n (suc i)
found_later e es n i h f = record {
  within = omega (arith, f.within);
  was = λ r is. ap (λ b. cond b (Some (value_of_entry e.value)) (entry_of (values_of es) n)) h ∙ f.was r is;
  becomes = λ r is x m.
      ap (λ t. cond (same_name e.name.now m) (Some (value_of_entry e.value)) t) (f.becomes r is x m)
      ∙ cond_swap (same_name e.name.now m) (same_name n m) (Some (value_of_entry e.value)) (Some (value_of_entry x)) (entry_of (values_of es) m) (apart e.name.now n m h);
}

found_step : (k j : ℕ) (e : Entry) (es : List Entry) (n : Name) (b : Bool) → (Some j ≡ index_from (k + 1) es n → (i : ℕ) × (j ≡ k + 1 + i) × IsFound es n i)
    → same_name e.name.now n ≡ b → Some j ≡ cond b (Some k) (index_from (k + 1) es n) → (i : ℕ) × (j ≡ k + i) × IsFound (e ∷ es) n i
found_step k j e es n true rest is g = let same : j ≡ k = cc g in (0, omega arith, found_here e es n is)
found_step k j e es n false rest is g = let f = rest g in (suc f.0, omega (arith, f.1), found_later e es n f.0 is f.2)

found-from : (k j : ℕ) (es : List Entry) (n : Name) → Some j ≡ index_from k es n → (i : ℕ) × (j ≡ k + i) × IsFound es n i
found-from k j [] n h = cc h
found-from k j (e ∷ es) n h = found_step k j e es n (same_name e.name.now n) (found-from (k + 1) j es n) refl h

pub found : (j : ℕ) (es : List Entry) (n : Name) → Some j ≡ index_from 0 es n → IsFound es n j
found j es n h =
    let f = found-from 0 j es n h in
    let same : f.0 ≡ j = omega (arith, f.1) in
    subst (IsFound es n) same f.2

-- a name that is not found, and the entries with one more at their end
pub record IsAbsent (es : List Entry) (n : Name) (x : Entry) : Type 0 where
  pub was : entry_of (values_of es) n ≡ None
  pub becomes : (m : Name) → entry_of (values_of (es ++ x ∷ [])) m ≡ cond (same_name n m) (Some (value_of_entry x.value)) (entry_of (values_of es) m)

absent_step : (k : ℕ) (e : Entry) (es : List Entry) (n : Name) (x : Entry) (b : Bool) → (None ≡ index_from (k + 1) es n → IsAbsent es n x)
    → same_name e.name.now n ≡ b → None ≡ cond b (Some k) (index_from (k + 1) es n) → IsAbsent (e ∷ es) n x
absent_step k e es n x true rest q g = cc g
absent_step k e es n x false rest q g =
    let f = rest g in
    record {
      was = ap (λ b. cond b (Some (value_of_entry e.value)) (entry_of (values_of es) n)) q ∙ f.was;
      becomes = λ m.
          ap (λ t. cond (same_name e.name.now m) (Some (value_of_entry e.value)) t) (f.becomes m)
          ∙ cond_swap (same_name e.name.now m) (same_name n m) (Some (value_of_entry e.value)) (Some (value_of_entry x.value)) (entry_of (values_of es) m) (apart e.name.now n m q);
    }

pub absent : (k : ℕ) (es : List Entry) (n : Name) (x : Entry) → x.name.now ≡ n → None ≡ index_from k es n → IsAbsent es n x
absent k [] n x is h = record { was = refl; becomes = λ m. ap (λ t. cond (same_name t m) (Some (value_of_entry x.value)) None) is }
absent k (e ∷ es) n x is h = absent_step k e es n x (same_name e.name.now n) (absent (k + 1) es n x is) refl h

or_zero : (b : Bool) (x : pure.Value) (o : Option pure.Value) → value_or_zero (cond b (Some x) o) ≡ cond b x (value_or_zero o)
or_zero true x o = refl
or_zero false x o = refl

-- the valuation of entries that differ at one name
pub valuation_with : (new old : List Entry) (n : Name) (x : pure.Value)
    → ((m : Name) → entry_of (values_of new) m ≡ cond (same_name n m) (Some x) (entry_of (values_of old) m))
    → valuation_at new ≡ with_value (valuation_at old) n x
valuation_with new old n x h = λ i m. (ap value_or_zero (h m) ∙ or_zero (same_name n m) x (entry_of (values_of old) m)) i

-- one place written, where the name has an entry
pub written_found : (s : Scope) (es : List Entry) (n : Name) (i : ℕ) (r : Entry) (x : Value) (c : meaning.Cell) (b : Bits) (y : ℕ) (o : Object)
    → IsFound es n i → r ≡ slice_index_or es i r → o ≡ s n → value_of_entry x ≡ written_cell o (value_of_entry r.value) c b y
    → valuation_at (slice_set es i (record { name = r.name; value = x })) ≡ written_place s (valuation_at es) (record { of_name = n; cell = c; bits = b }) y
written_found s es n i r x c b y o f is object value =
    let was : valuation_at es n ≡ value_of_entry r.value = ap value_or_zero (f.was r is) in
    valuation_with (slice_set es i (record { name = r.name; value = x })) es n (value_of_entry x) (f.becomes r is x)
    ∙ ap (λ v. with_value (valuation_at es) n v)
    (value ∙ ap (λ v. written_cell o v c b y) (sym was) ∙ ap (λ t. written_cell t (valuation_at es n) c b y) object)

-- where it has none
pub written_absent : (s : Scope) (es : List Entry) (n : Name) (x : Entry) (c : meaning.Cell) (b : Bits) (y : ℕ) (o : Object)
    → IsAbsent es n x → o ≡ s n → value_of_entry x.value ≡ written_cell o (number 0) c b y
    → valuation_at (es ++ x ∷ []) ≡ written_place s (valuation_at es) (record { of_name = n; cell = c; bits = b }) y
written_absent s es n x c b y o f object value =
    let was : valuation_at es n ≡ number 0 = ap value_or_zero f.was in
    valuation_with (es ++ x ∷ []) es n (value_of_entry x.value) f.becomes
    ∙ ap (λ v. with_value (valuation_at es) n v)
    (value ∙ ap (λ v. written_cell o v c b y) (sym was) ∙ ap (λ t. written_cell t (valuation_at es n) c b y) object)

-- the value at an entry fits
pub entry_fits : (s : Scope) (es : List Entry) (n : Name) (i : ℕ) (r : Entry) (o : Object)
    → IsFound es n i → r ≡ slice_index_or es i r → o ≡ s n → HasFittingValues s (valuation_at es) → FitsObject o (value_of_entry r.value)
entry_fits s es n i r o f is object fits =
    let was : valuation_at es n ≡ value_of_entry r.value = ap value_or_zero (f.was r is) in
    subst (λ v. FitsObject o v) was (subst (λ t. FitsObject t (valuation_at es n)) (sym object) (fits n))
