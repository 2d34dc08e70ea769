-- The tests of objects and values decide whether they fit, and what follows for scopes and valuations.
use Rattle.std.proofs.Common.{◌≡◌, ap, ℕ, zero, suc, ◌+◌, ◌≤◌, ◌<◌, ◌^◌, ◌&&◌, Bool, true, false, cond, nat_le, refl, sym, subst, ◌∙◌, arith, List, [], ◌∷◌, length, drop, Option, Some, None, slice_index}
use Rattle.std.specs.Prelude.{IfSome}
use Rattle.std.proofs.Math.Nat.{pow-le-pow_right}
use Rattle.std.proofs.lemmas.Nat.{pow_pos}
use Rattle.std.proofs.lemmas.List.{drop_all}
use Rattle.std.proofs.lemmas.Slice.Eq.{bytes_eq-Decides}
use Rattle.std.proofs.lemmas.Bool.Decides.{Decides-and, Decides-ltb}
use Rattle.std.proofs.lemmas.Bool.{false≢true}
use Rattle.std.specs.Prelude.{◌||◌}
use Rattle.wb_values.specs.Value.{Name, same_name, Valuation, entry_of, value_or_zero}
use Rattle.wb_values.specs.Value as pure
use Rattle.verilog_meaning.specs.Expression as meaning
use Rattle.verilog_meaning.specs.Expression.{object_width, object_or_undeclared, undeclared, scope_of}
use Rattle.v_value.specs.declared.scope.Declaration.{Declaration}
use Rattle.v_value.specs.declared.scope.Entry.{Entry}
use Rattle.v_value.specs.Scope.{object_of, objects_of, value_of_entry, values_of, valuation_at}
use Rattle.v_value.specs.Narrow.{IsNarrowObject, HasNarrowObjects, FitsObject, HasFittingValues}
use Rattle.v_narrow.specs.Fitting.{number_fits, constant_fits, object_test, declared_test, words_fit, value_fits, entries_test}
use Rattle.v_narrow.proofs.Decided.{Decides, at_most, object-decides}

-- An object that is wide enough holds each number of so many bits.
wide-fits : (high : ℕ) (o : meaning.Object) (x l : ℕ) → l + 1 ≡ object_width o → high ≤ l + 1 → x < 2 ^ high → number_fits o x ≡ true
wide-fits high o x l e h k =
    (Decides-ltb x (2 ^ object_width o)).1 (subst (λ w. x < 2 ^ w) e (omega (arith, k, pow-le-pow_right {n = 2} (pow_pos 1) h)))

pub wide_tells : (high : ℕ) (o : meaning.Object) (x l : ℕ) → l + 1 ≡ object_width o → high ≤ l + 1 → x < 2 ^ high → (n : ℕ) → n ≤ l → nat_le n l ≡ number_fits o x
wide_tells high o x l e h k n i = (at_most n l).1 i ∙ sym (wide-fits high o x l e h k)

number-decides : (o : meaning.Object) (x : ℕ) → Decides (number_fits o x) (x < 2 ^ object_width o)
number-decides o x = Decides-ltb x (2 ^ object_width o)

constant-decides : (o : meaning.Object) (c : Option ℕ) → Decides (constant_fits o c) (IfSome c (λ x. x < 2 ^ object_width o))
constant-decides o None = (λ e. tt, λ h. refl)
constant-decides o (Some x) = number-decides o x

object_test-decides : (o : meaning.Object) → Decides (object_test o) (IsNarrowObject o)
object_test-decides o = Decides-and _ _ (object-decides o) (constant-decides o o.constant)

both_true : (a b : Bool) → a && b ≡ true → (a ≡ true) × (b ≡ true)
both_true true b e = (refl, e)
both_true false b e = absurd (false≢true e)

second_true : (a b : Bool) → b ≡ true → a || b ≡ true
second_true true b e = refl
second_true false b e = e

-- one of two tests is true, whichever it is
of_either : {P : Type 0} (a b : Bool) → a || b ≡ true → (a ≡ true → P) → (b ≡ true → P) → P
of_either true b e f g = f refl
of_either false b e f g = g e

undeclared-narrow : IsNarrowObject undeclared
undeclared-narrow = (omega arith, tt)

-- ---- objects

-- where the test of declarations is true, what they give a name fits words
module _ (s : meaning.Scope) (n : Name) where
  abbrev declaration_test : Declaration → Bool
  declaration_test d = object_test (object_of d.object) || object_test (s d.name.now)

  one-narrow : (d : Declaration) (rest : Option meaning.Object) → declaration_test d ≡ true → (s n ≡ object_or_undeclared rest → IsNarrowObject (s n))
      → (b : Bool) → same_name d.name.now n ≡ b → s n ≡ object_or_undeclared (cond b (Some (object_of d.object)) rest) → IsNarrowObject (s n)
  one-narrow d rest h later true is same =
      of_either (object_test (object_of d.object)) (object_test (s d.name.now)) h
      (λ k. subst IsNarrowObject (sym same) ((object_test-decides (object_of d.object)).0 k))
      (λ k. subst (λ m. IsNarrowObject (s m)) ((bytes_eq-Decides d.name.now n).0 is) ((object_test-decides (s d.name.now)).0 k))
  one-narrow d rest h later false is same = later same

  found-narrow : (ds : List Declaration) → declared_test s ds ≡ true → s n ≡ object_or_undeclared (entry_of (objects_of ds) n) → IsNarrowObject (s n)
  found-narrow [] h e = subst IsNarrowObject (sym e) undeclared-narrow
  found-narrow (d ∷ ds) h e =
      let parts = both_true (declaration_test d) (declared_test s ds) h in
      one-narrow d (entry_of (objects_of ds) n) parts.0 (found-narrow ds parts.1) (same_name d.name.now n) refl e

narrow-declared : (s : meaning.Scope) (ds : List Declaration) → HasNarrowObjects s → declared_test s ds ≡ true
narrow-declared s [] h = refl
narrow-declared s (d ∷ ds) h =
    rw (second_true (object_test (object_of d.object)) (object_test (s d.name.now)) ((object_test-decides (s d.name.now)).1 (h d.name.now)))
    (narrow-declared s ds h)

pub declared-decides : (ds : List Declaration) → Decides (declared_test (scope_of (objects_of ds)) ds) (HasNarrowObjects (scope_of (objects_of ds)))
declared-decides ds = (λ h n. found-narrow (scope_of (objects_of ds)) n ds h refl, narrow-declared (scope_of (objects_of ds)) ds)

-- ---- values

both : (o : meaning.Object) (x : ℕ) (xs : List ℕ) → Decides (words_fit o (x ∷ xs)) ((x < 2 ^ object_width o) × (words_fit o xs ≡ true))
both o x xs = Decides-and (number_fits o x) (words_fit o xs) (number-decides o x) (λ e. e, λ e. e)

words-fit : (o : meaning.Object) (xs : List ℕ) → words_fit o xs ≡ true → (k : ℕ) → slice_index xs k < 2 ^ object_width o
words-fit o [] e k = pow_pos (object_width o)
words-fit o (x ∷ xs) e zero = ((both o x xs).0 e).0
words-fit o (x ∷ xs) e (suc k) = words-fit o xs ((both o x xs).0 e).1 k

fit-words : (o : meaning.Object) (xs : List ℕ) → ((k : ℕ) → slice_index xs k < 2 ^ object_width o) → words_fit o xs ≡ true
fit-words o [] h = refl
fit-words o (x ∷ xs) h = (both o x xs).1 (h zero, fit-words o xs (λ k. h (suc k)))

value-decides : (o : meaning.Object) (x : pure.Value) → Decides (value_fits o x) (FitsObject o x)
value-decides o (pure.truth_value b) = (λ e. (pow_pos (object_width o), λ k. pow_pos (object_width o)), λ h. refl)
value-decides o (pure.number n) = (λ e. ((number-decides o n).0 e, λ k. pow_pos (object_width o)), λ h. (number-decides o n).1 h.0)
value-decides o (pure.words xs) = (λ e. (pow_pos (object_width o), words-fit o xs e), λ h. fit-words o xs h.1)

-- a name without a value has 0, which fits
pub nothing-fits : (o : meaning.Object) → value_fits o (pure.number 0) ≡ true
nothing-fits o = (number-decides o 0).1 (pow_pos (object_width o))

-- where no entry of so many is left, a name has 0
pub none-fits : (o : meaning.Object) (es : List Entry) (i : ℕ) (n : Name) → entry_of (values_of es) n ≡ entry_of (values_of (drop i es)) n
    → length es ≤ i → true ≡ value_fits o (valuation_at es n)
none-fits o es i n same h =
    sym (subst (λ (x : Option pure.Value). value_fits o (value_or_zero x) ≡ true)
    (sym (same ∙ ap (λ xs. entry_of (values_of xs) n) (drop_all i es h))) (nothing-fits o))

-- where the test of values is true, what they give a name fits
module _ (s : meaning.Scope) (v : Valuation) (n : Name) where
  abbrev entry_test : Entry → Bool
  entry_test e = value_fits (s e.name.now) (value_of_entry e.value) || value_fits (s e.name.now) (v e.name.now)

  one-fits : (e : Entry) (rest : Option pure.Value) → entry_test e ≡ true → (v n ≡ value_or_zero rest → FitsObject (s n) (v n))
      → (b : Bool) → same_name e.name.now n ≡ b → v n ≡ value_or_zero (cond b (Some (value_of_entry e.value)) rest) → FitsObject (s n) (v n)
  one-fits e rest h later true is same =
      let own : e.name.now ≡ n = (bytes_eq-Decides e.name.now n).0 is in
      (value-decides (s n) (v n)).0
      (of_either (value_fits (s e.name.now) (value_of_entry e.value)) (value_fits (s e.name.now) (v e.name.now)) h
      (λ k. subst (λ x. value_fits (s n) x ≡ true) (sym same) (subst (λ m. value_fits (s m) (value_of_entry e.value) ≡ true) own k))
      (λ k. subst (λ m. value_fits (s m) (v m) ≡ true) own k))
  one-fits e rest h later false is same = later same

  found-fits : (es : List Entry) → entries_test s v es ≡ true → v n ≡ value_or_zero (entry_of (values_of es) n) → FitsObject (s n) (v n)
  found-fits [] h e = (value-decides (s n) (v n)).0 (subst (λ x. value_fits (s n) x ≡ true) (sym e) (nothing-fits (s n)))
  found-fits (e ∷ es) h same =
      let parts = both_true (entry_test e) (entries_test s v es) h in
      one-fits e (entry_of (values_of es) n) parts.0 (found-fits es parts.1) (same_name e.name.now n) refl same

fitting-entries : (s : meaning.Scope) (v : Valuation) (es : List Entry) → HasFittingValues s v → entries_test s v es ≡ true
fitting-entries s v [] h = refl
fitting-entries s v (e ∷ es) h =
    rw
    (second_true (value_fits (s e.name.now) (value_of_entry e.value)) (value_fits (s e.name.now) (v e.name.now))
    ((value-decides (s e.name.now) (v e.name.now)).1 (h e.name.now)))
    (fitting-entries s v es h)

entries-decides : (s : meaning.Scope) (es : List Entry) → Decides (entries_test s (valuation_at es) es) (HasFittingValues s (valuation_at es))
entries-decides s es = (λ h n. found-fits s (valuation_at es) n es h refl, fitting-entries s (valuation_at es) es)

-- ---- what a program's result tells that returned the test

module _ (r : Bool) (ds is : List Declaration) (e : r ≡ declared_test (scope_of (objects_of is)) ds) (j : ds ≡ is) where
  pub declared_if : Decides r (HasNarrowObjects (scope_of (objects_of is)))
  declared_if =
      let same : r ≡ declared_test (scope_of (objects_of is)) is = e ∙ ap (declared_test (scope_of (objects_of is))) j in
      (λ k. (declared-decides is).0 (sym same ∙ k), λ k. same ∙ (declared-decides is).1 k)

module _ (s : meaning.Scope) (r : Bool) (vs es is : List Entry) (e : r ≡ entries_test s (valuation_at vs) es) (i : vs ≡ is) (j : es ≡ is) where
  pub entries_if : Decides r (HasFittingValues s (valuation_at is))
  entries_if =
      let same : r ≡ entries_test s (valuation_at is) is =
      e ∙ ap (λ xs. entries_test s (valuation_at xs) es) i ∙ ap (entries_test s (valuation_at is)) j in
      (λ k. (entries-decides s is).0 (sym same ∙ k), λ k. same ∙ (entries-decides s is).1 k)

-- where the test of what is declared is true, all objects are narrow
pub objects_if : (ds : List Declaration) (r : Bool) → r ≡ declared_test (scope_of (objects_of ds)) ds → r ≡ true → HasNarrowObjects (scope_of (objects_of ds))
objects_if ds r e h = (declared-decides ds).0 (sym e ∙ h)
