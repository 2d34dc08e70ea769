-- Files of which none is too long.
use Rattle.std.proofs.Common.{◌≡◌, ◌≤◌, ◌^◌, ℕ, suc, Bool, true, false, List, [], ◌∷◌, length, Option, Some, None, refl, sym, arith}
use Rattle.std.proofs.lemmas.Bool.Decides.{nat_tests}
use Rattle.std.specs.Prelude.{cond, IsTrue}
use Rattle.wb_top.specs.Words.{Verb}
use Rattle.wb_top.specs.Files.{most_bytes, has_fitting_length, first_long}
use Rattle.wb_top.specs.Outcome.{Told, IsAnswer, IsWithin}
use Rattle.wb_top.specs.declared.status.Status.TheVariants.{Failed, Limit}

none_some : {A : Type 0} (x : A) → None ≡ Some x → ⊥
none_some x e = cc

failed_limit : Failed ≡ Limit → ⊥
failed_limit e = cc

-- what holds of a file that is not the first too long one, and of those after it
record Fit (b : Bool) (rest : Option ℕ) : Type 0 where
  this : b ≡ true
  others : rest ≡ None

fit : (b : Bool) (rest : Option ℕ) (k : ℕ) → cond b rest (Some k) ≡ None → Fit b rest
fit true rest k e = record { this = refl; others = e }
fit false rest k e = absurd (none_some k (sym e))

put_in : (b : Bool) (rest : Option ℕ) (k : ℕ) → b ≡ true → rest ≡ None → cond b rest (Some k) ≡ None
put_in true rest k e none = none
put_in false rest k e none = absurd (let no_truth : ⊥ = cc in no_truth)

-- by whatever number they begin
renumbered : (j k : ℕ) (files : List (List ℕ)) → first_long j files ≡ None → first_long k files ≡ None
renumbered j k [] e = refl
renumbered j k (f ∷ fs) e =
    let h = fit (has_fitting_length f) (first_long (suc j) fs) j e in
    put_in (has_fitting_length f) (first_long (suc k) fs) k h.this (renumbered (suc j) (suc k) fs h.others)

-- with one more file that is short
pub with_trace : (m p x : List ℕ) (ds : List (List ℕ)) → first_long 0 (m ∷ p ∷ ds) ≡ None → IsTrue (has_fitting_length x)
    → first_long 0 (m ∷ p ∷ x ∷ ds) ≡ None
with_trace m p x ds e short =
    let h = fit (has_fitting_length m) (first_long 1 (p ∷ ds)) 0 e in
    let g = fit (has_fitting_length p) (first_long 2 ds) 1 h.others in
    put_in (has_fitting_length m) (first_long 1 (p ∷ x ∷ ds)) 0 h.this
    (put_in (has_fitting_length p) (first_long 2 (x ∷ ds)) 1 g.this (put_in (has_fitting_length x) (first_long 3 ds) 2 short (renumbered 2 3 ds g.others)))

at_most : (p : List ℕ) → has_fitting_length p ≡ true → length p ≤ most_bytes
unfolding has_fitting_length
at_most p h = grind (arith, nat_tests, h)

pub map_is_short : (m p : List ℕ) (ds : List (List ℕ)) → first_long 0 (m ∷ p ∷ ds) ≡ None → length p ≤ 2 ^ 64
map_is_short m p ds e =
    let h = fit (has_fitting_length m) (first_long 1 (p ∷ ds)) 0 e in
    let g = fit (has_fitting_length p) (first_long 2 ds) 1 h.others in
    let less : length p ≤ most_bytes = at_most p g.this in
    omega (arith, less)

-- a command that ends with Failed has no file that is too long
none_long : (o : Option ℕ) (verb : Verb) (contents : List (List ℕ)) (told : Told) → IsWithin o verb contents Failed told → o ≡ None
none_long None verb contents told h = refl
none_long (Some k) verb contents told h = absurd (failed_limit h.0)

pub files_fit : (verb : Verb) (contents : List (List ℕ)) (told : Told) → IsAnswer verb contents Failed told → first_long 0 contents ≡ None
files_fit verb contents told h = none_long (first_long 0 contents) verb contents told h
