-- Places that are added part by part, as long as there is room.
use Rattle.std.proofs.Common.{◌≡◌, ℕ, zero, suc, ◌+◌, ◌<◌, ◌≤◌, List, [], ◌∷◌, ◌++◌, append_assoc, append-nil, length, map, refl, sym, ap, ◌∙◌, subst, Option, Some, None, arith}
use Rattle.std.proofs.lemmas.List.{length-append}
use Rattle.v_places.specs.Below.{Spot}
use Rattle.v_places.specs.declared.place.Place.{Place}
use Rattle.v_places.specs.Added.{IsAdded}
use Rattle.v_places.specs.Views.{spot_of, spots_of}

-- These and the rest are the old ones and all, their numbers too, and there was room.
pub record IsAdding (before sum : ℕ) (now old rest all : List Spot) : Type 0 where
  pub whole : now ++ rest ≡ old ++ all
  pub counted : sum + length rest ≡ before + length all
  pub fits : before ≤ 65537 → sum ≤ 65537

pub adding_begun : (before : ℕ) (old all : List Spot) → IsAdding before before old old all all
adding_begun before old all = record { whole = refl; counted = refl; fits = λ h. h }

-- what a call answers
pub adding_on : (before sum more : ℕ) (now new old part rest all whole : List Spot) (o : Option ℕ) → o ≡ Some more → whole ≡ part ++ rest → IsAdding before sum now old whole all → IsAdded sum o new now part
    → IsAdding before more new old rest all
adding_on before sum more now new old part rest all whole o t e h a =
    let added : IsAdded sum (Some more) new now part = subst (λ p. IsAdded sum p new now part) t a in
    let parts : length whole ≡ length part + length rest = ap length e ∙ length-append part rest in
    let counted : sum + length whole ≡ before + length all = h.counted in
    let more_is : more ≡ sum + length part = added.1 in
    record {
      whole = ap (λ xs. xs ++ rest) added.0 ∙ (append_assoc now part rest ∙ (ap (λ xs. now ++ xs) (sym e) ∙ h.whole));
      counted = omega (arith, parts, counted, more_is);
      fits = λ l. added.2 (h.fits l);
    }

pub adding_off : (before sum : ℕ) (now new old part rest all whole : List Spot) (o : Option ℕ) → o ≡ None → whole ≡ part ++ rest → IsAdding before sum now old whole all → IsAdded sum o new now part
    → IsAdded before None new old all
adding_off before sum now new old part rest all whole o t e h a =
    let full : 65537 < sum + length part = subst (λ p. IsAdded sum p new now part) t a in
    let parts : length whole ≡ length part + length rest = ap length e ∙ length-append part rest in
    let counted : sum + length whole ≡ before + length all = h.counted in
    omega (arith, full, parts, counted)

pub adding_ended : (before sum : ℕ) (now old rest all : List Spot) → rest ≡ [] → IsAdding before sum now old rest all → IsAdded before (Some sum) now old all
adding_ended before sum now old rest all e h =
    let counted : sum + length rest ≡ before + length all = h.counted in
    let none : length rest ≡ 0 = ap length e in
    let same : sum ≡ before + length all = omega (arith, counted, none) in
    (sym (append-nil now) ∙ (ap (λ xs. now ++ xs) (sym e) ∙ h.whole), same, h.fits)

pub nothing_added : (count : ℕ) (old part : List Spot) → [] ≡ part → IsAdded count (Some count) old old part
nothing_added count old part e =
    let none : length part ≡ 0 = sym (ap length e) in
    (sym (append-nil old) ∙ ap (λ p. old ++ p) e, omega (arith, none), λ h. h)

-- ---- one place

pub spots_append : (xs ys : List Place) → spots_of (xs ++ ys) ≡ spots_of xs ++ spots_of ys
spots_append [] ys = refl
spots_append (x ∷ xs) ys = ap (λ zs. spot_of x ∷ zs) (spots_append xs ys)

pub spots_length : (xs : List Place) → length (spots_of xs) ≡ length xs
spots_length [] = refl
spots_length (x ∷ xs) = ap suc (spots_length xs)

pub place_added : (old new : List Place) (p : Place) (x : Spot) → new ≡ old ++ p ∷ [] → spot_of p ≡ x → spots_of new ≡ spots_of old ++ x ∷ []
place_added old new p x e f = ap spots_of e ∙ (spots_append old (p ∷ []) ∙ ap (λ y. spots_of old ++ y ∷ []) f)

pub one_added : (count : ℕ) (old new : List Spot) (x : Spot) → new ≡ old ++ x ∷ [] → count ≤ 65536 → IsAdded count (Some (count + 1)) new old (x ∷ [])
one_added count old new x e l = (e, refl, λ h. omega (arith, l))
