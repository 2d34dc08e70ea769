-- A trail by its places: what stands from a place on, and what has a value there.
use Rattle.std.proofs.Common.{◌≡◌, ℕ, zero, suc, ◌+◌, ◌-◌, ◌<◌, ◌≤◌, Bool, false, List, [], ◌∷◌, length, drop, get_or, ⊎_elim, Option, Some, None, MatchOption, refl, sym, ap, ◌∙◌, subst, arith}
use Rattle.std.specs.List.{slice_get}
use Rattle.std.proofs.lemmas.List.{drop_more, drop-drop, drop_all}
use Rattle.std.proofs.lemmas.Option.{get_or_from_slice_get, slice_get_within, slice_get-get_or}
use Rattle.std.proofs.lemmas.Bool.{cases_lt}
use Rattle.sat_base.specs.declared.literals.Lit.{Lit}
use Rattle.sat_base.specs.Literal.{negation}
use Rattle.sat_solve.specs.declared.trail.Entry.{Entry}
use Rattle.sat_solve.specs.Trail.{sign_at, IsFalseIn, IsClosed, IsReason, IsStep, IsSound}
use Rattle.sat_solve.specs.Decisions.{IsDecisionAt}
use Rattle.sat_solve.proofs.Signs.{not-not, sign_here, sign_other, sign_kept}

pub IsSound-drop : (clauses : List (List Lit)) (trail : List Entry) (k : ℕ) → IsSound clauses trail → IsSound clauses (drop k trail)
IsSound-drop clauses trail zero s = s
IsSound-drop clauses [] (suc k) s = s
IsSound-drop clauses (e ∷ older) (suc k) s = IsSound-drop clauses older k s.1

-- the trail from a place on
pub drop-entry : (trail : List Entry) (k : ℕ) (e : Entry) → slice_get trail k ≡ Some e → drop k trail ≡ e ∷ drop (k + 1) trail
drop-entry trail k e at = drop_more trail k e (slice_get_within trail k e at) ∙ ap (λ y. y ∷ drop (k + 1) trail) (get_or_from_slice_get trail k e e at)

pub step_at : (clauses : List (List Lit)) (trail : List Entry) (k : ℕ) (e : Entry) → IsSound clauses trail → slice_get trail k ≡ Some e → IsStep clauses (drop (k + 1) trail) e
step_at clauses trail k e s at = (subst (λ t. IsSound clauses t) (drop-entry trail k e at) (IsSound-drop clauses trail k s)).0

-- the reason of a propagated entry
pub reason_at : (clauses : List (List Lit)) (trail : List Entry) (k : ℕ) (e : Entry) (r : ℕ) → IsSound clauses trail → slice_get trail k ≡ Some e → e.reason ≡ Some r → IsReason clauses (drop (k + 1) trail) e.lit r
reason_at clauses trail k e r s at is = subst (λ o. MatchOption o (IsClosed clauses (drop (k + 1) trail)) (IsReason clauses (drop (k + 1) trail) e.lit)) is (step_at clauses trail k e s at).cause

-- the number of a reason is that of a clause
pub reason_within : (clauses : List (List Lit)) (trail : List Entry) (k : ℕ) (e : Entry) (r : ℕ) → IsSound clauses trail → slice_get trail k ≡ Some e → e.reason ≡ Some r → r < length clauses
reason_within clauses trail k e r s at is = let reason = reason_at clauses trail k e r s at is in slice_get_within clauses r reason.0 reason.1

-- below a decision propagation had ended
pub closed_at : (clauses : List (List Lit)) (trail : List Entry) (k : ℕ) → IsSound clauses trail → IsDecisionAt trail k → IsClosed clauses (drop (k + 1) trail)
closed_at clauses trail k s d = subst (λ o. MatchOption o (IsClosed clauses (drop (k + 1) trail)) (IsReason clauses (drop (k + 1) trail) d.0.lit)) d.2 (step_at clauses trail k d.0 s d.1).cause

-- what an older part says, the trail says
pub sign_older : (clauses : List (List Lit)) (trail : List Entry) (k v : ℕ) (b : Bool) → IsSound clauses trail → sign_at (drop k trail) v ≡ Some b → sign_at trail v ≡ Some b
sign_older clauses trail zero v b s h = h
sign_older clauses [] (suc k) v b s h = h
sign_older clauses (e ∷ older) (suc k) v b s h = sign_kept e older v b s.0.fresh (sign_older clauses older k v b s.1 h)

pub drop_from : (trail : List Entry) (j k : ℕ) → j ≤ k → drop (k - j) (drop j trail) ≡ drop k trail
drop_from trail j k h = let n : j + (k - j) ≡ k = omega arith in drop-drop (k - j) j trail ∙ ap (λ m. drop m trail) n

pub sign_from : (clauses : List (List Lit)) (trail : List Entry) (j k v : ℕ) (b : Bool) → IsSound clauses trail → j ≤ k → sign_at (drop k trail) v ≡ Some b → sign_at (drop j trail) v ≡ Some b
sign_from clauses trail j k v b s le h = sign_older clauses (drop j trail) (k - j) v b (IsSound-drop clauses trail j s) (ap (λ t. sign_at t v) (drop_from trail j k le) ∙ h)

none_by : (o p : Option Bool) → ((b : Bool) → o ≡ Some b → p ≡ Some b) → p ≡ None → o ≡ None
none_by None p h n = refl
none_by (Some b) p h n = let k : Some b ≡ None = sym (h b refl) ∙ n in cc

pub none_from : (clauses : List (List Lit)) (trail : List Entry) (j k v : ℕ) → IsSound clauses trail → j ≤ k → sign_at (drop j trail) v ≡ None → sign_at (drop k trail) v ≡ None
none_from clauses trail j k v s le h = none_by (sign_at (drop k trail) v) (sign_at (drop j trail) v) (λ b f. sign_from clauses trail j k v b s le f) h

-- the opposite of an entry is false from its place on, and up to it
pub negation_false : (clauses : List (List Lit)) (trail : List Entry) (j k : ℕ) (e : Entry) → IsSound clauses trail → j ≤ k → slice_get trail k ≡ Some e → IsFalseIn (drop j trail) (negation e.lit)
negation_false clauses trail j k e s le at =
    let here : sign_at (drop k trail) e.lit.var ≡ Some e.lit.negative = ap (λ t. sign_at t e.lit.var) (drop-entry trail k e at) ∙ sign_here e (drop (k + 1) trail) e.lit.var refl in
    sign_from clauses trail j k e.lit.var e.lit.negative s le here ∙ ap Some (sym (not-not e.lit.negative))

pub slice_get-drop : (trail : List Entry) (j k : ℕ) → slice_get (drop j trail) k ≡ slice_get trail (j + k)
slice_get-drop trail zero k = let n : k ≡ 0 + k = omega arith in ap (λ m. slice_get trail m) n
slice_get-drop [] (suc j) k = refl
slice_get-drop (e ∷ older) (suc j) k = let n : suc (j + k) ≡ suc j + k = omega arith in slice_get-drop older j k ∙ ap (λ m. slice_get (e ∷ older) m) n

-- a sign that a part of the trail gives, but a smaller part doesn't, is that of an entry between
pub sign_between : (clauses : List (List Lit)) (trail : List Entry) (j n v : ℕ) (b : Bool) → IsSound clauses trail → sign_at (drop j trail) v ≡ Some b → ((k : ℕ) (e : Entry) → j ≤ k → k < j + n → slice_get trail k ≡ Some e → ¬ (e.lit.var ≡ v)) → sign_at (drop (j + n) trail) v ≡ Some b
sign_between clauses trail j zero v b s h apart = let m : j ≡ j + 0 = omega arith in subst (λ k. sign_at (drop k trail) v ≡ Some b) m h
sign_between clauses trail j (suc n) v b s h apart =
    let here : sign_at (drop (j + n) trail) v ≡ Some b = sign_between clauses trail j n v b s h (λ k e low high at. apart k e low (omega (arith, high)) at) in
    let m : (j + n) + 1 ≡ j + suc n = omega arith in
    subst (λ k. sign_at (drop k trail) v ≡ Some b) m (sign_next clauses trail (j + n) v b s here (λ e at. apart (j + n) e (omega arith) (omega arith) at))
  where
    sign_next : (clauses : List (List Lit)) (trail : List Entry) (k v : ℕ) (b : Bool) → IsSound clauses trail → sign_at (drop k trail) v ≡ Some b → ((e : Entry) → slice_get trail k ≡ Some e → ¬ (e.lit.var ≡ v)) → sign_at (drop (k + 1) trail) v ≡ Some b
    sign_next clauses trail k v b s h apart = ⊎_elim
        (λ (within : k < length trail).
        let e = get_or trail k record { lit = record { var = 0; negative = false }; reason = None } in
        let at : slice_get trail k ≡ Some e = slice_get-get_or trail k _ within in
        sym (sign_other e (drop (k + 1) trail) v (apart e at)) ∙ ap (λ t. sign_at t v) (sym (drop-entry trail k e at)) ∙ h)
        (λ (past : length trail ≤ k). absurd (let n : None ≡ Some b = ap (λ t. sign_at t v) (sym (drop_all k trail past)) ∙ h in cc))
        (cases_lt k (length trail))
