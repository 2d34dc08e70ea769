-- Signs of variables in a trail, and membership by the head of a list.
use Rattle.std.proofs.Common.{◌≡◌, ℕ, zero, suc, Bool, true, false, not, List, [], ◌∷◌, ◌⊎◌, inl, inr, ⊎_elim, Some, None, refl, sym, ap, ◌∙◌, arith}
use Rattle.std.specs.List.{Contains}
use Rattle.std.proofs.lemmas.Bool.{cases_eq}
use Rattle.std.proofs.lemmas.Bool.Decides.{nat_tests}
use Rattle.sat_base.specs.declared.literals.Lit.{Lit}
use Rattle.sat_base.specs.Literal.{negation}
use Rattle.sat_solve.specs.declared.trail.Entry.{Entry}
use Rattle.sat_solve.specs.Trail.{sign_at, IsTrueIn, IsFalseIn}

pub Contains-head : {X : Type 0} (xs : List X) (x : X) → Contains (x ∷ xs) x
Contains-head xs x = (0, omega arith, refl)

pub Contains-tail : {X : Type 0} (xs : List X) (y x : X) → Contains xs x → Contains (y ∷ xs) x
Contains-tail xs y x h = (suc h.0, omega (arith, h.1), h.2)

pub Contains-cases : {X : Type 0} (xs : List X) (y x : X) → Contains (y ∷ xs) x → (x ≡ y) ⊎ Contains xs x
Contains-cases xs y x (zero, l, e) = inl (sym e)
Contains-cases xs y x (suc k, l, e) = inr (k, omega (arith, l), e)

pub Contains-none : {X : Type 0} (x : X) → Contains [] x → ⊥
Contains-none x h = absurd (omega (arith, h.1))

pub not-not : (b : Bool) → not (not b) ≡ b
not-not true = refl
not-not false = refl

pub not-differs : (b : Bool) → not b ≡ b → ⊥
not-differs true h = cc
not-differs false h = cc

pub same_lit : (x y : Lit) → x.var ≡ y.var → x.negative ≡ y.negative → x ≡ y
same_lit x y e f = let mk : ℕ → Bool → Lit = λ v b. record { var = v; negative = b } in ap (λ v. mk v x.negative) e ∙ ap (λ b. mk y.var b) f

pub sign_here : (e : Entry) (older : List Entry) (v : ℕ) → e.lit.var ≡ v → sign_at (e ∷ older) v ≡ Some e.lit.negative
sign_here e older v h = grind (arith, nat_tests)

pub sign_other : (e : Entry) (older : List Entry) (v : ℕ) → (e.lit.var ≡ v → ⊥) → sign_at (e ∷ older) v ≡ sign_at older v
sign_other e older v h = grind (arith, nat_tests)

-- a literal is not both true and false
pub true_not_false : (trail : List Entry) (x : Lit) → IsTrueIn trail x → IsFalseIn trail x → ⊥
true_not_false trail x t f = let h : Some (not x.negative) ≡ Some x.negative = sym f ∙ t in not-differs x.negative cc

-- what an older entry says stays where the variable of the newer one had no value
pub sign_kept : (e : Entry) (older : List Entry) (v : ℕ) (b : Bool) → sign_at older e.lit.var ≡ None → sign_at older v ≡ Some b → sign_at (e ∷ older) v ≡ Some b
sign_kept e older v b fresh h = ⊎_elim (λ (same : e.lit.var ≡ v). absurd (let g : sign_at older v ≡ None = ap (λ w. sign_at older w) (sym same) ∙ fresh in let k : Some b ≡ None = sym h ∙ g in cc)) (λ other. sign_other e older v other ∙ h) (cases_eq e.lit.var v)

-- a false literal over the newest entry's variable is the opposite of that entry's
pub is_negation : (e : Entry) (older : List Entry) (x : Lit) → e.lit.var ≡ x.var → IsFalseIn (e ∷ older) x → negation e.lit ≡ x
is_negation e older x same h =
    let k : Some e.lit.negative ≡ Some (not x.negative) = sym (sign_here e older x.var same) ∙ h in
    let n : e.lit.negative ≡ not x.negative = cc in
    same_lit (negation e.lit) x same (ap not n ∙ not-not x.negative)
