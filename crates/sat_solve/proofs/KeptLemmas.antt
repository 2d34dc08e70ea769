-- What the trail keeps, after an entry is taken off; the truth values that its signs say.
use Rattle.std.proofs.Common.{◌≡◌, ℕ, zero, suc, ◌-◌, ◌<◌, Bool, false, not, cond, List, [], ◌∷◌, ◌++◌, length, reverse, get_or, set, ⊎_elim, Option, Some, None, refl, sym, ap, ◌∙◌, subst, arith}
use Rattle.std.specs.List.{slice_get}
use Rattle.std.specs.Option.{is_none}
use Rattle.std.proofs.lemmas.Bool.{cases_eq, cases_lt}
use Rattle.std.proofs.lemmas.List.{reverse-append, get_or-set_same, get_or-set_other, get_or_past, get_or-reverse, length-reverse, length-set}
use Rattle.std.proofs.lemmas.Option.{slice_get-get_or}
use Rattle.std.proofs.lemmas.List.Sums.{sum_by-set}
use Rattle.sat_solve.specs.declared.trail.Entry.{Entry}
use Rattle.sat_solve.specs.Trail.{sign_at}
use Rattle.sat_solve.specs.Kept.{IsKept, HasFreshVariables}
use Rattle.sat_solve.proofs.Signs.{sign_here, sign_other, sign_kept}

-- the truth value that a sign says, false where there is none
abbrev pub is_positive : Option Bool → Bool
is_positive None = false
is_positive (Some b) = not b

-- a variable with a sign is within the signs
pub known : (entries : List Entry) (signs : List (Option Bool)) → IsKept entries signs → (v : ℕ) (b : Bool) → sign_at entries v ≡ Some b → v < length signs
known entries signs kept v b h = ⊎_elim (λ l. l) (λ past. absurd (let e : None ≡ Some b = sym (get_or_past signs v None past) ∙ kept.same v ∙ h in cc)) (cases_lt v (length signs))

-- behind a `pop` of the items, the newest entry is gone
pub reverse-popped : (xs ys : List Entry) (e : Entry) → xs ≡ ys ++ e ∷ [] → reverse xs ≡ e ∷ reverse ys
reverse-popped xs ys e h = ap reverse h ∙ reverse-append ys (e ∷ [])

pub IsKept-popped : (e : Entry) (older : List Entry) (signs : List (Option Bool)) → IsKept (e ∷ older) signs → IsKept older (set signs e.lit.var None)
IsKept-popped e older signs kept =
    let within : e.lit.var < length signs = known (e ∷ older) signs kept e.lit.var e.lit.negative (sign_here e older e.lit.var refl) in
    let had : get_or signs e.lit.var None ≡ Some e.lit.negative = kept.same e.lit.var ∙ sign_here e older e.lit.var refl in
    record {
      same = λ v. ⊎_elim
          (λ (is : v ≡ e.lit.var). rw is (get_or-set_same signs e.lit.var None None within ∙ sym kept.fresh.0))
          (λ other. get_or-set_other signs e.lit.var v None None other ∙ kept.same v ∙ sign_other e older v (λ same. other (sym same)))
          (cases_eq v e.lit.var);
      fresh = kept.fresh.1;
      counted =
          let s = sum_by-set (λ (o : Option Bool). cond (is_none o) 1 0) signs e.lit.var None None within in
          let z : ◌≡◌ {A = ℕ} (cond (is_none (get_or signs e.lit.var None)) 1 0) 0 = rw had refl in
          omega (arith, s, z, kept.counted, length-set signs e.lit.var None);
    }

pub IsKept-pushed : (e : Entry) (older : List Entry) (signs : List (Option Bool)) → sign_at older e.lit.var ≡ None → e.lit.var < length signs → IsKept older signs → IsKept (e ∷ older) (set signs e.lit.var (Some e.lit.negative))
IsKept-pushed e older signs fresh within kept =
    let had : get_or signs e.lit.var None ≡ None = kept.same e.lit.var ∙ fresh in
    record {
      same = λ v. ⊎_elim
          (λ (is : v ≡ e.lit.var). rw is (get_or-set_same signs e.lit.var (Some e.lit.negative) None within ∙ sym (sign_here e older e.lit.var refl)))
          (λ other. get_or-set_other signs e.lit.var v (Some e.lit.negative) None other ∙ kept.same v ∙ sym (sign_other e older v (λ same. other (sym same))))
          (cases_eq v e.lit.var);
      fresh = (fresh, kept.fresh);
      counted =
          let s = sum_by-set (λ (o : Option Bool). cond (is_none o) 1 0) signs e.lit.var (Some e.lit.negative) None within in
          let z : ◌≡◌ {A = ℕ} (cond (is_none (get_or signs e.lit.var None)) 1 0) 1 = rw had refl in
          omega (arith, s, z, kept.counted, length-set signs e.lit.var (Some e.lit.negative));
    }

-- each entry's literal is true
pub entry_true : (trail : List Entry) (k : ℕ) (e : Entry) → HasFreshVariables trail → slice_get trail k ≡ Some e → sign_at trail e.lit.var ≡ Some e.lit.negative
entry_true [] k e s at = cc
entry_true (d ∷ older) zero e s at =
    let same : d ≡ e = cc in
    subst (λ (y : Entry). sign_at (d ∷ older) y.lit.var ≡ Some y.lit.negative) same (sign_here d older d.lit.var refl)
entry_true (d ∷ older) (suc k) e s at = sign_kept d older e.lit.var e.lit.negative s.0 (entry_true older k e s.1 at)

-- each entry's variable is within the signs
pub entry_known : (trail : List Entry) (signs : List (Option Bool)) (k : ℕ) (e : Entry) → IsKept trail signs → slice_get trail k ≡ Some e → e.lit.var < length signs
entry_known trail signs k e kept at = known trail signs kept e.lit.var e.lit.negative (entry_true trail k e kept.fresh at)

-- the entry at a place from the end is at that place of the reversed list
pub entry_from_end : (xs : List Entry) (k : ℕ) (e : Entry) → k < length (reverse xs) → e ≡ get_or xs (length xs - 1 - k) e → slice_get (reverse xs) k ≡ Some e
entry_from_end xs k e l is = slice_get-get_or (reverse xs) k e l ∙ ap Some (get_or-reverse xs k e (omega (arith, l, length-reverse xs)) ∙ sym is)
