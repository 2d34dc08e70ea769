-- Lines of a report that are `failed`.
use Rattle.std.proofs.Common.{◌≡◌, ℕ, zero, suc, ◌<◌, Bool, true, false, List, [], ◌∷◌, refl, subst, arith}
use Rattle.std.proofs.lemmas.Bool.Decides.{nat_tests}
use Rattle.std.specs.Prelude.{cond, nat_lt, Contains}
use Rattle.refinement.specs.Map.{Setting}
use Rattle.refinement.specs.Obligation.{Obligation}
use Rattle.reports.specs.Report.{Trace, Verdict, proved, failed, unknown, IsVerdict, AreVerdicts, count_failed, count_unknown, all_proved, some_unknown, some_failed, ending_of}

-- an obligation of the list of which this is said
pub record IsSaidOf (s : Setting) (budget : ℕ) (os : List Obligation) (v : Verdict) : Type 0 where
  pub obligation : Obligation
  pub listed : Contains os obligation
  pub verdict : IsVerdict s budget obligation v

pub said_of : (s : Setting) (budget : ℕ) (os : List Obligation) (vs : List Verdict) (v : Verdict) → AreVerdicts s budget os vs → Contains vs v
    → IsSaidOf s budget os v
said_of s budget [] [] v are (k, less, at) = absurd (let none : ⊥ = omega (arith, less) in none)
said_of s budget (o ∷ os) (u ∷ us) v are (zero, less, at) =
    record { obligation = o; listed = (0, omega arith, refl); verdict = subst (IsVerdict s budget o) at are.0 }
said_of s budget (o ∷ os) (u ∷ us) v are (suc k, less, at) =
    let h = said_of s budget os us v are.1 (k, omega (arith, less), at) in
    record { obligation = h.obligation; listed = (suc h.listed.0, omega (arith, h.listed.1), h.listed.2); verdict = h.verdict }
said_of s budget [] (u ∷ us) v are at = absurd are
said_of s budget (o ∷ os) [] v are at = absurd are

-- ---- where a line is `failed`

pub record HasFailed (vs : List Verdict) : Type 0 where
  pub trace : Trace
  pub line : Contains vs (failed trace)

later : (v : Verdict) (vs : List Verdict) → HasFailed vs → HasFailed (v ∷ vs)
later v vs h = record { trace = h.trace; line = (suc h.line.0, omega (arith, h.line.1), h.line.2) }

found : (vs : List Verdict) → 0 < count_failed vs → HasFailed vs
found [] less = absurd (let none : ⊥ = omega (arith, less) in none)
found (proved ∷ vs) less = later proved vs (found vs less)
found (failed t ∷ vs) less = record { trace = t; line = (0, omega arith, refl) }
found (unknown x ∷ vs) less = later (unknown x) vs (found vs less)

-- the tests of an ending
ended_failed : (b c : Bool) → some_failed ≡ cond b some_failed (cond c some_unknown all_proved) → b ≡ true
ended_failed true c e = refl
ended_failed false true e = absurd (let none : ⊥ = cc in none)
ended_failed false false e = absurd (let none : ⊥ = cc in none)

some_less : (n : ℕ) → nat_lt 0 n ≡ true → 0 < n
some_less n h = grind (arith, nat_tests, h)

pub has_failed : (vs : List Verdict) → some_failed ≡ ending_of vs → HasFailed vs
has_failed vs e =
    let h : nat_lt 0 (count_failed vs) ≡ true = ended_failed (nat_lt 0 (count_failed vs)) (nat_lt 0 (count_unknown vs)) e in
    found vs (some_less (count_failed vs) h)
