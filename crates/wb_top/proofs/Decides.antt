-- What the verdicts of a report say of all obligations together.
use Rattle.std.proofs.Common.{◌≡◌, ◌∙◌, ◌<◌, ℕ, Bool, true, false, true≢false, cond, nat_lt, List, [], ◌∷◌, arith, refl, subst, sym}
use Rattle.std.proofs.lemmas.Bool.{lt-ltb}
use Rattle.std.proofs.lemmas.Bool.Decides.{nat_tests}
use Rattle.refinement.specs.Map.{Setting}
use Rattle.refinement.specs.Obligation.{Obligation, obligations}
use Rattle.reports.specs.Encoding.{Spent}
use Rattle.reports.specs.Report.{IsReport, Verdict, proved, failed, unknown, AreVerdicts, count_failed, count_unknown, Ending, all_proved, some_unknown, some_failed}
use Rattle.refinement.specs.Soundness.{AllHold}

each_proved : (s : Setting) (budget : ℕ) (os : List Obligation) (vs : List Verdict) → AreVerdicts s budget os vs → ¬ (0 < count_failed vs)
    → ¬ (0 < count_unknown vs) → AllHold s os
each_proved s budget [] [] are none known = tt
each_proved s budget [] (v ∷ vs) are none known = absurd are
each_proved s budget (o ∷ os) [] are none known = absurd are
each_proved s budget (o ∷ os) (proved ∷ vs) are none known = (are.0, each_proved s budget os vs are.1 none known)
each_proved s budget (o ∷ os) (failed t ∷ vs) are none known = absurd (none (omega arith))
each_proved s budget (o ∷ os) (unknown x ∷ vs) are none known = absurd (known (omega arith))

not_all : (s : Setting) (budget : ℕ) (os : List Obligation) (vs : List Verdict) → AreVerdicts s budget os vs → 0 < count_failed vs → ¬ AllHold s os
not_all s budget [] [] are some all = absurd (none some)
  where
    none : 0 < 0 → ⊥
    none h = omega (arith, h)
not_all s budget [] (v ∷ vs) are some all = absurd are
not_all s budget (o ∷ os) [] are some all = absurd are
not_all s budget (o ∷ os) (proved ∷ vs) are some all = not_all s budget os vs are.1 some all.1
not_all s budget (o ∷ os) (unknown x ∷ vs) are some all = not_all s budget os vs are.1 some all.1
not_all s budget (o ∷ os) (failed t ∷ vs) are some all =
    are.0.1.fails (all.0 are.0.0 are.0.1.is_run are.0.1.hypotheses)

-- how a report ends says how many lines are failed and unknown
abbrev Counts : Ending → ℕ → ℕ → Type 0
Counts all_proved failures unknowns = (¬ (0 < failures)) × (¬ (0 < unknowns))
Counts some_unknown failures unknowns = ¬ (0 < failures)
Counts some_failed failures unknowns = 0 < failures

counts : (failures unknowns : ℕ) → Counts (cond (nat_lt 0 failures) some_failed (cond (nat_lt 0 unknowns) some_unknown all_proved)) failures unknowns
counts failures unknowns = by_tests (nat_lt 0 failures) refl (nat_lt 0 unknowns) refl
  where
    some : (n : ℕ) → nat_lt 0 n ≡ true → 0 < n
    some n e = grind (arith, nat_tests)

    none : (n : ℕ) → nat_lt 0 n ≡ false → ¬ (0 < n)
    none n e h = let some_more : nat_lt 0 n ≡ true = lt-ltb 0 n h in absurd (true≢false (sym some_more ∙ e))

    by_tests : (a : Bool) → nat_lt 0 failures ≡ a → (b : Bool) → nat_lt 0 unknowns ≡ b
        → Counts (cond a some_failed (cond b some_unknown all_proved)) failures unknowns
    by_tests true e b g = some failures e
    by_tests false e true g = none failures e
    by_tests false e false g = (none failures e, none unknowns g)

pub proved_hold : (s : Setting) (budget : ℕ) (text : List ℕ) (spent : List Spent) → IsReport s budget text all_proved spent
    → AllHold s (obligations s.model s.map)
proved_hold s budget text spent r =
    let c : Counts all_proved (count_failed r.verdicts) (count_unknown r.verdicts) =
    subst (λ e. Counts e (count_failed r.verdicts) (count_unknown r.verdicts)) (sym r.is_ending) (counts (count_failed r.verdicts) (count_unknown r.verdicts)) in
    each_proved s budget (obligations s.model s.map) r.verdicts r.are_verdicts c.0 c.1

pub failed_fails : (s : Setting) (budget : ℕ) (text : List ℕ) (spent : List Spent) → IsReport s budget text some_failed spent
    → ¬ AllHold s (obligations s.model s.map)
failed_fails s budget text spent r =
    let c : Counts some_failed (count_failed r.verdicts) (count_unknown r.verdicts) =
    subst (λ e. Counts e (count_failed r.verdicts) (count_unknown r.verdicts)) (sym r.is_ending) (counts (count_failed r.verdicts) (count_unknown r.verdicts)) in
    not_all s budget (obligations s.model s.map) r.verdicts r.are_verdicts c
