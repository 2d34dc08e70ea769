-- The hypotheses of a command, one more cycle at a time.
use Rattle.std.proofs.Common.{◌≡◌, ℕ, zero, suc, ◌+◌, ◌-◌, ◌≤◌, List, [], ◌∷◌, ◌++◌, sym, ap, ◌∙◌, append_assoc, arith}
use Rattle.refinement.specs.Map.{Map}
use Rattle.refinement.specs.Obligation.{Fact, commit, no_commit, started_by, running_at, running, not_ended, ended_at}
use Rattle.obligation_lists.proofs.Growing.{for_each_more}

-- a cycle of a command without commit
abbrev pub open_cycle : Map → ℕ → ℕ → List Fact
open_cycle p j t = running_at p t ++ no_commit j t ∷ []

-- one cycle more
pub not_ended_more : (p : Map) (j t : ℕ) → 1 ≤ t → not_ended p j t ++ open_cycle p j t ≡ not_ended p j (t + 1)
not_ended_more p j t some =
    let now : t ≡ 1 + (t - 1) = omega arith in
    let next : suc (t - 1) ≡ t + 1 - 1 = omega arith in
    append_assoc (started_by p j) (no_commit j 0 ∷ running p j 1 (t - 1)) (open_cycle p j t)
    ∙ ap (λ k. started_by p j ++ no_commit j 0 ∷ (running p j 1 (t - 1) ++ open_cycle p j k)) now
    ∙ ap (λ fs. started_by p j ++ no_commit j 0 ∷ fs) (sym (for_each_more (open_cycle p j) 1 (t - 1)))
    ∙ ap (λ k. started_by p j ++ no_commit j 0 ∷ running p j 1 k) next

-- The same number of cycles after the first.
pub not_ended_same : (p : Map) (j t n : ℕ) → t - 1 ≡ n - 1 → not_ended p j t ≡ not_ended p j n
not_ended_same p j t n e = ap (λ k. started_by p j ++ no_commit j 0 ∷ running p j 1 k) e

-- a commit after the first cycle
pub ended_later : (p : Map) (j c : ℕ) → 1 ≤ c → (not_ended p j c ++ running_at p c) ++ commit j c ∷ [] ≡ ended_at p j c
ended_later p j zero some = absurd (omega (arith, some))
ended_later p j (suc n) some =
    let before : suc n - 1 ≡ n = omega arith in
    ap (λ k. ((started_by p j ++ no_commit j 0 ∷ running p j 1 k) ++ running_at p (suc n)) ++ commit j (suc n) ∷ []) before
    ∙ ap (λ fs. fs ++ commit j (suc n) ∷ []) (append_assoc (started_by p j) (no_commit j 0 ∷ running p j 1 n) (running_at p (suc n)))
    ∙ append_assoc (started_by p j) (no_commit j 0 ∷ (running p j 1 n ++ running_at p (suc n))) (commit j (suc n) ∷ [])
