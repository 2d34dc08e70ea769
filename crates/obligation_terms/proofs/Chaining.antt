-- A command that runs on, cycle by cycle.
use Rattle.std.proofs.Common.{◌≡◌, ℕ, zero, suc, ◌+◌, ◌<◌, ◌≤◌, List, [], ◌∷◌, ◌++◌, length, refl, sym, ap, ◌∙◌, subst, arith, append_assoc, inl, inr}
use Rattle.std.specs.Prelude.{◌↔◌, ◌&&◌, Result, Ok, Err, IfOk}
use Rattle.std.proofs.lemmas.Bool.{cases_lt}
use Rattle.wb_values.specs.Value.{Valuation}
use Rattle.model_meaning.specs.Model.{Model}
use Rattle.refinement.specs.Map.{Map}
use Rattle.refinement.specs.Obligation.{Fact, reset_inactive, assumed, commit, no_commit, no_start, for_each, premises_at, started_by, running_at, running, ended_at}
use Rattle.wb_terms.specs.declared.nodes.TermId.{TermId}
use Rattle.wb_terms.specs.Graph.{Graph}
use Rattle.term_copies.specs.Copies.{IsExtended}
use Rattle.mapped_designs.specs.Mapped.{Mapped}
use Rattle.mapped_designs.specs.Broken.{HasCountsOf}
use Rattle.mapped_designs.specs.Runs.{Values, Shows, ShowsAll}
use Rattle.condition_terms.specs.Told.{Tells, IsJoined, is_true}
use Rattle.condition_terms.proofs.Forming.{Tells-same, told_both}
use Rattle.fact_terms.specs.Shown.{run_of}
use Rattle.obligation_terms.specs.Open.{open_at}
use Rattle.obligation_terms.proofs.Holding.{with_reset, same_counts}
use Rattle.obligation_terms.proofs.Resting.{one_further}

-- ---- lists of facts

last_of_each : {A : Type 0} (f : ℕ → List A) (k n : ℕ) → for_each f k (suc n) ≡ for_each f k n ++ f (k + n)
last_of_each f k zero = (let e : k + 0 ≡ k = omega arith in no_more (f k) ∙ ap f (sym e))
  where
    no_more : {B : Type 0} (xs : List B) → xs ++ [] ≡ xs
    no_more [] = refl
    no_more (x ∷ xs) = ap (λ ys. x ∷ ys) (no_more xs)
last_of_each f k (suc n) =
    let e : suc k + n ≡ k + suc n = omega arith in
    ap (λ xs. f k ++ xs) (last_of_each f (suc k) n ∙ ap (λ j. for_each f (suc k) n ++ f j) e) ∙ sym (append_assoc (f k) (for_each f (suc k) n) (f (k + suc n)))

open_is : (p : Map) (j c : ℕ) → open_at p j (suc c) ≡ started_by p j ++ no_commit j 0 ∷ (running p j 1 c ++ running_at p (suc c))
open_is p j zero = refl
open_is p j (suc c) =
    let more : List Fact = no_commit j (suc c) ∷ running_at p (suc (suc c)) in
    let here : List Fact = running_at p (suc c) in
    let e : 1 + c ≡ suc c = omega arith in
    let f : ℕ → List Fact = λ u. running_at p u ++ no_commit j u ∷ [] in
    let longer : running p j 1 (suc c) ≡ running p j 1 c ++ (here ++ no_commit j (suc c) ∷ []) = last_of_each f 1 c ∙ ap (λ k. running p j 1 c ++ f k) e in
    ap (λ xs. xs ++ more) (open_is p j c)
    ∙ (append_assoc (started_by p j) (no_commit j 0 ∷ (running p j 1 c ++ here)) more
    ∙ ap (λ xs. started_by p j ++ no_commit j 0 ∷ xs)
    (append_assoc (running p j 1 c) here more
    ∙ (ap (λ xs. running p j 1 c ++ xs) (sym (append_assoc here (no_commit j (suc c) ∷ []) (running_at p (suc (suc c)))))
    ∙ (sym (append_assoc (running p j 1 c) (here ++ no_commit j (suc c) ∷ []) (running_at p (suc (suc c))))
    ∙ ap (λ xs. xs ++ running_at p (suc (suc c))) (sym longer)))))

pub ended_is : (p : Map) (j c : ℕ) → ended_at p j c ≡ open_at p j c ++ commit j c ∷ []
ended_is p j zero = refl
ended_is p j (suc c) =
    let last : List Fact = commit j (suc c) ∷ [] in
    sym (ap (λ xs. xs ++ last) (open_is p j c) ∙ append_assoc (started_by p j) (no_commit j 0 ∷ (running p j 1 c ++ running_at p (suc c))) last)

-- ---- what values show

pub shows_both : (m : Model) (e : Mapped) (x : Values) (xs ys : List Fact) → (ShowsAll m e x xs × ShowsAll m e x ys) ↔ ShowsAll m e x (xs ++ ys)
shows_both m e x [] ys = (λ p. p.1, λ q. (tt, q))
shows_both m e x (f ∷ xs) ys =
    let r = shows_both m e x xs ys in
    (λ p. (p.0.0, r.0 (p.0.1, p.1)), λ q. (let s = r.1 q.1 in ((q.0, s.0), s.1)))

-- the facts of a command before its commit at a cycle, and that commit
pub ended_where : (m : Model) (e : Mapped) (x : Values) (p : Map) (j c : ℕ) → (ShowsAll m e x (open_at p j c) × Shows m e x (commit j c)) ↔ ShowsAll m e x (ended_at p j c)
ended_where m e x p j c =
    let r = shows_both m e x (open_at p j c) (commit j c ∷ []) in (
      λ q. subst (ShowsAll m e x) (sym (ended_is p j c)) (r.0 (q.0, (q.1, tt))),
      λ a. (let s = r.1 (subst (ShowsAll m e x) (ended_is p j c) a) in (s.0, s.1.0)),
    )

-- one cycle more without commit
pub open_where : (m : Model) (e : Mapped) (x : Values) (p : Map) (j c : ℕ)
    → ((ShowsAll m e x (open_at p j c) × Shows m e x (no_commit j c)) × ShowsAll m e x (running_at p (suc c))) ↔ ShowsAll m e x (open_at p j (suc c))
open_where m e x p j c =
    let r = shows_both m e x (open_at p j c) (no_commit j c ∷ running_at p (suc c)) in
    (λ q. r.0 (q.0.0, (q.0.1, q.1)), λ a. (let s = r.1 a in ((s.0, s.1.0), s.1.1)))

-- assumptions at a cycle, by their places
assumed_from : (m : Model) (e : Mapped) (x : Values) (t k n : ℕ) → ((i : ℕ) → k ≤ i → i < k + n → Shows m e x (assumed i t)) ↔ ShowsAll m e x (for_each (λ i. assumed i t ∷ []) k n)
assumed_from m e x t k zero = (λ h. tt, λ a i l b. absurd (omega (arith, l, b)))
assumed_from m e x t k (suc n) =
    let r = assumed_from m e x t (suc k) n in (
      λ h. (h k (omega arith) (omega arith), r.0 (λ i l b. h i (omega (arith, l)) (omega (arith, b)))),
      λ a i l b. elim (cases_lt k i) as (λ _. Shows m e x (assumed i t)) [
        | inl less ↦ r.1 a.1 i (omega (arith, less)) (omega (arith, b))
        | inr not_less ↦ (let same : k ≡ i = omega (arith, l, not_less) in subst (λ z. Shows m e x (assumed z t)) same a.0)
      ],
    )

pub running_where : (m : Model) (e : Mapped) (x : Values) (p : Map) (t n : ℕ) → length p.assume ≡ n
    → ((Shows m e x (reset_inactive t) × ((i : ℕ) → i < n → Shows m e x (assumed i t))) × Shows m e x (no_start t)) ↔ ShowsAll m e x (running_at p t)
running_where m e x p t n c =
    let r = assumed_from m e x t 0 (length p.assume) in
    let s = shows_both m e x (premises_at p t) (no_start t ∷ []) in (
      λ q. s.0 ((q.0.0, r.0 (λ i l b. q.0.1 i (omega (arith, b, c)))), (q.1, tt)),
      λ a. (let z = s.1 a in ((z.0.0, λ i b. r.1 z.0.1 i (omega arith) (omega (arith, b, c))), z.1.0)),
    )

-- ---- conditions of a cycle

pub with_none : {g : Graph} (id : ℕ) (A : Valuation → Type 0) (P : ℕ → Valuation → Type 0) → Tells g id A → Tells g id (λ v. A v × ((i : ℕ) → i < 0 → P i v))
with_none id A P w = Tells-same id A (λ v. A v × ((i : ℕ) → i < 0 → P i v)) (λ v f. (λ a. (a, λ i b. absurd (omega (arith, b))), λ p. p.0)) w

pub with_more : {g h : Graph} (id all here n : ℕ) (A : Valuation → Type 0) (P : ℕ → Valuation → Type 0) → IsExtended g h → Tells g all (λ v. A v × ((i : ℕ) → i < n → P i v)) → Tells g here (P n)
    → IsJoined h id (λ v. is_true g all v && is_true g here v) → Tells h id (λ v. A v × ((i : ℕ) → i < n + 1 → P i v))
with_more id all here n A P a w u j =
    let B : Valuation → Type 0 = λ v. A v × ((i : ℕ) → i < n → P i v) in
    Tells-same id (λ v. B v × P n v) (λ v. A v × ((i : ℕ) → i < n + 1 → P i v))
    (λ v f. (let r = one_further (λ i. P i v) n in (λ p. (p.0.0, r.0 (p.0.1, p.1)), λ p. (let q = r.1 p.1 in ((p.0, q.0), q.1)))))
    (told_both id all here B (P n) a w u j)

-- the first cycle of a command
pub started_open : {E : Type 0} (result : Result TermId E) (h : Graph) (m : Model) (e : Mapped) (n j c : ℕ) → c ≡ 0
    → IfOk result (λ r. (p : Map) → HasCountsOf p e → p.reset_cycles ≡ e.reset_cycles → Tells h r.0 (λ v. ShowsAll m e (run_of e n v) (started_by p j)))
    → IfOk result (λ r. (p : Map) → HasCountsOf p e → Tells h r.0 (λ v. ShowsAll m e (run_of e n v) (open_at p j c)))
started_open (Ok id) h m e n j c z w = λ p counts.
    subst (λ k. Tells h id.0 (λ v. ShowsAll m e (run_of e n v) (open_at p j k))) (sym z) (w (with_reset p e.reset_cycles) (same_counts p e e.reset_cycles counts) refl)
started_open (Err error) h m e n j c z w = tt

-- a later cycle of it
pub later_open : {h : Graph} (id : ℕ) (m : Model) (e : Mapped) (n : ℕ) (p : Map) (j k c : ℕ) → c ≡ suc k
    → Tells h id (λ v. (ShowsAll m e (run_of e n v) (open_at p j k) × Shows m e (run_of e n v) (no_commit j k)) × ShowsAll m e (run_of e n v) (running_at p c))
    → Tells h id (λ v. ShowsAll m e (run_of e n v) (open_at p j c))
later_open {h} id m e n p j k c z w =
    let O : Valuation → Type 0 = λ v. ShowsAll m e (run_of e n v) (open_at p j k) × Shows m e (run_of e n v) (no_commit j k) in
    let here : Tells h id (λ v. O v × ShowsAll m e (run_of e n v) (running_at p (suc k))) = subst (λ t. Tells h id (λ v. O v × ShowsAll m e (run_of e n v) (running_at p t))) z w in
    subst (λ t. Tells h id (λ v. ShowsAll m e (run_of e n v) (open_at p j t))) (sym z)
    (Tells-same id (λ v. O v × ShowsAll m e (run_of e n v) (running_at p (suc k))) (λ v. ShowsAll m e (run_of e n v) (open_at p j (suc k))) (λ v f. open_where m e (run_of e n v) p j k) here)

-- its commit at a cycle
pub ended_told : {h : Graph} (id : ℕ) (m : Model) (e : Mapped) (n : ℕ) (p : Map) (j c : ℕ)
    → Tells h id (λ v. ShowsAll m e (run_of e n v) (open_at p j c) × Shows m e (run_of e n v) (commit j c)) → Tells h id (λ v. ShowsAll m e (run_of e n v) (ended_at p j c))
ended_told id m e n p j c w =
    Tells-same id (λ v. ShowsAll m e (run_of e n v) (open_at p j c) × Shows m e (run_of e n v) (commit j c)) (λ v. ShowsAll m e (run_of e n v) (ended_at p j c))
    (λ v f. ended_where m e (run_of e n v) p j c) w
