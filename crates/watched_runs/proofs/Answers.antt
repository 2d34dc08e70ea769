-- A run has at most one answer.
use Rattle.std.proofs.Common.{◌≡◌, ℕ, ◌<◌, ◌≤◌, ◌⊎◌, inl, inr, arith, subst, sym, refl, ap}
use Rattle.refinement.specs.Map.{Setting}
use Rattle.refinement.specs.Run.{Run}
use Rattle.refinement.specs.Refinement.{IsIdle, Refines}
use Rattle.watched_runs.specs.Premises.{Premise, of_reset, of_assumption, of_flight, PremiseFails, ComesBefore, IsFirstFailing, HavePremises, IsPremiseEnd}
use Rattle.watched_runs.specs.Disagreements.{Disagreement, initial_value, no_step, past_bound, other_state, StandsBefore, IsFirstDisagreement}
use Rattle.watched_runs.specs.Watched.{agrees, outside, disagrees, HasEnded, in_reset, at_last, it_disagrees, it_is_outside, it_agrees}
use Rattle.watched_runs.specs.Laws.{RunsHaveOneAnswer}

compared : (m n : ℕ) → (m < n) ⊎ ((n < m) ⊎ (m ≡ n))
compared m n = grind arith

-- ---- orders

premises_compared : (a b : Premise) → ComesBefore a b ⊎ (ComesBefore b a ⊎ (a ≡ b))
premises_compared of_reset of_reset = inr (inr refl)
premises_compared of_reset (of_assumption k) = inl tt
premises_compared of_reset of_flight = inl tt
premises_compared (of_assumption k) of_reset = inr (inl tt)
premises_compared (of_assumption k) (of_assumption l) = elim (compared k l) [
  | inl less ↦ inl less
  | inr rest ↦ elim rest [ inl more ↦ inr (inl more) | inr same ↦ inr (inr (ap of_assumption same)) ]
]
premises_compared (of_assumption k) of_flight = inl tt
premises_compared of_flight of_reset = inr (inl tt)
premises_compared of_flight (of_assumption l) = inr (inl tt)
premises_compared of_flight of_flight = inr (inr refl)

disagreements_compared : (a b : Disagreement) → StandsBefore a b ⊎ (StandsBefore b a ⊎ (a ≡ b))
disagreements_compared (initial_value k) (initial_value l) = elim (compared k l) [
  | inl less ↦ inl less
  | inr rest ↦ elim rest [ inl more ↦ inr (inl more) | inr same ↦ inr (inr (ap initial_value same)) ]
]
disagreements_compared (initial_value k) no_step = inl tt
disagreements_compared (initial_value k) (past_bound l) = inl tt
disagreements_compared (initial_value k) (other_state l) = inl tt
disagreements_compared no_step (initial_value l) = inr (inl tt)
disagreements_compared no_step no_step = inr (inr refl)
disagreements_compared no_step (past_bound l) = inl tt
disagreements_compared no_step (other_state l) = inl tt
disagreements_compared (past_bound k) (initial_value l) = inr (inl tt)
disagreements_compared (past_bound k) no_step = inr (inl tt)
disagreements_compared (past_bound k) (past_bound l) = elim (compared k l) [
  | inl less ↦ inl less
  | inr rest ↦ elim rest [ inl more ↦ inr (inl more) | inr same ↦ inr (inr (ap past_bound same)) ]
]
disagreements_compared (past_bound k) (other_state l) = inl tt
disagreements_compared (other_state k) (initial_value l) = inr (inl tt)
disagreements_compared (other_state k) no_step = inr (inl tt)
disagreements_compared (other_state k) (past_bound l) = inr (inl tt)
disagreements_compared (other_state k) (other_state l) = elim (compared k l) [
  | inl less ↦ inl less
  | inr rest ↦ elim rest [ inl more ↦ inr (inl more) | inr same ↦ inr (inr (ap other_state same)) ]
]

-- ---- what is first is one

one_premise : (s : Setting) (run : Run) (t : ℕ) (a b : Premise) → IsFirstFailing s run t a → IsFirstFailing s run t b → a ≡ b
one_premise s run t a b x y = elim (premises_compared a b) [
  | inl before ↦ absurd (y.first a before x.fails)
  | inr rest ↦ elim rest [ inl after ↦ absurd (x.first b after y.fails) | inr same ↦ same ]
]

-- No premise end comes before another.
not_before : (s : Setting) (run : Run) (cycles p q : ℕ) → IsPremiseEnd s run cycles p → IsPremiseEnd s run cycles q → ¬ (p < q)
not_before s run cycles p q x y less =
    let failing : (which : Premise) × PremiseFails s run p which = x.fails (omega (arith, less, y.within)) in
    y.before p failing.0 less failing.1

one_end : (s : Setting) (run : Run) (cycles p q : ℕ) → IsPremiseEnd s run cycles p → IsPremiseEnd s run cycles q → p ≡ q
one_end s run cycles p q x y = elim (compared p q) [
  | inl less ↦ absurd (not_before s run cycles p q x y less)
  | inr rest ↦ elim rest [ inl more ↦ absurd (not_before s run cycles q p y x more) | inr same ↦ same ]
]

one_cycle : (s : Setting) (run : Run) (cycles t u : ℕ) (a b : Disagreement) → IsFirstDisagreement s run cycles t a → IsFirstDisagreement s run cycles u b → t ≡ u
one_cycle s run cycles t u a b x y = elim (compared t u) [
  | inl less ↦ absurd (y.least t a less x.disagrees)
  | inr rest ↦ elim rest [ inl more ↦ absurd (x.least u b more y.disagrees) | inr same ↦ same ]
]

one_disagreement : (s : Setting) (run : Run) (cycles t : ℕ) (a b : Disagreement) → IsFirstDisagreement s run cycles t a → IsFirstDisagreement s run cycles t b → a ≡ b
one_disagreement s run cycles t a b x y = elim (disagreements_compared a b) [
  | inl before ↦ absurd (y.first a before x.disagrees)
  | inr rest ↦ elim rest [ inl after ↦ absurd (x.first b after y.disagrees) | inr same ↦ same ]
]

-- ---- how many have ended

past_reset : {s : Setting} {run : Run} {cycles n t : ℕ} → IsIdle s run cycles n t → s.map.reset_cycles ≤ cycles
past_reset (IsIdle.after_reset h) = h
past_reset (IsIdle.after_idle h low quiet) = past_reset h
past_reset (IsIdle.after_command j c h starts is end low) = past_reset h

one_count : (s : Setting) (run : Run) (cycles m n : ℕ) → HasEnded s run cycles m → HasEnded s run cycles n → m ≡ n
one_count s run cycles _ _ (in_reset h) (in_reset g) = refl
one_count s run cycles _ _ (in_reset h) (at_last n t idle most) = absurd (omega (arith, h, past_reset idle))
one_count s run cycles _ _ (at_last m t idle most) (in_reset g) = absurd (omega (arith, g, past_reset idle))
one_count s run cycles _ _ (at_last m t idle most) (at_last n u other greatest) = omega (arith, most n u other, greatest m t idle)

-- ---- answers

same_end : (s : Setting) (run : Run) (p q : ℕ) → q ≡ p → Refines s run p → Refines s run q
same_end s run p q same h = subst (λ (x : ℕ). Refines s run x) (sym same) h

whole : (s : Setting) (run : Run) (cycles : ℕ) → HavePremises s run cycles → IsPremiseEnd s run cycles cycles
whole s run cycles h = record { within = omega arith; before = h; fails = λ less. absurd (omega (arith, less)) }

none_disagrees : (s : Setting) (run : Run) (cycles p q : ℕ) → IsPremiseEnd s run cycles p → IsPremiseEnd s run cycles q → Refines s run p
    → ¬ Refines s run q → ⊥
none_disagrees s run cycles p q x y refines not = not (same_end s run p q (one_end s run cycles q p y x) refines)

same_disagreement : (s : Setting) (run : Run) (cycles p q t u : ℕ) (a b : Disagreement) → IsPremiseEnd s run cycles p → IsPremiseEnd s run cycles q
    → IsFirstDisagreement s run p t a → IsFirstDisagreement s run q u b → disagrees t a ≡ disagrees u b
same_disagreement s run cycles p q t u a b x y d e =
    let at_p : IsFirstDisagreement s run p u b = subst (λ (r : ℕ). IsFirstDisagreement s run r u b) (sym (one_end s run cycles p q x y)) e in
    let same : t ≡ u = one_cycle s run p t u a b d at_p in
    let at_t : IsFirstDisagreement s run p t b = subst (λ (r : ℕ). IsFirstDisagreement s run p r b) (sym same) at_p in
    subst (λ (r : ℕ). disagrees t a ≡ disagrees r b) same (ap (disagrees t) (one_disagreement s run p t a b d at_t))

same_outside : (s : Setting) (run : Run) (cycles p q : ℕ) (a b : Premise) → IsPremiseEnd s run cycles p → IsPremiseEnd s run cycles q
    → IsFirstFailing s run p a → IsFirstFailing s run q b → outside p a ≡ outside q b
same_outside s run cycles p q a b x y f g =
    let same : p ≡ q = one_end s run cycles p q x y in
    let at_p : IsFirstFailing s run p b = subst (λ (r : ℕ). IsFirstFailing s run r b) (sym same) g in
    subst (λ (r : ℕ). outside p a ≡ outside r b) same (ap (outside p) (one_premise s run p a b f at_p))

pub one_answer : RunsHaveOneAnswer
one_answer s run cycles _ _ (it_disagrees p t a x not d) (it_disagrees q u b y also e) = same_disagreement s run cycles p q t u a b x y d e
one_answer s run cycles _ _ (it_disagrees p t a x not d) (it_is_outside q b y less refines f) = absurd (none_disagrees s run cycles q p y x refines not)
one_answer s run cycles _ _ (it_disagrees p t a x not d) (it_agrees n h refines e) =
    absurd (none_disagrees s run cycles cycles p (whole s run cycles h) x refines not)
one_answer s run cycles _ _ (it_is_outside q b y less refines f) (it_disagrees p t a x not d) = absurd (none_disagrees s run cycles q p y x refines not)
one_answer s run cycles _ _ (it_is_outside p a x less refines f) (it_is_outside q b y low also g) = same_outside s run cycles p q a b x y f g
one_answer s run cycles _ _ (it_is_outside p a x less refines f) (it_agrees n h also e) = absurd (h p a less f.fails)
one_answer s run cycles _ _ (it_agrees n h refines e) (it_disagrees p t a x not d) =
    absurd (none_disagrees s run cycles cycles p (whole s run cycles h) x refines not)
one_answer s run cycles _ _ (it_agrees n h refines e) (it_is_outside p a x less also f) = absurd (h p a less f.fails)
one_answer s run cycles _ _ (it_agrees m h refines e) (it_agrees n g also f) = ap agrees (one_count s run cycles m n e f)
