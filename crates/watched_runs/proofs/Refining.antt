-- A run that refines the model disagrees with it nowhere.
use Rattle.std.proofs.Common.{◌≡◌, ℕ, zero, suc, ◌+◌, ◌<◌, ◌≤◌, arith, subst, sym, refl}
use Rattle.std.specs.Prelude.{IsTrue, is_some}
use Rattle.refinement.specs.Map.{Setting}
use Rattle.refinement.specs.Run.{Run}
use Rattle.refinement.specs.Refinement.{state_at, CommitsAt, Refines}
use Rattle.watched_runs.specs.Disagreements.{initial_value, no_step, past_bound, other_state, IsOtherInitial, IsPastBound, IsOtherState}
use Rattle.watched_runs.specs.Laws.{StatesAreNamed, RefiningRunsDoNotDisagree}

same_initial : (s : Setting) (run : Run) (cycles t k : ℕ) → StatesAreNamed s.model → Refines s run cycles → IsOtherInitial s run cycles t k → ⊥
same_initial s run cycles t k named refines x =
    x.differs
    (subst (λ (u : ℕ). state_at s run u x.state.state_name ≡ x.value) (sym x.at_reset)
    (refines.initial (subst (λ (u : ℕ). u ≤ cycles) x.at_reset x.within) x.state.state_name x.state x.value (named k x.state x.is_state) x.stated))

-- The first commit of a command comes within its bound.
soon : (s : Setting) (run : Run) (cycles t j : ℕ) → Refines s run cycles → (x : IsPastBound s run cycles t j) → (u : ℕ) → x.begun ≤ u → u < cycles
    → CommitsAt s run j u → ((v : ℕ) → x.begun ≤ v → v < u → ¬ CommitsAt s run j v) → u ≤ t
soon s run cycles t j refines x u from within commits first = omega (arith, in_bound, x.is_last)
  where
    in_bound : u < x.begun + x.entry.bound
    in_bound =
        refines.ended x.ended x.begun j u x.q x.entry x.is_state x.starts x.is_command x.is_entry
        (record { from = from; commits = commits; first = first }) within

-- There is no commit of a command that is past its bound: the first one would be too late.
no_commit : (s : Setting) (run : Run) (cycles t j : ℕ) → Refines s run cycles → (x : IsPastBound s run cycles t j)
    → (n u : ℕ) → u < n → x.begun ≤ u → u < cycles → ¬ CommitsAt s run j u
no_commit s run cycles t j refines x zero u below from within commits = absurd (omega (arith, below))
no_commit s run cycles t j refines x (suc n) u below from within commits =
    x.not_ended u from (soon s run cycles t j refines x u from within commits
    (λ v from_v below_v. no_commit s run cycles t j refines x n v (omega (arith, below, below_v)) from_v (omega (arith, within, below_v))))
    commits

within_bound : (s : Setting) (run : Run) (cycles t j : ℕ) → Refines s run cycles → IsPastBound s run cycles t j → ⊥
within_bound s run cycles t j refines x = absurd (omega (arith, past_run, x.is_last, x.within))
  where
    begun_within : x.begun < cycles
    begun_within = omega (arith, x.from, x.within)

    past_run : cycles < x.begun + x.entry.bound
    past_run =
        refines.open_command x.ended x.begun j x.q x.entry x.is_state begun_within x.starts x.is_command x.is_entry
        (λ u from below. no_commit s run cycles t j refines x (suc u) u (omega arith) from below)

same_state : (s : Setting) (run : Run) (cycles t k : ℕ) → StatesAreNamed s.model → Refines s run cycles → IsOtherState s run cycles t k → ⊥
same_state s run cycles t k named refines x =
    x.differs
    (refines.state x.ended t x.q x.is_model_state x.within x.state.state_name
    (subst (λ d. IsTrue (is_some d)) (sym (named k x.state x.is_state)) refl))

pub no_disagreement : RefiningRunsDoNotDisagree
no_disagreement s run cycles t (initial_value k) named refines x = same_initial s run cycles t k named refines x
no_disagreement s run cycles t no_step named refines x = x.none (refines.command x.ended t x.q x.is_state x.within x.starts)
no_disagreement s run cycles t (past_bound j) named refines x = within_bound s run cycles t j refines x
no_disagreement s run cycles t (other_state k) named refines x = same_state s run cycles t k named refines x
