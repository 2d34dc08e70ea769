-- All obligations of a map speak of their own cycles alone.
use Rattle.std.proofs.Common.{◌≡◌, ℕ, zero, suc, ◌+◌, ◌-◌, ◌<◌, ◌≤◌, List, [], ◌∷◌, ◌++◌, length, get_or, slice_get, Some, refl, sym, ap, subst, arith}
use Rattle.std.specs.Prelude.{⊤, codes, decimal}
use Rattle.wb_values.specs.Value.{Name}
use Rattle.model_meaning.specs.Model.{Model, StateDeclaration, Instruction, instruction_name, Child, no_child, child, child_program, states_of, instructions_in}
use Rattle.refinement.specs.Map.{Map}
use Rattle.refinement.specs.Obligation.{Fact, reset_active, assumed, invariant, start, no_start, decoded, commit, no_commit, initial, same, result_of, Obligation, for_each, invariants_at, premises_at, numbered, invariant_obligations, state_obligations, with_initial_values, reset_obligations, idle_obligations, start_hypotheses, decode_obligation, started_by, running_at, running, not_ended, ended_at, child_obligations, bound_obligation, commit_obligations, bound_in, bound_named, instruction_obligations, all_instruction_obligations, obligations}
use Rattle.mapped_runs.specs.Valued.{IsWithin, AreWithin}
use Rattle.mapped_runs.specs.Breaking.{IsWithinCycles, ObligationsAreWithin}

-- ---- facts

both : (c : ℕ) (fs gs : List Fact) → AreWithin c fs → AreWithin c gs → AreWithin c (fs ++ gs)
both c [] gs f g = g
both c (x ∷ fs) gs f g = (f.0, both c fs gs f.1 g)

each : (c : ℕ) (f : ℕ → List Fact) (k n : ℕ) → ((i : ℕ) → k ≤ i → i < k + n → AreWithin c (f i)) → AreWithin c (for_each f k n)
each c f k zero h = tt
each c f k (suc n) h =
    both c (f k) (for_each f (suc k) n) (h k (omega arith) (omega arith)) (each c f (suc k) n (λ i low high. h i (omega (arith, low)) (omega (arith, high))))

module _ (m : Map) where
  invariants_within : (c t : ℕ) → t ≤ c → AreWithin c (invariants_at m t)
  invariants_within c t l = each c (λ k. invariant k t ∷ []) 0 (length m.invariants) (λ i low high. (l, tt))

  premises_within : (c t : ℕ) → t < c → AreWithin c (premises_at m t)
  premises_within c t l = (l, each c (λ k. assumed k t ∷ []) 0 (length m.assume) (λ i low high. (l, tt)))

  before_start : (c : ℕ) (fact : Fact) → 0 < c → IsWithin c fact → AreWithin c (invariants_at m 0 ++ premises_at m 0 ++ fact ∷ [])
  before_start c fact l h =
      both c (invariants_at m 0 ++ premises_at m 0) (fact ∷ [])
      (both c (invariants_at m 0) (premises_at m 0) (invariants_within c 0 (omega (arith, l))) (premises_within c 0 l)) (h, tt)

  started_within : (c j : ℕ) → 0 < c → AreWithin c (started_by m j)
  started_within c j l = both c (start_hypotheses m) (decoded j ∷ []) (before_start c (start 0) l l) (l, tt)

  running_at_within : (c t : ℕ) → t < c → AreWithin c (running_at m t)
  running_at_within c t l = both c (premises_at m t) (no_start t ∷ []) (premises_within c t l) (l, tt)

  running_within : (c j t n : ℕ) → t + n ≤ c → AreWithin c (running m j t n)
  running_within c j t n l =
      each c (λ u. running_at m u ++ no_commit j u ∷ []) t n
      (λ i low high. let k : i < c = omega (arith, high, l) in both c (running_at m i) (no_commit j i ∷ []) (running_at_within c i k) (k, tt))

  not_ended_within : (j n : ℕ) → 1 ≤ n → AreWithin n (not_ended m j n)
  not_ended_within j n l =
      both n (started_by m j) (no_commit j 0 ∷ running m j 1 (n - 1)) (started_within n j (omega (arith, l))) (omega (arith, l), running_within n j 1 (n - 1) (omega (arith, l)))

  pub ended_within : (j c : ℕ) → AreWithin (suc c) (ended_at m j c)
  ended_within j zero = both 1 (started_by m j) (commit j 0 ∷ []) (started_within 1 j (omega arith)) (omega arith, tt)
  ended_within j (suc c) =
      let n : ℕ = suc (suc c) in
      let last : suc c < n = omega arith in
      both n (started_by m j) (no_commit j 0 ∷ (running m j 1 c ++ running_at m (suc c) ++ commit j (suc c) ∷ [])) (started_within n j (omega arith)) (
        omega arith,
        both n (running m j 1 c ++ running_at m (suc c)) (commit j (suc c) ∷ [])
            (both n (running m j 1 c) (running_at m (suc c)) (running_within n j 1 c (omega arith)) (running_at_within n (suc c) last)) (last, tt),
      )

-- ---- obligations

abbrev AllWithin : List Obligation → Type 0
AllWithin [] = ⊤
AllWithin (o ∷ os) = IsWithinCycles o × AllWithin os

all_both : (os ps : List Obligation) → AllWithin os → AllWithin ps → AllWithin (os ++ ps)
all_both [] ps f g = g
all_both (o ∷ os) ps f g = (f.0, all_both os ps f.1 g)

all_each : (f : ℕ → List Obligation) (k n : ℕ) → ((i : ℕ) → k ≤ i → i < k + n → AllWithin (f i)) → AllWithin (for_each f k n)
all_each f k zero h = tt
all_each f k (suc n) h =
    all_both (f k) (for_each f (suc k) n) (h k (omega arith) (omega arith)) (all_each f (suc k) n (λ i low high. h i (omega (arith, low)) (omega (arith, high))))

found : (os : List Obligation) (o : Obligation) (k : ℕ) → AllWithin os → k < length os → get_or os k o ≡ o → IsWithinCycles o
found [] o k h l e = absurd (omega (arith, l))
found (p ∷ os) o zero h l e = subst IsWithinCycles e h.0
found (p ∷ os) o (suc k) h l e = found os o k h.1 (omega (arith, l)) e

module _ (model : Model) (m : Map) where
  of_invariants : (text : Name) (c : ℕ) (hypotheses : List Fact) (t : ℕ) → AreWithin c hypotheses → t ≤ c → AllWithin (invariant_obligations m text c hypotheses t)
  of_invariants text c hypotheses t h l =
      all_each (λ k. record { called = numbered text k; cycles = c; hypotheses = hypotheses; claim = invariant k t } ∷ []) 0 (length m.invariants)
      (λ i low high. (record { hypotheses = h; claim = l }, tt))

  of_states : (text : Name) (c : ℕ) (hypotheses : List Fact) (claim : Name → Fact) (ds : List StateDeclaration) → AreWithin c hypotheses
      → ((n : Name) → IsWithin c (claim n)) → AllWithin (state_obligations text c hypotheses claim ds)
  of_states text c hypotheses claim [] h k = tt
  of_states text c hypotheses claim (d ∷ ds) h k = (record { hypotheses = h; claim = k d.state_name }, of_states text c hypotheses claim ds h k)

  of_reset : AllWithin (reset_obligations model m)
  of_reset =
      let n = m.reset_cycles in
      let active : List Fact = for_each (λ t. reset_active t ∷ []) 0 n in
      let within : AreWithin n active = each n (λ t. reset_active t ∷ []) 0 n (λ i low high. (omega (arith, high), tt)) in
      all_both (invariant_obligations m (codes "reset.inv.") n active n)
      (state_obligations (codes "reset.init.") n active (λ q. initial q n) (with_initial_values (states_of model.top)))
      (of_invariants (codes "reset.inv.") n active n within (omega arith))
      (of_states (codes "reset.init.") n active (λ q. initial q n) (with_initial_values (states_of model.top)) within (λ q. omega arith))

  of_idle : AllWithin (idle_obligations model m)
  of_idle =
      let idle : List Fact = invariants_at m 0 ++ premises_at m 0 ++ no_start 0 ∷ [] in
      let within : AreWithin 1 idle = before_start m 1 (no_start 0) (omega arith) (omega arith) in
      all_both (invariant_obligations m (codes "idle.inv.") 1 idle 1) (state_obligations (codes "idle.state.") 1 idle same (states_of model.top))
      (of_invariants (codes "idle.inv.") 1 idle 1 within (omega arith)) (of_states (codes "idle.state.") 1 idle same (states_of model.top) within (λ q. omega arith))

  of_decode : IsWithinCycles (decode_obligation m)
  of_decode = record { hypotheses = before_start m 1 (start 0) (omega arith) (omega arith); claim = omega arith }

  of_child : (j : ℕ) (n : Name) (c : Child) → AllWithin (child_obligations m j n c)
  of_child j n no_child = tt
  of_child j n (child steps program) = (record { hypotheses = started_within m 1 j (omega arith); claim = omega arith }, tt)

  of_commit : (j : ℕ) (n : Name) (c : ℕ) → AllWithin (commit_obligations model m j n c)
  of_commit j n c =
      let text : Name = codes "commit." ++ n ++ codes "." ++ decimal c in
      all_both (invariant_obligations m (text ++ codes ".inv.") (suc c) (ended_at m j c) (suc c))
      (state_obligations (text ++ codes ".state.") (suc c) (ended_at m j c) (λ q. result_of j q (suc c)) (states_of model.top))
      (of_invariants (text ++ codes ".inv.") (suc c) (ended_at m j c) (suc c) (ended_within m j c) (omega arith))
      (of_states (text ++ codes ".state.") (suc c) (ended_at m j c) (λ q. result_of j q (suc c)) (states_of model.top) (ended_within m j c) (λ q. (omega arith, omega arith)))

  of_instruction : (j : ℕ) (i : Instruction) → 1 ≤ bound_named m (instruction_name i) → AllWithin (instruction_obligations model m j i)
  of_instruction j i l =
      let n = instruction_name i in
      let bound = bound_named m n in
      all_both (child_obligations m j n (child_program i)) (bound_obligation m j n bound ∷ for_each (commit_obligations model m j n) 0 bound) (of_child j n (child_program i)) (
        record { hypotheses = not_ended_within m j bound l; claim = tt },
        all_each (commit_obligations model m j n) 0 bound (λ c low high. of_commit j n c),
      )

  of_instructions : (j : ℕ) (is : List Instruction) → ((k : ℕ) (i : Instruction) → slice_get is k ≡ Some i → 1 ≤ bound_named m (instruction_name i))
      → AllWithin (all_instruction_obligations model m j is)
  of_instructions j [] h = tt
  of_instructions j (i ∷ is) h =
      all_both (instruction_obligations model m j i) (all_instruction_obligations model m (suc j) is) (of_instruction j i (h 0 i refl))
      (of_instructions (suc j) is (λ k o e. h (suc k) o e))

  of_all : ((k : ℕ) (i : Instruction) → slice_get (instructions_in model.top) k ≡ Some i → 1 ≤ bound_named m (instruction_name i)) → AllWithin (obligations model m)
  of_all h =
      all_both (reset_obligations model m ++ idle_obligations model m) (decode_obligation m ∷ all_instruction_obligations model m 0 (instructions_in model.top))
      (all_both (reset_obligations model m) (idle_obligations model m) of_reset of_idle) (of_decode, of_instructions 0 (instructions_in model.top) h)

pub obligations_within : ObligationsAreWithin
obligations_within s o complete c =
    found (obligations s.model s.map) o c.0
    (of_all s.model s.map (λ k i is_k. let e = complete k i is_k in subst (λ b. 1 ≤ b) (sym (ap bound_in e.1)) e.2)) c.1 c.2
