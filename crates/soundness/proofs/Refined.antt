-- Where all obligations hold, every run refines: an induction over idle cycles.
use Rattle.std.proofs.Common.{◌≡◌, ◌≢◌, ℕ, zero, suc, ◌+◌, ◌-◌, ◌<◌, ◌≤◌, cond, List, [], ◌∷◌, ◌++◌, length, ◌⊎◌, inl, inr, arith, subst, sym, refl, ap, ◌∙◌, Option, Some, None}
use Rattle.std.specs.Prelude.{IsTrue, is_some, codes, decimal}
use mathlib.Core.Path.{fun_ext}
use Rattle.wb_values.specs.Value.{Name, Valuation, number, entry_of}
use Rattle.model_meaning.specs.Model.{Model, state_named, states_of, Instruction, instruction, instruction_name, no_child, child, child_program, updated, point_of, instructions_in}
use Rattle.model_meaning.specs.Instruction.{IsInstruction, IsStarted, Steps, Does, DoesInstruction, own_states, SameStates}
use Rattle.verilog_trees.specs.Syntax.{Expression}
use Rattle.refinement.specs.Map.{Setting, InstructionMap, mapped_state, mapped_or_zero, sort_of_state}
use Rattle.refinement.specs.Run.{Run, IsRun, HoldsOf, IsFromReset}
use Rattle.refinement.specs.Refinement.{state_at, inputs_at, StartsAt, IsMapEntry, CommitsAt, IsCommandOf, EndsAt, IsIdle, HasOneInFlight, HasState, Refines}
use Rattle.refinement.specs.Obligation.{Fact, invariant, assumed, reset_active, start, no_start, decoded, commit, no_commit, initial, same, result_of, MeansAll, Holds, for_each, invariants_at, premises_at, start_hypotheses, started_by, running_at, running, not_ended, ended_at, invariant_obligations, state_obligations, reset_obligations, idle_obligations, decode_obligation, child_obligations, bound_obligation, commit_obligations, instruction_obligations, all_instruction_obligations, obligations, bound_named, bound_in, with_initial_values}
use Rattle.refinement.specs.Soundness.{AllHold, IsComplete, ObligationsGiveRefinement}
use Rattle.soundness.specs.Invariants.{ObligationsKeepInvariants}
use Rattle.soundness.proofs.FactLists.{AllHold-left, AllHold-right, AllHold-for_each, MeansAll-append, MeansAll-for_each}
use Rattle.soundness.proofs.Shifted.{later, later_sum, later_from, shifted, IsRun-shifted, IsRun-shorter}
use Rattle.model_meaning.proofs.OneInstruction.{step_done, step_by_decoded}
use Rattle.soundness.proofs.Extracted.{invariants_given, states_given, initial_given, instruction_given}

-- Mapped states that agree on the model's states are one: every other name is 0.
mapped_same : (s : Setting) (v u : Valuation)
    → SameStates s.model (mapped_state s v) (mapped_state s u) → mapped_state s v ≡ mapped_state s u
mapped_same s v u alike =
    fun_ext (λ n.
    (elim (state_named (states_of s.model.top) n) as
    (λ d. (IsTrue (is_some d) → mapped_or_zero s v (sort_of_state d) (entry_of s.map.states n) ≡ mapped_or_zero s u (sort_of_state d) (entry_of s.map.states n))
    → mapped_or_zero s v (sort_of_state d) (entry_of s.map.states n) ≡ mapped_or_zero s u (sort_of_state d) (entry_of s.map.states n)) [
      | Some d ↦ λ known. known refl
      | None ↦ λ known. unnamed s v u (entry_of s.map.states n)
    ]) (alike n))
  where
    unnamed : (s' : Setting) (v' u' : Valuation) (e : Option Expression) → mapped_or_zero s' v' None e ≡ mapped_or_zero s' u' None e
    unnamed s' v' u' None = refl
    unnamed s' v' u' (Some e) = refl

-- A state of the model that agrees with a mapped state is it.
state_same : (s : Setting) (v p : Valuation) → SameStates s.model (mapped_state s v) (own_states s.model p) → own_states s.model p ≡ mapped_state s v
state_same s v p alike =
    fun_ext (λ n.
    (elim (state_named (states_of s.model.top) n) as
    (λ d. (IsTrue (is_some d) → mapped_or_zero s v (sort_of_state d) (entry_of s.map.states n) ≡ cond (is_some d) (p n) (number 0))
    → cond (is_some d) (p n) (number 0) ≡ mapped_or_zero s v (sort_of_state d) (entry_of s.map.states n)) [
      | Some d ↦ λ known. sym (known refl)
      | None ↦ λ known. unnamed s v (entry_of s.map.states n)
    ]) (alike n))
  where
    unnamed : (s' : Setting) (v' : Valuation) (e : Option Expression) → number 0 ≡ mapped_or_zero s' v' None e
    unnamed s' v' None = refl
    unnamed s' v' (Some e) = refl

-- only one instruction is that of a command
one_command : (m : Model) (q w : Valuation) (j k : ℕ) → IsStarted m q w j → IsStarted m q w k → j ≡ k
one_command m q w j k a b =
    let cases : (j ≡ k) ⊎ (k ≢ j) = grind arith in
    elim cases [
      | inl e ↦ e
      | inr n ↦ absurd (a.alone.no_other k b.alone.i b.alone.is_j n b.alone.decoded)
    ]

-- without a child an instruction always leads somewhere
done_without_child : (i : Instruction) (p : Valuation) → child_program i ≡ no_child → (q : Valuation) × DoesInstruction i p q
done_without_child (instruction called decode update no_child) p e = (updated update p, refl)
done_without_child (instruction called decode update (child steps program)) p e = cc

module _ (s : Setting) (complete : IsComplete s) (all : AllHold s (obligations s.model s.map)) where
  resets : AllHold s (reset_obligations s.model s.map)
  resets = AllHold-left s (reset_obligations s.model s.map) (idle_obligations s.model s.map)
      (AllHold-left s (reset_obligations s.model s.map ++ idle_obligations s.model s.map)
      (decode_obligation s.map ∷ all_instruction_obligations s.model s.map 0 (instructions_in s.model.top)) all)

  idles : AllHold s (idle_obligations s.model s.map)
  idles = AllHold-right s (reset_obligations s.model s.map) (idle_obligations s.model s.map)
      (AllHold-left s (reset_obligations s.model s.map ++ idle_obligations s.model s.map)
      (decode_obligation s.map ∷ all_instruction_obligations s.model s.map 0 (instructions_in s.model.top)) all)

  behind : AllHold s (decode_obligation s.map ∷ all_instruction_obligations s.model s.map 0 (instructions_in s.model.top))
  behind = AllHold-right s (reset_obligations s.model s.map ++ idle_obligations s.model s.map)
      (decode_obligation s.map ∷ all_instruction_obligations s.model s.map 0 (instructions_in s.model.top)) all

  of_instruction : (j : ℕ) (i : Instruction) → IsInstruction s.model j i → AllHold s (instruction_obligations s.model s.map j i)
  of_instruction j i e = instruction_given s (instructions_in s.model.top) behind.1 j i e

  bound_holds : (j : ℕ) (i : Instruction) → IsInstruction s.model j i
      → AllHold s (bound_obligation s.map j (instruction_name i) (bound_named s.map (instruction_name i))
      ∷ for_each (commit_obligations s.model s.map j (instruction_name i)) 0 (bound_named s.map (instruction_name i)))
  bound_holds j i e =
      AllHold-right s (child_obligations s.map j (instruction_name i) (child_program i))
      (bound_obligation s.map j (instruction_name i) (bound_named s.map (instruction_name i))
      ∷ for_each (commit_obligations s.model s.map j (instruction_name i)) 0 (bound_named s.map (instruction_name i)))
      (of_instruction j i e)

  child_holds : (j : ℕ) (i : Instruction) → IsInstruction s.model j i
      → AllHold s (child_obligations s.map j (instruction_name i) (child_program i))
  child_holds j i e =
      AllHold-left s (child_obligations s.map j (instruction_name i) (child_program i))
      (bound_obligation s.map j (instruction_name i) (bound_named s.map (instruction_name i))
      ∷ for_each (commit_obligations s.model s.map j (instruction_name i)) 0 (bound_named s.map (instruction_name i)))
      (of_instruction j i e)

  commit_holds : (j : ℕ) (i : Instruction) → IsInstruction s.model j i → (c : ℕ) → c < bound_named s.map (instruction_name i)
      → AllHold s (commit_obligations s.model s.map j (instruction_name i) c)
  commit_holds j i e c low =
      AllHold-for_each s (commit_obligations s.model s.map j (instruction_name i)) 0 (bound_named s.map (instruction_name i))
      (bound_holds j i e).1 c (omega arith) (omega arith)

  bound_positive : (j : ℕ) (i : Instruction) → IsInstruction s.model j i → 1 ≤ bound_named s.map (instruction_name i)
  bound_positive j i e =
      let entry = complete j i e in
      subst (λ o. 1 ≤ bound_in o) (sym entry.1) entry.2

module _ (s : Setting) (complete : IsComplete s) (all : AllHold s (obligations s.model s.map))
    (run : Run) (n : ℕ) (r : IsRun s run n) (reset : IsFromReset s run n) (flight : HasOneInFlight s run n) where
  past_reset : {k t : ℕ} {q : Valuation} → HasState s run n k q t → s.map.reset_cycles ≤ t
  past_reset (HasState.after_reset h) = omega arith
  past_reset (HasState.after_idle h low quiet) = omega (arith, past_reset h)
  past_reset (HasState.after_command j c x h starts is_j end low does) = omega (arith, past_reset h, end.from)

  within : {k t : ℕ} {q : Valuation} → HasState s run n k q t → t ≤ n
  within (HasState.after_reset h) = h
  within (HasState.after_idle h low quiet) = low
  within (HasState.after_command j c x h starts is_j end low does) = low

  is_idle : {k t : ℕ} {q : Valuation} → HasState s run n k q t → IsIdle s run n k t
  is_idle (HasState.after_reset h) = IsIdle.after_reset h
  is_idle (HasState.after_idle h low quiet) = IsIdle.after_idle (is_idle h) low quiet
  is_idle (HasState.after_command j c x h starts is_j end low does) = IsIdle.after_command j c (is_idle h) starts is_j end low

  -- the premises at a cycle of the run behind the reset
  premises : (t u : ℕ) → s.map.reset_cycles ≤ later t u → later t u < n → MeansAll s (shifted t run) (premises_at s.map u)
  premises t u past low = (
    reset.inactive (later t u) past low,
    MeansAll-for_each s (shifted t run) (λ k. assumed k u ∷ []) 0 (length s.map.assume)
        (λ k from to. (reset.assumed (later t u) k past low, tt)),
  )

  given_invariants : (t : ℕ) → ((k : ℕ) → HoldsOf s run s.map.invariants k t) → MeansAll s (shifted t run) (invariants_at s.map 0)
  given_invariants t inv =
      MeansAll-for_each s (shifted t run) (λ k. invariant k 0 ∷ []) 0 (length s.map.invariants) (λ k from to. (inv k, tt))

  given_start : (t : ℕ) → ((k : ℕ) → HoldsOf s run s.map.invariants k t) → s.map.reset_cycles ≤ t → t < n → StartsAt s run t
      → MeansAll s (shifted t run) (start_hypotheses s.map)
  given_start t inv past low starts =
      MeansAll-append s (shifted t run) (invariants_at s.map 0 ++ premises_at s.map 0) (start 0 ∷ [])
      (MeansAll-append s (shifted t run) (invariants_at s.map 0) (premises_at s.map 0) (given_invariants t inv) (premises t 0 past low))
      (starts, tt)

  given_started_by : (t j : ℕ) → ((k : ℕ) → HoldsOf s run s.map.invariants k t) → s.map.reset_cycles ≤ t → t < n → StartsAt s run t
      → IsCommandOf s run t j → MeansAll s (shifted t run) (started_by s.map j)
  given_started_by t j inv past low starts is_j =
      MeansAll-append s (shifted t run) (start_hypotheses s.map) (decoded j ∷ []) (given_start t inv past low starts)
      ((is_j.alone.i, is_j.alone.is_j, is_j.alone.decoded), tt)

  -- behind a start there is no start as long as its command has not ended
  quiet_behind : (k t : ℕ) → IsIdle s run n k t → StartsAt s run t → (j : ℕ) → IsCommandOf s run t j → (u : ℕ) → t < u → u < n
      → ((x : ℕ) → t ≤ x → x < u → ¬ CommitsAt s run j x) → ¬ StartsAt s run u
  quiet_behind k t idle starts j is_j u past low none =
      flight k t u idle starts past low (λ i x is_i from to.
      subst (λ m. ¬ CommitsAt s run m x)
      (one_command s.model (state_at s run t) (inputs_at s run t) j i is_j is_i) (none x from to))

  given_running : (k t : ℕ) → IsIdle s run n k t → s.map.reset_cycles ≤ t → StartsAt s run t → (j : ℕ) → IsCommandOf s run t j
      → (u : ℕ) → 1 ≤ u → later t u < n → ((x : ℕ) → t ≤ x → x < later t u → ¬ CommitsAt s run j x)
      → MeansAll s (shifted t run) (running_at s.map u)
  given_running k t idle past starts j is_j u from low none =
      MeansAll-append s (shifted t run) (premises_at s.map u) (no_start u ∷ [])
      (premises t u (omega (arith, later_sum t u)) low)
      (quiet_behind k t idle starts j is_j (later t u) (omega (arith, later_sum t u)) low none, tt)

  given_all_running : (k t : ℕ) → IsIdle s run n k t → s.map.reset_cycles ≤ t → StartsAt s run t → (j : ℕ) → IsCommandOf s run t j
      → (b : ℕ) → later t b < n → ((x : ℕ) → t ≤ x → x ≤ later t b → ¬ CommitsAt s run j x)
      → MeansAll s (shifted t run) (running s.map j 1 b)
  given_all_running k t idle past starts j is_j b low none =
      MeansAll-for_each s (shifted t run) (λ u. running_at s.map u ++ no_commit j u ∷ []) 1 b
      (λ u from to.
      MeansAll-append s (shifted t run) (running_at s.map u) (no_commit j u ∷ [])
      (given_running k t idle past starts j is_j u from (omega (arith, later_sum t u, later_sum t b))
      (λ x lo hi. none x lo (omega (arith, later_sum t u, later_sum t b))))
      (none (later t u) (omega (arith, later_sum t u)) (omega (arith, later_sum t u, later_sum t b)), tt))

  -- a command that has not ended in as many cycles as its bound breaks the obligation on the bound
  bound_broken : (k t : ℕ) → IsIdle s run n k t → s.map.reset_cycles ≤ t → t < n → ((i : ℕ) → HoldsOf s run s.map.invariants i t)
      → StartsAt s run t → (j : ℕ) (i : Instruction) → IsInstruction s.model j i → IsCommandOf s run t j
      → (b : ℕ) → bound_named s.map (instruction_name i) ≡ suc b → later t b < n
      → ((x : ℕ) → t ≤ x → x ≤ later t b → ¬ CommitsAt s run j x) → ⊥
  bound_broken k t idle past low inv starts j i is_i is_j b is_b inside none =
      let hypotheses : MeansAll s (shifted t run) (not_ended s.map j (suc b)) =
      MeansAll-append s (shifted t run) (started_by s.map j) (no_commit j 0 ∷ running s.map j 1 (suc b - 1))
      (given_started_by t j inv past low starts is_j) (
        none t (omega arith) (omega (arith, later_sum t b)),
        (let less : b ≡ suc b - 1 = omega arith in
            subst (λ m. MeansAll s (shifted t run) (running s.map j 1 m)) less
            (given_all_running k t idle past starts j is_j b inside none)),
      ) in
      subst (λ m. Holds s (bound_obligation s.map j (instruction_name i) m)) is_b (bound_holds s complete all j i is_i).0
      (shifted t run) (IsRun-shifted s run n r t (suc b) (omega (arith, later_sum t b))) hypotheses

  -- the bound of an instruction is a successor
  bound_suc : (j : ℕ) (i : Instruction) → IsInstruction s.model j i → (b : ℕ) × (bound_named s.map (instruction_name i) ≡ suc b)
  bound_suc j i is_i =
      let positive : 1 ≤ bound_named s.map (instruction_name i) = bound_positive s complete all j i is_i in
      (bound_named s.map (instruction_name i) - 1, omega arith)

  -- the hypotheses of a command that ends d cycles behind its start
  given_end : (k t : ℕ) → IsIdle s run n k t → s.map.reset_cycles ≤ t → ((i : ℕ) → HoldsOf s run s.map.invariants i t)
      → StartsAt s run t → (j : ℕ) → IsCommandOf s run t j → (d : ℕ) → EndsAt s run j t (later t d) → later t d < n
      → MeansAll s (shifted t run) (ended_at s.map j d)
  given_end k t idle past inv starts j is_j zero end low =
      MeansAll-append s (shifted t run) (started_by s.map j) (commit j 0 ∷ []) (given_started_by t j inv past low starts is_j)
      (end.commits, tt)
  given_end k t idle past inv starts j is_j (suc d) end low =
      MeansAll-append s (shifted t run) (started_by s.map j)
      (no_commit j 0 ∷ (running s.map j 1 d ++ running_at s.map (suc d) ++ commit j (suc d) ∷ []))
      (given_started_by t j inv past (omega (arith, later_sum t d)) starts is_j) (
        end.first t (omega arith) (omega (arith, later_sum t d)),
        MeansAll-append s (shifted t run) (running s.map j 1 d ++ running_at s.map (suc d)) (commit j (suc d) ∷ [])
            (MeansAll-append s (shifted t run) (running s.map j 1 d) (running_at s.map (suc d))
            (given_all_running k t idle past starts j is_j d (omega arith) (λ x from to. end.first x from (omega arith)))
            (given_running k t idle past starts j is_j (suc d) (omega arith) low (λ x from to. end.first x from to)))
            (end.commits, tt),
      )

  -- a command ends within its bound
  ends_within : (k t : ℕ) → IsIdle s run n k t → s.map.reset_cycles ≤ t → t < n → ((i : ℕ) → HoldsOf s run s.map.invariants i t)
      → StartsAt s run t → (j : ℕ) (i : Instruction) → IsInstruction s.model j i → IsCommandOf s run t j → (c : ℕ)
      → EndsAt s run j t c → c < n → c < t + bound_named s.map (instruction_name i)
  ends_within k t idle past low inv starts j i is_i is_j c end inside =
      let b = bound_suc j i is_i in
      let cases : (c < t + suc b.0) ⊎ (t + suc b.0 ≤ c) = grind arith in
      elim cases [
        | inl h ↦ omega (arith, b.1)
        | inr h ↦ absurd (bound_broken k t idle past low inv starts j i is_i is_j b.0 b.1 (omega (arith, later_sum t b.0))
            (λ x from to. end.first x from (omega (arith, later_sum t b.0))))
      ]

  -- What is known at an idle cycle: the invariants hold, and the model's state is the mapped one.
  abbrev Known : ℕ → Valuation → Type 0
  Known t q = ((k : ℕ) → HoldsOf s run s.map.invariants k t) × (q ≡ state_at s run t)

  -- the hypotheses of the reset's obligations
  abbrev active : List Fact
  active = for_each (λ t. reset_active t ∷ []) 0 s.map.reset_cycles

  actives : s.map.reset_cycles ≤ n → MeansAll s run active
  actives h = MeansAll-for_each s run (λ t. reset_active t ∷ []) 0 s.map.reset_cycles (λ t from to. (reset.active t (omega arith) (omega arith), tt))

  known_at_reset : s.map.reset_cycles ≤ n → Known s.map.reset_cycles (state_at s run s.map.reset_cycles)
  known_at_reset h = (
    invariants_given s (codes "reset.inv.") s.map.reset_cycles active s.map.reset_cycles
        (AllHold-left s (invariant_obligations s.map (codes "reset.inv.") s.map.reset_cycles active s.map.reset_cycles)
        (state_obligations (codes "reset.init.") s.map.reset_cycles active (λ m. initial m s.map.reset_cycles) (with_initial_values (states_of s.model.top)))
        (resets s complete all))
        run (IsRun-shorter s run n r s.map.reset_cycles h) (actives h),
    refl,
  )

  -- the hypotheses of the idle obligations
  abbrev idle_facts : List Fact
  idle_facts = invariants_at s.map 0 ++ premises_at s.map 0 ++ no_start 0 ∷ []

  idle_means : (t : ℕ) → ((k : ℕ) → HoldsOf s run s.map.invariants k t) → s.map.reset_cycles ≤ t → t < n → ¬ StartsAt s run t
      → MeansAll s (shifted t run) idle_facts
  idle_means t inv past low quiet =
      MeansAll-append s (shifted t run) (invariants_at s.map 0 ++ premises_at s.map 0) (no_start 0 ∷ [])
      (MeansAll-append s (shifted t run) (invariants_at s.map 0) (premises_at s.map 0) (given_invariants t inv) (premises t 0 past low))
      (quiet, tt)

  known_behind_idle : (t : ℕ) (q : Valuation) → Known t q → s.map.reset_cycles ≤ t → t < n → ¬ StartsAt s run t → Known (suc t) q
  known_behind_idle t q known past low quiet = (
    invariants_given s (codes "idle.inv.") 1 idle_facts 1
        (AllHold-left s (invariant_obligations s.map (codes "idle.inv.") 1 idle_facts 1)
        (state_obligations (codes "idle.state.") 1 idle_facts same (states_of s.model.top)) (idles s complete all))
        (shifted t run) (IsRun-shifted s run n r t 1 (omega arith)) (idle_means t known.0 past low quiet),
    known.1 ∙ sym (mapped_same s (run.valuations (suc t)) (run.valuations t)
        (states_given s (codes "idle.state.") 1 idle_facts same (states_of s.model.top)
        (AllHold-right s (invariant_obligations s.map (codes "idle.inv.") 1 idle_facts 1)
        (state_obligations (codes "idle.state.") 1 idle_facts same (states_of s.model.top)) (idles s complete all))
        (shifted t run) (IsRun-shifted s run n r t 1 (omega arith)) (idle_means t known.0 past low quiet))),
  )

  -- The model's step by the command's instruction gives the mapped state behind the commit.
  known_behind_commit : (k t : ℕ) (q x : Valuation) → IsIdle s run n k t → s.map.reset_cycles ≤ t → t < n → Known t q
      → StartsAt s run t → (j : ℕ) → IsCommandOf s run t j → (d : ℕ) → EndsAt s run j t (later t d) → later t d < n
      → Steps s.model q (inputs_at s run t) x → Known (suc (later t d)) x
  known_behind_commit k t q x idle past low known starts j is_j d end inside does =
      let i = is_j.alone.i in
      let text : Name = codes "commit." ++ instruction_name i ++ codes "." ++ decimal d in
      let inside_bound : d < bound_named s.map (instruction_name i) =
      (let h = ends_within k t idle past low known.0 starts j i is_j.alone.is_j is_j (later t d) end inside in omega (arith, later_sum t d)) in
      let hold : AllHold s (commit_obligations s.model s.map j (instruction_name i) d) =
      commit_holds s complete all j i is_j.alone.is_j d inside_bound in
      let facts : MeansAll s (shifted t run) (ended_at s.map j d) = given_end k t idle past known.0 starts j is_j d end inside in
      let is_run : IsRun s (shifted t run) (suc d) = IsRun-shifted s run n r t (suc d) (omega (arith, later_sum t d)) in
      let invariants = invariant_obligations s.map (text ++ codes ".inv.") (suc d) (ended_at s.map j d) (suc d) in
      let results = state_obligations (text ++ codes ".state.") (suc d) (ended_at s.map j d) (λ m. result_of j m (suc d)) (states_of s.model.top) in
      let steps : Steps s.model (state_at s run t) (inputs_at s run t) x =
      subst (λ p. Steps s.model p (inputs_at s run t) x) known.1 does in
      let after : Valuation = steps.0 in
      let is_x : x ≡ own_states s.model after = steps.2 in
      let done : Does s.model i (state_at s run t) (inputs_at s run t) x = (
        after,
        step_by_decoded s.model.top (point_of s.model (state_at s run t) (inputs_at s run t)) after steps.1 j i is_j.alone.is_j is_j.alone.decoded,
        is_x,
      ) in
      let alike : SameStates s.model (state_at s run (suc (later t d))) x =
      λ m is_state. states_given s (text ++ codes ".state.") (suc d) (ended_at s.map j d) (λ p. result_of j p (suc d)) (states_of s.model.top)
      (AllHold-right s invariants results hold) (shifted t run) is_run facts m is_state i x is_j.alone.is_j done in (
        invariants_given s (text ++ codes ".inv.") (suc d) (ended_at s.map j d) (suc d) (AllHold-left s invariants results hold)
            (shifted t run) is_run facts,
        is_x ∙ state_same s (run.valuations (suc (later t d))) after
            (subst (λ p. SameStates s.model (state_at s run (suc (later t d))) p) is_x alike),
      )

  known : {k t : ℕ} {q : Valuation} → HasState s run n k q t → Known t q
  known (HasState.after_reset h) = known_at_reset h
  known (HasState.after_idle {t = t} {q = q} h low quiet) = known_behind_idle t q (known h) (past_reset h) low quiet
  known (HasState.after_command {n = k} {t = t} {q = q} j c x h starts is_j end low does) =
      known_of_end k t q x (is_idle h) (past_reset h) (known h) starts j is_j c end low does
    where
      known_of_end : (k' t' : ℕ) (q' x' : Valuation) → IsIdle s run n k' t' → s.map.reset_cycles ≤ t' → Known t' q'
          → StartsAt s run t' → (j' : ℕ) → IsCommandOf s run t' j' → (c' : ℕ) → EndsAt s run j' t' c' → c' < n
          → Steps s.model q' (inputs_at s run t') x' → Known (suc c') x'
      known_of_end k' t' q' x' idle past known' starts' j' is_j' c' end' inside does' =
          let found = later_from t' c' end'.from in
          subst (λ m. Known (suc m) x') found.1
          (known_behind_commit k' t' q' x' idle past (omega (arith, end'.from)) known' starts' j' is_j' found.0
          (subst (λ m. EndsAt s run j' t' m) (sym found.1) end') (subst (λ m. m < n) (sym found.1) inside) does')

  entry_bound : (j : ℕ) (e : InstructionMap) → (entry : IsMapEntry s j e) → bound_named s.map (instruction_name entry.0) ≡ e.bound
  entry_bound j e entry = ap bound_in entry.2

  -- a start at an idle cycle has a command and a next state
  command_given : (t : ℕ) (q : Valuation) → Known t q → s.map.reset_cycles ≤ t → t < n → StartsAt s run t
      → ((j : ℕ) × IsCommandOf s run t j) × ((x : Valuation) × Steps s.model q (inputs_at s run t) x)
  command_given t q known' past low starts =
      let is_run : IsRun s (shifted t run) 1 = IsRun-shifted s run n r t 1 (omega arith) in
      let started_one : (j : ℕ) × IsCommandOf s run t j =
      (behind s complete all).0 (shifted t run) is_run (given_start t known'.0 past low starts) in
      let j : ℕ = started_one.0 in
      let is_j : IsCommandOf s run t j = started_one.1 in (
        started_one,
        subst (λ p. (x : Valuation) × Steps s.model p (inputs_at s run t) x) (sym known'.1)
            (next_state is_run j is_j (given_started_by t j known'.0 past low starts is_j)
            (child_holds s complete all j is_j.alone.i is_j.alone.is_j)),
      )
    where
      stepped : (j : ℕ) (is_j : IsCommandOf s run t j) (after : Valuation)
          → DoesInstruction is_j.alone.i (point_of s.model (state_at s run t) (inputs_at s run t)) after
          → (x : Valuation) × Steps s.model (state_at s run t) (inputs_at s run t) x
      stepped j is_j after does = (
        own_states s.model after,
        (
          after,
          step_done s.model.top (point_of s.model (state_at s run t) (inputs_at s run t)) after j is_j.alone.i is_j.alone.is_j is_j.valid is_j.alone.decoded
              is_j.alone.no_other does,
          refl,
        ),
      )

      same_instruction : (j : ℕ) (i o : Instruction) → IsInstruction s.model j i → IsInstruction s.model j o → o ≡ i
      same_instruction j i o is_i is_o = let both : Some o ≡ Some i = sym is_o ∙ is_i in cc

      next_state : IsRun s (shifted t run) 1 → (j : ℕ) (is_j : IsCommandOf s run t j) → MeansAll s (shifted t run) (started_by s.map j)
          → AllHold s (child_obligations s.map j (instruction_name is_j.alone.i) (child_program is_j.alone.i))
          → (x : Valuation) × Steps s.model (state_at s run t) (inputs_at s run t) x
      next_state is_run j is_j facts hold =
          (elim (child_program is_j.alone.i) as
          (λ c. child_program is_j.alone.i ≡ c → AllHold s (child_obligations s.map j (instruction_name is_j.alone.i) c)
          → (x : Valuation) × Steps s.model (state_at s run t) (inputs_at s run t) x) [
            | no_child ↦ λ e h.
                let done = done_without_child is_j.alone.i (point_of s.model (state_at s run t) (inputs_at s run t)) e in
                stepped j is_j done.0 done.1
            | child steps program ↦ λ e h.
                let end = h.0 (shifted t run) is_run facts in
                let does : Does s.model is_j.alone.i (state_at s run t) (inputs_at s run t) end.2 =
                subst (λ o. Does s.model o (state_at s run t) (inputs_at s run t) end.2)
                (same_instruction j is_j.alone.i end.0 is_j.alone.is_j end.1) end.3 in
                stepped j is_j does.0 does.1
          ]) refl hold

  refines : Refines s run n
  refines = record {
    initial = λ h name d x is_d is_x.
        initial_given s (codes "reset.init.") s.map.reset_cycles active (λ m. initial m s.map.reset_cycles) (states_of s.model.top)
        (AllHold-right s (invariant_obligations s.map (codes "reset.inv.") s.map.reset_cycles active s.map.reset_cycles)
        (state_obligations (codes "reset.init.") s.map.reset_cycles active (λ m. initial m s.map.reset_cycles) (with_initial_values (states_of s.model.top)))
        (resets s complete all))
        run (IsRun-shorter s run n r s.map.reset_cycles h) (actives h) name d x is_d is_x d x is_d is_x;
    command = λ k t q h low starts. command_given t q (known h) (past_reset h) low starts;
    ended = λ k t j c q e h starts is_j entry end low.
        subst (λ b. c < t + b) (entry_bound j e entry)
        (ends_within k t (is_idle h) (past_reset h) (omega (arith, end.from)) (known h).0 starts j entry.0 entry.1 is_j c end low);
    open_command = λ k t j q e h low starts is_j entry none.
        subst (λ b. n < t + b) (entry_bound j e entry) (open_within k t q h low starts j entry.0 entry.1 is_j none);
    state = λ k t q h low m is_state. ap (λ p. p m) (sym (known h).1);
  }
    where
      open_within : (k t : ℕ) (q : Valuation) → HasState s run n k q t → t < n → StartsAt s run t → (j : ℕ) (i : Instruction)
          → IsInstruction s.model j i → IsCommandOf s run t j → ((u : ℕ) → t ≤ u → u < n → ¬ CommitsAt s run j u)
          → n < t + bound_named s.map (instruction_name i)
      open_within k t q h low starts j i is_i is_j none =
          let b = bound_suc j i is_i in
          let cases : (n < t + suc b.0) ⊎ (t + suc b.0 ≤ n) = grind arith in
          elim cases [
            | inl small ↦ omega (arith, b.1)
            | inr large ↦ absurd (bound_broken k t (is_idle h) (past_reset h) low (known h).0 starts j i is_i is_j b.0 b.1 (omega (arith, later_sum t b.0))
                (λ x from to. none x from (omega (arith, later_sum t b.0))))
          ]

module _ (s : Setting) (complete : IsComplete s) (all : AllHold s (obligations s.model s.map))
    (run : Run) (n : ℕ) (r : IsRun s run n) (reset : IsFromReset s run n) (flight : HasOneInFlight s run n) where
  -- the model has a state at each idle cycle
  has_state : {k t : ℕ} → IsIdle s run n k t → (q : Valuation) × HasState s run n k q t
  has_state (IsIdle.after_reset h) = (state_at s run s.map.reset_cycles, HasState.after_reset h)
  has_state (IsIdle.after_idle h low quiet) = let before = has_state h in (before.0, HasState.after_idle before.1 low quiet)
  has_state (IsIdle.after_command {n = k} {t = t} j c h starts is_j end low) =
      let before = has_state h in
      let next = (command_given s complete all run n r reset flight t before.0 (known s complete all run n r reset flight before.1)
      (past_reset s complete all run n r reset flight before.1) (omega (arith, end.from, low)) starts).1 in
      (next.0, HasState.after_command j c next.0 before.1 starts is_j end low next.1)

pub invariants_kept : ObligationsKeepInvariants
invariants_kept s complete all run n r reset flight m t k idle =
    (known s complete all run n r reset flight (has_state s complete all run n r reset flight idle).1).0 k

pub refined : ObligationsGiveRefinement
refined s complete all run n r reset flight = refines s complete all run n r reset flight
