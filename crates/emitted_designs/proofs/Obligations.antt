-- Each obligation of an emitted design of a model without child programs holds.
use Rattle.std.proofs.Common.{◌≡◌, ℕ, zero, suc, ◌-◌, ◌<◌, ◌≤◌, ◌⊎◌, inl, inr, nat_lt, cond, arith, List, [], ◌∷◌, ◌++◌, length, Option, Some, refl, sym, ◌∙◌, ap, subst}
use Rattle.std.specs.Prelude.{slice_get, codes, decimal}
use Rattle.wb_values.specs.Value.{Name}
use Rattle.model_meaning.specs.Model.{Model, StateDeclaration, Instruction, instruction_name, child_program, instructions_in, states_of}
use Rattle.model_meaning.specs.Instruction.{own_states}
use Rattle.model_meaning.specs.Invariant.{IsModel}
use Rattle.verilog_trees.specs.Syntax.{Module}
use Rattle.refinement.specs.Map.{Setting, Map}
use Rattle.refinement.specs.Run.{Run, IsRun, IsResetAt}
use Rattle.refinement.specs.Refinement.{state_at, StartsAt, IsCommandOf, CommitsAt}
use Rattle.refinement.specs.Obligation.{Fact, invariant, initial, same, start, no_start, decoded, commit, no_commit, result_of, Means, MeansAll, Obligation, Holds, for_each, invariants_at, premises_at, numbered, invariant_obligations, state_obligations, with_initial_values, reset_obligations, idle_obligations, decode_obligation, start_hypotheses, started_by, running_at, running, ended_at, child_obligations, bound_obligation, commit_obligations, bound_in, bound_named, instruction_obligations, all_instruction_obligations, obligations}
use Rattle.refinement.specs.Soundness.{AllHold}
use Rattle.emitted_designs.specs.Bounds.{nesting_of, nesting_of_instruction}
use Rattle.emitted_designs.specs.Map.{rest_expression, emitted_map, setting_of}
use Rattle.emitted_designs.specs.MicroStep.{begun}
use Rattle.emitted_designs.specs.Cycles.{start_point}
use Rattle.emitted_designs.specs.Emits.{IsEmittedModule}
use Rattle.emitted_designs.specs.Laws.{EmittedObligationsHold}
use Rattle.emitted_designs.proofs.Childless.{in_machine, done_begun, no_program}
use Rattle.emitted_designs.proofs.Refining.{Known, HasEntry, has_entry, entry_facts, started, commits_at, after_start, kept}

-- ---- lists of facts and of obligations

module _ (s : Setting) where
  before : (run : Run) (xs ys : List Fact) → MeansAll s run (xs ++ ys) → MeansAll s run xs
  before run [] ys h = tt
  before run (x ∷ xs) ys h = (h.0, before run xs ys h.1)

  behind : (run : Run) (xs ys : List Fact) → MeansAll s run (xs ++ ys) → MeansAll s run ys
  behind run [] ys h = h
  behind run (x ∷ xs) ys h = behind run xs ys h.1

  both : (xs ys : List Obligation) → AllHold s xs → AllHold s ys → AllHold s (xs ++ ys)
  both [] ys h g = g
  both (x ∷ xs) ys h g = (h.0, both xs ys h.1 g)

  each : (f : ℕ → List Obligation) (k n : ℕ) → ((c : ℕ) → AllHold s (f c)) → AllHold s (for_each f k n)
  each f k zero h = tt
  each f k (suc n) h = both (f k) (for_each f (suc k) n) (h k) (each f (suc k) n h)

  each_state : (text : Name) (cycles : ℕ) (facts : List Fact) (claim : Name → Fact) (ds : List StateDeclaration)
      → ((n : Name) → (run : Run) → IsRun s run cycles → MeansAll s run facts → Means s run (claim n))
      → AllHold s (state_obligations text cycles facts claim ds)
  each_state text cycles facts claim [] h = tt
  each_state text cycles facts claim (d ∷ ds) h = (h d.state_name, each_state text cycles facts claim ds h)

module _ (m : Model) (x : Module) (is_model : IsModel m) (childless : nesting_of m.top ≡ 0) (emitted : IsEmittedModule m x) where
  abbrev s : Setting
  s = setting_of m x

  abbrev its_map : Map
  its_map = emitted_map m

  known : (run : Run) (cycles : ℕ) → IsRun s run cycles → Known m x run cycles
  known run cycles is_run = record { is_model = is_model; childless = childless; follows = emitted.runs run cycles is_run }

  -- ---- no invariants

  no_invariants : its_map.invariants ≡ []
  no_invariants = ap (λ b. cond b (rest_expression ∷ []) []) (ap (λ k. nat_lt 0 k) childless)

  on_invariants : (text : Name) (cycles : ℕ) (facts : List Fact) (t : ℕ) → AllHold s (invariant_obligations its_map text cycles facts t)
  on_invariants text cycles facts t =
      subst
      (λ is. AllHold s (for_each (λ k. record { called = numbered text k; cycles = cycles; hypotheses = facts; claim = invariant k t } ∷ []) 0 (length is)))
      (sym no_invariants) tt

  -- ---- resets and idle cycles

  resets : AllHold s (reset_obligations m its_map)
  resets =
      both s (invariant_obligations its_map (codes "reset.inv.") 1 (Fact.reset_active 0 ∷ []) 1)
      (state_obligations (codes "reset.init.") 1 (Fact.reset_active 0 ∷ []) (λ n. initial n 1) (with_initial_values (states_of m.top)))
      (on_invariants (codes "reset.inv.") 1 (Fact.reset_active 0 ∷ []) 1)
      (each_state s (codes "reset.init.") 1 (Fact.reset_active 0 ∷ []) (λ n. initial n 1) (with_initial_values (states_of m.top))
      (λ n run is_run h d v e f. (known run 1 is_run).follows.reset 0 (omega arith) h.0 n d v e f))

  abbrev idle_facts : List Fact
  idle_facts = invariants_at its_map 0 ++ premises_at its_map 0 ++ no_start 0 ∷ []

  idles : AllHold s (idle_obligations m its_map)
  idles =
      both s (invariant_obligations its_map (codes "idle.inv.") 1 idle_facts 1)
      (state_obligations (codes "idle.state.") 1 idle_facts same (states_of m.top))
      (on_invariants (codes "idle.inv.") 1 idle_facts 1)
      (each_state s (codes "idle.state.") 1 idle_facts same (states_of m.top) stays)
    where
      stays : (n : Name) (run : Run) → IsRun s run 1 → MeansAll s run idle_facts → state_at s run 1 n ≡ state_at s run 0 n
      stays n run is_run h =
          let premises : MeansAll s run (premises_at its_map 0) =
          behind s run (invariants_at its_map 0) (premises_at its_map 0)
          (before s run (invariants_at its_map 0 ++ premises_at its_map 0) (no_start 0 ∷ []) h) in
          let waits : MeansAll s run (no_start 0 ∷ []) = behind s run (invariants_at its_map 0 ++ premises_at its_map 0) (no_start 0 ∷ []) h in
          ap (λ v. v n) (kept m x run 1 (known run 1 is_run) 0 (omega arith) premises.0 waits.0)

  -- ---- starts

  start_facts : (run : Run) → MeansAll s run (start_hypotheses its_map) → (¬ IsResetAt s run 0) × StartsAt s run 0
  start_facts run h =
      let premises : MeansAll s run (premises_at its_map 0) =
      behind s run (invariants_at its_map 0) (premises_at its_map 0)
      (before s run (invariants_at its_map 0 ++ premises_at its_map 0) (start 0 ∷ []) h) in
      let starts : MeansAll s run (start 0 ∷ []) = behind s run (invariants_at its_map 0 ++ premises_at its_map 0) (start 0 ∷ []) h in
      (premises.0, starts.0)

  decodes : Holds s (decode_obligation its_map)
  decodes run is_run h = started m x run 1 (known run 1 is_run) 0 (omega arith) (start_facts run h).1

  -- the command of instruction j
  command_of : (run : Run) (cycles j : ℕ) → IsRun s run cycles → 0 < cycles → MeansAll s run (started_by its_map j) → IsCommandOf s run 0 j
  command_of run cycles j is_run some h = subst (λ k. IsCommandOf s run 0 k) same_number c.1
    where
      starts : StartsAt s run 0
      starts = (start_facts run (before s run (start_hypotheses its_map) (decoded j ∷ []) h)).1

      is_decoded : Means s run (decoded j)
      is_decoded = (behind s run (start_hypotheses its_map) (decoded j ∷ []) h).0

      c : (k : ℕ) × IsCommandOf s run 0 k
      c = started m x run cycles (known run cycles is_run) 0 some starts

      cases : (k : ℕ) → (k ≡ j) ⊎ ((j < k) ⊎ (k < j))
      cases k = grind arith

      same_number : c.0 ≡ j
      same_number = elim (cases c.0) [
        | inl e ↦ e
        | inr (inl low) ↦ absurd (c.1.alone.no_other j is_decoded.0 is_decoded.1 (omega (arith, low)) is_decoded.2)
        | inr (inr high) ↦ absurd (c.1.alone.no_other j is_decoded.0 is_decoded.1 (omega (arith, high)) is_decoded.2)
      ]

  -- It commits at once.
  commits : (run : Run) (cycles j : ℕ) → IsRun s run cycles → 0 < cycles → MeansAll s run (started_by its_map j) → CommitsAt s run j 0
  commits run cycles j is_run some h =
      commits_at m x run cycles (known run cycles is_run) 0 j some
      (start_facts run (before s run (start_hypotheses its_map) (decoded j ∷ []) h)).1
      (command_of run cycles j is_run some h)

  -- ---- bounds

  bounds : (j : ℕ) (n : Name) (bound : ℕ) → 1 ≤ bound → Holds s (bound_obligation its_map j n bound)
  bounds j n bound some run is_run h =
      (behind s run (started_by its_map j) (no_commit j 0 ∷ running its_map j 1 (bound - 1)) h).0
      (commits run bound j is_run (omega (arith, some))
      (before s run (started_by its_map j) (no_commit j 0 ∷ running its_map j 1 (bound - 1)) h))

  some_bound : (i : Instruction) → HasEntry (instructions_in m.top) (instruction_name i) → 1 ≤ bound_named its_map (instruction_name i)
  some_bound i h =
      subst (λ o. 1 ≤ bound_in o) (sym h.1) (entry_facts (instructions_in m.top) (instruction_name i) h.0 h.1).1

  -- ---- ends

  results : (j c : ℕ) (q : Name) (run : Run) → IsRun s run (suc c) → MeansAll s run (ended_at its_map j c) → Means s run (result_of j q (suc c))
  results j zero q run is_run h i r is_j does =
      let begins : MeansAll s run (started_by its_map j) = before s run (started_by its_map j) (commit j 0 ∷ []) h in
      let facts : (¬ IsResetAt s run 0) × StartsAt s run 0 =
      start_facts run (before s run (start_hypotheses its_map) (decoded j ∷ []) begins) in
      let command : IsCommandOf s run 0 j = command_of run 1 j is_run (omega arith) begins in
      let alone : slice_get (instructions_in m.top) j ≡ Some command.alone.i = command.alone.is_j in
      let one : command.alone.i ≡ i = one_at (slice_get (instructions_in m.top) j) command.alone.i i alone is_j in
      ap (λ v. v q)
      (after_start m x run 1 (known run 1 is_run) 0 j (omega arith) facts.0 facts.1 command
      ∙ (ap (λ y. own_states m (begun y (start_point s run 0))) one
      ∙ sym
      (does.2
      ∙ ap (λ v. own_states m v) (done_begun i (start_point s run 0) does.0 (in_machine m.top j i childless is_j) does.1))))
    where
      one_at : (o : Option Instruction) (a b : Instruction) → o ≡ Some a → o ≡ Some b → a ≡ b
      one_at o a b e f = cc
  results j (suc c) q run is_run h i r is_j does =
      absurd
      ((behind s run (started_by its_map j) (no_commit j 0 ∷ (running its_map j 1 c ++ running_at its_map (suc c) ++ commit j (suc c) ∷ [])) h).0
      (commits run (suc (suc c)) j is_run (omega arith)
      (before s run (started_by its_map j) (no_commit j 0 ∷ (running its_map j 1 c ++ running_at its_map (suc c) ++ commit j (suc c) ∷ [])) h)))

  ends : (j : ℕ) (n : Name) (c : ℕ) → AllHold s (commit_obligations m its_map j n c)
  ends j n c =
      let text : Name = codes "commit." ++ n ++ codes "." ++ decimal c in
      both s (invariant_obligations its_map (text ++ codes ".inv.") (suc c) (ended_at its_map j c) (suc c))
      (state_obligations (text ++ codes ".state.") (suc c) (ended_at its_map j c) (λ q. result_of j q (suc c)) (states_of m.top))
      (on_invariants (text ++ codes ".inv.") (suc c) (ended_at its_map j c) (suc c))
      (each_state s (text ++ codes ".state.") (suc c) (ended_at its_map j c) (λ q. result_of j q (suc c)) (states_of m.top)
      (λ q run is_run h. results j c q run is_run h))

  -- ---- instructions

  of_instruction : (j : ℕ) (i : Instruction) → nesting_of_instruction i ≡ 0 → HasEntry (instructions_in m.top) (instruction_name i)
      → AllHold s (instruction_obligations m its_map j i)
  of_instruction j i none entry =
      let n : Name = instruction_name i in
      both s (child_obligations its_map j n (child_program i))
      (bound_obligation its_map j n (bound_named its_map n) ∷ for_each (commit_obligations m its_map j n) 0 (bound_named its_map n))
      (subst (λ p. AllHold s (child_obligations its_map j n p)) (sym (no_program i none)) tt)
      (bounds j n (bound_named its_map n) (some_bound i entry), each s (commit_obligations m its_map j n) 0 (bound_named its_map n) (ends j n))

  of_instructions : (j : ℕ) (is : List Instruction)
      → ((k : ℕ) (i : Instruction) → slice_get is k ≡ Some i
      → (nesting_of_instruction i ≡ 0) × HasEntry (instructions_in m.top) (instruction_name i))
      → AllHold s (all_instruction_obligations m its_map j is)
  of_instructions j [] h = tt
  of_instructions j (i ∷ is) h =
      both s (instruction_obligations m its_map j i) (all_instruction_obligations m its_map (suc j) is)
      (of_instruction j i (h 0 i refl).0 (h 0 i refl).1) (of_instructions (suc j) is (λ k o e. h (suc k) o e))

  pub all_hold : AllHold s (obligations m its_map)
  all_hold =
      both s (reset_obligations m its_map ++ idle_obligations m its_map)
      (decode_obligation its_map ∷ all_instruction_obligations m its_map 0 (instructions_in m.top))
      (both s (reset_obligations m its_map) (idle_obligations m its_map) resets idles) (
        decodes,
        of_instructions 0 (instructions_in m.top)
            (λ k i e. (in_machine m.top k i childless e, has_entry (instructions_in m.top) k i e)),
      )

pub emitted_obligations_hold : EmittedObligationsHold
emitted_obligations_hold m x is_model childless emitted = all_hold m x is_model childless emitted
