-- A fact within the cycles of a run holds of it exactly where its values show it.
use Rattle.std.proofs.Common.{◌≡◌, ◌∙◌, ◌↔◌, ℕ, ◌<◌, ◌≤◌, Bool, ◌==◌, List, [], ◌∷◌, ◌++◌, map, slice_get, Option, Some, None, refl, sym, subst, arith}
use Rattle.std.specs.Prelude.{IsTrue}
use Rattle.std.proofs.lemmas.Bool.{false≢true}
use Rattle.std.proofs.lemmas.Bool.Decides.{nat_tests}
use Rattle.wb_values.specs.Value.{Value, truth_value, as_truth, as_number, Valuation}
use Rattle.model_meaning.specs.Model.{StateDeclaration, Instruction, instruction_name, states_of, instructions_in, state_named}
use Rattle.model_meaning.specs.Instruction.{Does, DecodesAt, IsInstruction, IsStarted}
use Rattle.verilog_trees.specs.Syntax.{Expression}
use Rattle.refinement.specs.Map.{Setting, InstructionMap, design_of, condition_holds, instruction_map}
use Rattle.refinement.specs.Run.{Run, IsRun, IsResetAt, HoldsOf}
use Rattle.refinement.specs.Refinement.{state_at, inputs_at, CommitsAt}
use Rattle.refinement.specs.Obligation.{Fact, reset_active, reset_inactive, assumed, invariant, start, no_start, decoded, commit, no_commit, initial, same, one_decodes, ends, result_of, never, Means, MeansAll}
use Rattle.v_design.specs.Design.{worth}
use Rattle.mapped_designs.specs.Mapped.{Mapped, MappedInstruction}
use Rattle.mapped_designs.specs.Runs.{Values, worth_at, worth_of_registers_at, HoldsAt, HoldsAmong, KeepsInvariant, ShowsCommit, shown_state, shown_inputs, Shows, ShowsAll}
use Rattle.mapped_designs.specs.Meaning.{Tells, IsMappedBy, is_reset_active, condition_value, commit_holds, commit_value}
use Rattle.mapped_runs.specs.Sound.{IsSoundDesign}
use Rattle.mapped_runs.specs.Valued.{HasValues, IsWithin, AreWithin, RunsShow}
use Rattle.mapped_runs.proofs.Lists.{beside, front_same, back_same, alike}
use Rattle.mapped_runs.proofs.Cycles.{no_inputs, no_inputs_are, registers_are, worth_is, worth_of_registers_is}
use Rattle.mapped_runs.proofs.Named.{state_listed, inputs_listed}

same_from : (a b : ℕ) → IsTrue (a == b) → a ≡ b
same_from a b h = grind (arith, nat_tests)

same_to : (a b : ℕ) → a ≡ b → IsTrue (a == b)
same_to a b h = grind (arith, nat_tests)

-- a condition's value and the condition
there : (y : Value) (b : Bool) → y ≡ truth_value b → IsTrue b → IsTrue (as_truth y)
there y b e h = subst (λ z. IsTrue (as_truth z)) (sym e) h

back : (y : Value) (b : Bool) → y ≡ truth_value b → IsTrue (as_truth y) → IsTrue b
back y b e h = subst (λ z. IsTrue (as_truth z)) e h

-- what is said of one valuation is said of another that is it
over : (P : Valuation → Type 0) (q r : Valuation) → q ≡ r → P q ↔ P r
over P q r e = (subst P e, subst P (sym e))

over_both : (P : Valuation → Valuation → Type 0) (q r w u : Valuation) → q ≡ r → w ≡ u → P q w ↔ P r u
over_both P q r w u e f = (λ h. subst (λ z. P z u) e (subst (P q) f h), λ h. subst (λ z. P z w) (sym e) (subst (P r) (sym f) h))

denied : {A B : Type 0} → A ↔ B → (¬ A) ↔ (¬ B)
denied h = (λ no b. no (h.1 b), λ no a. no (h.0 a))

module _ (s : Setting) (e : Mapped) (run : Run) (cycles : ℕ) (x : Values) (mapped : IsMappedBy s e) (sound : IsSoundDesign e.parts)
    (is_run : IsRun s run cycles) (has : HasValues e.parts run cycles x) where
  told : (t : ℕ) → t ≤ cycles → Tells s e (run.registers t) (run.inputs t) (run.valuations t)
  told t l = mapped.tells (run.registers t) (run.inputs t) (run.valuations t) (registers_are s run cycles is_run t l) (is_run.inputs t l) (is_run.settled t l)

  worth_there : (t : ℕ) → t < cycles → (id : ℕ) → worth_at e.parts x t id ≡ worth e.parts (run.registers t) (run.inputs t) id
  worth_there t l id = worth_is s run cycles is_run e.parts mapped.design sound x has t l id

  -- terms of states and invariants, read with inputs that are 0
  without_inputs : (t : ℕ) → t ≤ cycles → map (worth_of_registers_at e.parts x t) (e.states ++ e.invariants) ≡ map (worth e.parts (run.registers t) (run.inputs t)) (e.states ++ e.invariants)
  without_inputs t l =
      alike (worth_of_registers_at e.parts x t) (worth e.parts (run.registers t) no_inputs) (e.states ++ e.invariants)
      (λ id. worth_of_registers_is s run cycles is_run e.parts mapped.design sound x has t l id)
      ∙ mapped.still (run.registers t) no_inputs (run.inputs t) (registers_are s run cycles is_run t l) (no_inputs_are (design_of s) e.parts mapped.design sound) (is_run.inputs t l)

  pub state_is : (t : ℕ) → t ≤ cycles → shown_state s.model e x t ≡ state_at s run t
  state_is t l =
      state_listed s (run.valuations t) (map (worth_of_registers_at e.parts x t) e.states)
      (front_same (worth_of_registers_at e.parts x t) (worth e.parts (run.registers t) (run.inputs t)) e.states e.invariants (without_inputs t l) ∙ (told t l).model_states)

  pub inputs_is : (t : ℕ) → t < cycles → shown_inputs s.model e x t ≡ inputs_at s run t
  inputs_is t l =
      inputs_listed s (run.valuations t) (map (worth_at e.parts x t) e.inputs)
      (alike (worth_at e.parts x t) (worth e.parts (run.registers t) (run.inputs t)) e.inputs (worth_there t l) ∙ (told t (omega (arith, l))).model_inputs)

  reset_shows : (t : ℕ) → t < cycles → IsResetAt s run t ↔ HoldsAt e x t e.reset
  reset_shows t l =
      let y = worth_at e.parts x t e.reset in
      let b = is_reset_active s (run.valuations t) in
      let is : y ≡ truth_value b = worth_there t l e.reset ∙ (told t (omega (arith, l))).reset in
      let n = as_number (run.valuations t s.map.reset_signal) in
      (λ h. there y b is (same_to n s.map.reset_active h), λ h. same_from n s.map.reset_active (back y b is h))

  start_shows : (t : ℕ) → t < cycles → Means s run (start t) ↔ HoldsAt e x t e.start
  start_shows t l =
      let y = worth_at e.parts x t e.start in
      let b = condition_holds s (run.valuations t) s.map.start in
      let is : y ≡ truth_value b = worth_there t l e.start ∙ (told t (omega (arith, l))).start in
      (there y b is, back y b is)

  -- conditions of a list and their terms
  among : (v : Valuation) (f : ℕ → Value) (ids : List ℕ) (es : List Expression) (k : ℕ) → map f ids ≡ map (condition_value s v) es
      → ((c : Expression) → slice_get es k ≡ Some c → IsTrue (condition_holds s v c)) ↔ ((id : ℕ) → slice_get ids k ≡ Some id → IsTrue (as_truth (f id)))
  among v f ids es k is = (
    λ h id there_id.
        let b = beside f (condition_value s v) ids es k id is there_id in
        there (f id) (condition_holds s v b.other) b.is_same (h b.other b.is_there),
    λ h c there_c.
        let b = beside (condition_value s v) f es ids k c (sym is) there_c in
        back (f b.other) (condition_holds s v c) (sym b.is_same) (h b.other b.is_there),
  )

  assumed_shows : (k t : ℕ) → t < cycles → HoldsOf s run s.map.assume k t ↔ HoldsAmong e x e.assume k t
  assumed_shows k t l =
      among (run.valuations t) (worth_at e.parts x t) e.assume s.map.assume k
      (alike (worth_at e.parts x t) (worth e.parts (run.registers t) (run.inputs t)) e.assume (worth_there t l) ∙ (told t (omega (arith, l))).assume)

  invariant_shows : (k t : ℕ) → t ≤ cycles → HoldsOf s run s.map.invariants k t ↔ KeepsInvariant e x k t
  invariant_shows k t l =
      among (run.valuations t) (worth_of_registers_at e.parts x t) e.invariants s.map.invariants k
      (back_same (worth_of_registers_at e.parts x t) (worth e.parts (run.registers t) (run.inputs t)) e.states e.invariants (without_inputs t l) ∙ (told t l).invariants)

  abbrev commit_worth : ℕ → MappedInstruction → Value
  commit_worth t i = worth_at e.parts x t i.commit

  commits_are : (t : ℕ) → t < cycles → map (commit_worth t) e.instructions ≡ map (commit_value s (run.valuations t)) (instructions_in s.model.top)
  commits_are t l =
      alike (commit_worth t) (λ (i : MappedInstruction). worth e.parts (run.registers t) (run.inputs t) i.commit) e.instructions (λ i. worth_there t l i.commit)
      ∙ (told t (omega (arith, l))).commits

  commit_shown : (j t : ℕ) → t < cycles → CommitsAt s run j t → ShowsCommit e x j t
  commit_shown j t l h =
      let i = h.1.0 in
      let v = run.valuations t in
      let b = beside (commit_value s v) (commit_worth t) (instructions_in s.model.top) e.instructions j i (sym (commits_are t l)) h.1.1 in (
        b.other,
        b.is_there,
        there (commit_worth t b.other) (commit_holds s v (instruction_map s.map.instructions (instruction_name i))) (sym b.is_same)
            (subst (λ o. IsTrue (commit_holds s v o)) (sym h.1.2) h.2),
      )

  by_entry : (j t : ℕ) (i : Instruction) → IsInstruction s.model j i → (o : Option InstructionMap) → instruction_map s.map.instructions (instruction_name i) ≡ o
      → IsTrue (commit_holds s (run.valuations t) o) → CommitsAt s run j t
  by_entry j t i is_i None is_o c = absurd (false≢true c)
  by_entry j t i is_i (Some y) is_o c = (y, (i, is_i, is_o), c)

  commit_held : (j t : ℕ) → t < cycles → ShowsCommit e x j t → CommitsAt s run j t
  commit_held j t l h =
      let i = h.0 in
      let v = run.valuations t in
      let b = beside (commit_worth t) (commit_value s v) e.instructions (instructions_in s.model.top) j i (commits_are t l) h.1 in
      by_entry j t b.other b.is_there (instruction_map s.map.instructions (instruction_name b.other)) refl
      (back (commit_worth t i) (commit_holds s v (instruction_map s.map.instructions (instruction_name b.other))) b.is_same h.2)

  commit_shows : (j t : ℕ) → t < cycles → CommitsAt s run j t ↔ ShowsCommit e x j t
  commit_shows j t l = (commit_shown j t l, commit_held j t l)

  first : 0 ≤ cycles
  first = omega arith

  -- what is said of the mapped state and inputs at the first cycle
  at_first : 0 < cycles → (P : Valuation → Valuation → Type 0) → P (state_at s run 0) (inputs_at s run 0) ↔ P (shown_state s.model e x 0) (shown_inputs s.model e x 0)
  at_first l P =
      over_both P (state_at s run 0) (shown_state s.model e x 0) (inputs_at s run 0) (shown_inputs s.model e x 0) (sym (state_is 0 first)) (sym (inputs_is 0 l))

  pub shows : (fact : Fact) → IsWithin cycles fact → Means s run fact ↔ Shows s.model e x fact
  shows (reset_active t) l = reset_shows t l
  shows (reset_inactive t) l = denied (reset_shows t l)
  shows (assumed k t) l = assumed_shows k t l
  shows (invariant k t) l = invariant_shows k t l
  shows (start t) l = start_shows t l
  shows (no_start t) l = denied (start_shows t l)
  shows (decoded j) l = at_first l (λ q w. (i : Instruction) × IsInstruction s.model j i × DecodesAt s.model q w i)
  shows (commit j t) l = commit_shows j t l
  shows (no_commit j t) l = denied (commit_shows j t l)
  shows (initial n t) l =
      over (λ q. (d : StateDeclaration) (y : Value) → state_named (states_of s.model.top) n ≡ Some d → d.init ≡ Some y → q n ≡ y)
      (state_at s run t) (shown_state s.model e x t) (sym (state_is t l))
  shows (same n) l =
      over_both (λ q r. q n ≡ r n) (state_at s run 1) (shown_state s.model e x 1) (state_at s run 0) (shown_state s.model e x 0)
      (sym (state_is 1 (omega (arith, l)))) (sym (state_is 0 first))
  shows one_decodes l = at_first l (λ q w. (j : ℕ) × IsStarted s.model q w j)
  shows (ends j) l = at_first l (λ q w. (i : Instruction) × IsInstruction s.model j i × (r : Valuation) × Does s.model i q w r)
  shows (result_of j n t) l =
      let after = over (λ p. (i : Instruction) (r : Valuation) → IsInstruction s.model j i → Does s.model i (state_at s run 0) (inputs_at s run 0) r → p n ≡ r n)
      (state_at s run t) (shown_state s.model e x t) (sym (state_is t l.1)) in
      let before = at_first l.0 (λ q w. (i : Instruction) (r : Valuation) → IsInstruction s.model j i → Does s.model i q w r → shown_state s.model e x t n ≡ r n) in
      (λ h. before.0 (after.0 h), λ h. after.1 (before.1 h))
  shows never l = (λ h. h, λ h. h)

  pub shows_all : (facts : List Fact) → AreWithin cycles facts → MeansAll s run facts ↔ ShowsAll s.model e x facts
  shows_all [] l = (λ h. h, λ h. h)
  shows_all (fact ∷ facts) l =
      let here = shows fact l.0 in
      let rest = shows_all facts l.1 in
      (λ h. (here.0 h.0, rest.0 h.1), λ h. (here.1 h.0, rest.1 h.1))

pub runs_show : RunsShow
runs_show s e run cycles x fact mapped sound is_run has l = shows s e run cycles x mapped sound is_run has fact l
