-- What each way through the code says of the run.
use Rattle.std.proofs.Common.{◌≡◌, ◌≢◌, ◌∙◌, ℕ, suc, ◌+◌, ◌<◌, ◌≤◌, Bool, true, false, List, length, map, get_or, slice_get, ◌⊎◌, inl, inr, Option, Some, None, refl, sym, ap, subst, arith, add-one}
use Rattle.std.proofs.lemmas.Bool.{false≢true}
use Rattle.std.proofs.lemmas.List.{length-map}
use Rattle.wb_values.specs.Value.{Value, as_truth, Valuation}
use Rattle.model_meaning.specs.Model.{Model, states_of, instructions_in}
use Rattle.model_meaning.specs.Instruction.{IsStarted, Steps}
use Rattle.refinement.specs.Map.{Setting, InstructionMap}
use Rattle.refinement.specs.Run.{Run}
use Rattle.refinement.specs.Refinement.{state_at, inputs_at, StartsAt, CommitsAt, IsCommandOf, IsMapEntry}
use Rattle.wb_terms.specs.Graph.{HasDistinctNames}
use Rattle.ila_child.specs.State.{sorts_of_states, IsStateOf, state_valuation, input_valuation}
use Rattle.v_design.specs.Parts.{value_in}
use Rattle.v_cycle.specs.declared.cycle.Cycle.{Cycle}
use Rattle.v_cycle.specs.Running.{HasRun}
use Rattle.mapped_designs.specs.declared.design.MappedDesign.{MappedDesign}
use Rattle.mapped_designs.specs.declared.design.MappedInstruction as code_instruction
use Rattle.mapped_designs.specs.Mapped.{Mapped, MappedInstruction, IsSortedFor}
use Rattle.mapped_designs.specs.View.{mapped_of, instruction_view}
use Rattle.mapped_designs.specs.Runs.{Values, registers_at}
use Rattle.watch_laws.specs.Positions.{IsRunning, IsWatchedTo, IsIdleAt, idle, running}
use Rattle.watch_laws.specs.Positions as position
use Rattle.watch_laws.proofs.Watching.{reset_on, idle_after_reset, idle_later, reset_quiet_at_end, running_quiet_at_end, command_ends, command_goes_on}
use Rattle.run_watch.specs.declared.answers.Disagreement.TheVariants.{InitialValue, NoStep, PastBound, OtherState}
use Rattle.run_watch.specs.declared.standing.WatchPosition.TheVariants.{Reset, Idle, Running}
use Rattle.run_watch.specs.declared.standing.Turn.TheVariants.{Differs, Goes}
use Rattle.run_watch.specs.declared.standing.Begun.{Begun}
use Rattle.run_watch.specs.declared.standing.Other.{Other}
use Rattle.run_watch.specs.Comparing.{IsFirstDifference, IsFirstOtherStated}
use Rattle.run_watch.specs.Watch.{IsWatchOf, IsCycleOfWatch}
use Rattle.run_watch.specs.Turns.{IsBegun, mapped_or, DiffersFirst, NoneFails, IsLast, IsTurnOf, IsFirstOther, IsOtherOf, place_in}
use Rattle.run_watch.proofs.Lists.{get_within, mapped_at, read_at}
use Rattle.run_watch.proofs.Linked.{start_shown, commit_shown, state_shown, inputs_shown, bound_is}
use Rattle.run_watch.proofs.Judged.{first_other, none_stated, initial_inside, initial_at_end, differs_at_end, quiet_at_end, quiet_differs, quiet_goes, no_step_first, bound_first, started_differs, committed, far, started_ends, started_goes, bound_passed}

-- what a condition of the last cycle is, by its test
abbrev pub IsTest : Mapped → Cycle → Bool → ℕ → Type 0
IsTest e c b id = (rs is : List Value) → HasRun e.parts c rs is → b ≡ as_truth (value_in e.parts rs is id)

-- what terms are worth in the last cycle
abbrev pub AreWorths : Mapped → Cycle → List Value → List ℕ → Type 0
AreWorths e c ys ids = (rs is : List Value) → HasRun e.parts c rs is → ys ≡ map (value_in e.parts rs is) ids

-- how the instruction at a place ends, as the code has read it
pub ending_at : (x : MappedDesign) (j : ℕ) (i : code_instruction.MappedInstruction) → j < length (mapped_of x).instructions → i ≡ get_or x.instructions.items j i
    → slice_get (mapped_of x).instructions j ≡ Some (instruction_view i)
ending_at x j i less is =
    let items = x.instructions.items in
    mapped_at instruction_view items j i (read_at items j i (omega (arith, less, length-map items instruction_view)) is)

-- an instruction that starts has its end
pub started_there : (m : Model) (e : Mapped) (a w : Valuation) (j : ℕ) → IsSortedFor m e → IsStarted m a w j → j < length e.instructions
started_there m e a w j sorted x =
    let l = get_within (instructions_in m.top) j x.alone.i x.alone.is_j in
    omega (arith, l, sorted.instructions)

-- A mapped state that is another one than the model's is a state of the model.
pub other_differs : (m : Model) (q a : List Value) (o : Option Other) → IsStateOf m a → IsOtherOf q a o → DiffersFirst m q o
other_differs m q a None of_model h = tt
other_differs m q a (Some o) of_model h =
    (subst (IsStateOf m) (sym h.0) of_model, subst (λ ys. IsFirstDifference ys q (Some o.place)) (sym h.0) h.1)

pub other_mapped : (q a : List Value) (o : Option Other) → IsOtherOf q a o → mapped_or q o ≡ a
other_mapped q a None h = sym h
other_mapped q a (Some o) h = h.0

module _ (m : Model) (e : Mapped) (c : Cycle) (t : ℕ) (x : Values) (s : Setting) (run : Run) (cycles : ℕ)
    (apart : HasDistinctNames (sorts_of_states (states_of m.top))) (z : IsCycleOfWatch m e c t x s run cycles) where
  here : IsWatchOf m e x s run cycles
  here = z.watch

  -- ---- what is read

  pub state_read : (a : List Value) → AreWorths e c a e.states → state_valuation m a ≡ state_at s run t
  state_read a worths =
      subst (λ (n : Model). state_valuation n a ≡ state_at s run t) here.model
      (ap (state_valuation s.model) (worths (registers_at e.parts x t) (x.inputs t) z.ran) ∙ state_shown m e x s run cycles here t z.within z.inputs)

  inputs_read : (ws : List Value) → t < cycles → AreWorths e c ws e.inputs → input_valuation m ws ≡ inputs_at s run t
  inputs_read ws less worths =
      subst (λ (n : Model). input_valuation n ws ≡ inputs_at s run t) here.model
      (ap (input_valuation s.model) (worths (registers_at e.parts x t) (x.inputs t) z.ran) ∙ inputs_shown m e x s run cycles here t less)

  starts_read : (b : Bool) → t < cycles → IsTest e c b e.start → b ≡ true → StartsAt s run t
  starts_read b less test yes_b = (start_shown m e x s run cycles here t less).1 (sym (test (registers_at e.parts x t) (x.inputs t) z.ran) ∙ yes_b)

  quiet_read : (b : Bool) → t < cycles → IsTest e c b e.start → b ≡ false → ¬ StartsAt s run t
  quiet_read b less test no_b starts =
      false≢true (sym no_b ∙ (test (registers_at e.parts x t) (x.inputs t) z.ran ∙ (start_shown m e x s run cycles here t less).0 starts))

  module _ (j : ℕ) (i : MappedInstruction) (at : slice_get e.instructions j ≡ Some i) where
    commits_read : (b : Bool) → t < cycles → IsTest e c b i.commit → b ≡ true → CommitsAt s run j t
    commits_read b less test yes_b = (commit_shown m e x s run cycles here j t i less at).1 (sym (test (registers_at e.parts x t) (x.inputs t) z.ran) ∙ yes_b)

    open_read : (b : Bool) → t < cycles → IsTest e c b i.commit → b ≡ false → ¬ CommitsAt s run j t
    open_read b less test no_b commits =
        false≢true (sym no_b ∙ (test (registers_at e.parts x t) (x.inputs t) z.ran ∙ (commit_shown m e x s run cycles here j t i less at).0 commits))

  -- ---- the end of a run

  low : t < e.reset_cycles → t < s.map.reset_cycles
  low l = omega (arith, l, z.watch.mapped.reset_cycles)

  at_reset : ¬ (t < e.reset_cycles) → t ≤ s.map.reset_cycles → t ≡ s.map.reset_cycles
  at_reset not le = omega (arith, not, le, z.watch.mapped.reset_cycles)

  pub last_reset : t < e.reset_cycles → IsLast s run t None
  last_reset l = reset_quiet_at_end s run t (low l)

  pub last_initial : (a : List Value) (k : ℕ) → IsStateOf m a → AreWorths e c a e.states → ¬ (t < e.reset_cycles) → IsWatchedTo s run t position.in_reset
      → IsFirstOtherStated (states_of m.top) a (Some k) → IsLast s run t (Some (InitialValue k))
  last_initial a k of_model worths not w h = initial_at_end m s run t here.model apart a of_model (state_read a worths) k (at_reset not w.stands) h

  pub last_stated : (a : List Value) → IsStateOf m a → AreWorths e c a e.states → ¬ (t < e.reset_cycles) → IsWatchedTo s run t position.in_reset
      → IsFirstOtherStated (states_of m.top) a None → IsLast s run t None
  last_stated a of_model worths not w h =
      quiet_at_end s run t 0 (state_at s run t)
      (idle_after_reset s run t w (at_reset not w.stands) (none_stated m s run t here.model apart a of_model (state_read a worths) h)) (λ k d there. refl)

  pub last_other : (a q : List Value) (n k : ℕ) → IsStateOf m a → IsStateOf m q → AreWorths e c a e.states → IsWatchedTo s run t (idle n (state_valuation m q))
      → IsFirstDifference a q (Some k) → IsLast s run t (Some (OtherState k))
  last_other a q n k of_model of_q worths w h =
      differs_at_end s run t n (state_valuation m q) (idle_later s run t n (state_valuation m q) w) k
      (first_other m s run t here.model apart a of_model (state_read a worths) q (Some k) of_q h)

  pub last_same : (a q : List Value) (n : ℕ) → IsStateOf m a → IsStateOf m q → AreWorths e c a e.states → IsWatchedTo s run t (idle n (state_valuation m q))
      → IsFirstDifference a q None → IsLast s run t None
  last_same a q n of_model of_q worths w h =
      quiet_at_end s run t n (state_valuation m q) (idle_later s run t n (state_valuation m q) w)
      (first_other m s run t here.model apart a of_model (state_read a worths) q None of_q h)

  pub last_running : (n b j : ℕ) (r : Valuation) → IsWatchedTo s run t (running n b j r) → IsLast s run t None
  last_running n b j r w = running_quiet_at_end s run t n b j r w.stands

  -- ---- a cycle at which no premise fails

  module _ (less : t < cycles) (none : NoneFails s run t) where
    counted : (n : ℕ) (r : List Value) → IsWatchedTo s run (suc t) (idle (suc n) (state_valuation m r)) → IsTurnOf m s run t (Goes (Idle (n + 1) r))
    counted n r w = subst (λ k. IsWatchedTo s run (suc t) (idle k (state_valuation m r))) (sym (add-one n)) w

    pub follow_reset : t < e.reset_cycles → IsWatchedTo s run t position.in_reset → IsTurnOf m s run t (Goes Reset)
    follow_reset l w = reset_on s run t w (low l) none

    pub follow_initial : (a : List Value) (k : ℕ) → IsStateOf m a → AreWorths e c a e.states → ¬ (t < e.reset_cycles) → IsWatchedTo s run t position.in_reset
        → IsFirstOtherStated (states_of m.top) a (Some k) → IsTurnOf m s run t (Differs (InitialValue k))
    follow_initial a k of_model worths not w h = initial_inside m s run t here.model apart a of_model (state_read a worths) k (at_reset not w.stands) h

    pub idle_at_reset : (a : List Value) → IsStateOf m a → AreWorths e c a e.states → ¬ (t < e.reset_cycles) → IsWatchedTo s run t position.in_reset
        → IsFirstOtherStated (states_of m.top) a None → IsIdleAt s run t 0 (state_valuation m a)
    idle_at_reset a of_model worths not w h =
        subst (λ (v : Valuation). IsIdleAt s run t 0 v) (sym (state_read a worths))
        (idle_after_reset s run t w (at_reset not w.stands) (none_stated m s run t here.model apart a of_model (state_read a worths) h))

    -- ---- inside a command

    module _ (n b j : ℕ) (r : List Value) (i : MappedInstruction) (at : slice_get e.instructions j ≡ Some i)
        (w : IsWatchedTo s run t (running n b j (state_valuation m r))) where
      pub inside_ends : (test : Bool) → IsTest e c test i.commit → test ≡ true → IsTurnOf m s run t (Goes (Idle (n + 1) r))
      inside_ends test is yes_test = counted n r (command_ends s run t n b j (state_valuation m r) w none (commits_read j i at test less is yes_test))

      same_bound : i.bound ≡ w.stands.entry.bound
      same_bound = bound_is m e x s run cycles here j i w.stands.entry at w.stands.is_entry

      pub inside_past : (test : Bool) → IsTest e c test i.commit → test ≡ false → suc t ≡ b + i.bound → IsTurnOf m s run t (Differs (PastBound j))
      inside_past test is no_test last =
          bound_passed s run t n b j (state_valuation m r) w (omega (arith, last, same_bound)) (open_read j i at test less is no_test)

      pub inside_goes : (test : Bool) → IsTest e c test i.commit → test ≡ false → suc t ≢ b + i.bound → IsTurnOf m s run t (Goes (Running n b j r))
      inside_goes test is no_test more =
          command_goes_on s run t n b j (state_valuation m r) w none (open_read j i at test less is no_test) (λ last. more (omega (arith, last, same_bound)))

    -- ---- a command that begins

    module _ (n : ℕ) (q : Valuation) (a : IsIdleAt s run t n q) (j : ℕ) (r : List Value) (i : MappedInstruction) (at : slice_get e.instructions j ≡ Some i)
        (starts : StartsAt s run t) (is_command : IsCommandOf s run t j) (steps : Steps s.model q (inputs_at s run t) (state_valuation m r)) where
      -- the entry of the map
      record HasEntry : Type 0 where
        entry : InstructionMap
        is_entry : IsMapEntry s j entry
        above : 1 ≤ entry.bound
        same : i.bound ≡ entry.bound

      its_entry : HasEntry
      its_entry =
          let o = is_command.alone in
          let found = here.complete j o.i o.is_j in
          let entry : IsMapEntry s j found.0 = (o.i, o.is_j, found.1) in
          record { entry = found.0; is_entry = entry; above = found.2; same = bound_is m e x s run cycles here j i found.0 at entry }

      pub begins_past : (test : Bool) → IsTest e c test i.commit → test ≡ false → i.bound ≡ 1 → IsTurnOf m s run t (Differs (PastBound j))
      begins_past test is no_test one =
          let y = its_entry in
          bound_first s run t n q a j (state_valuation m r) starts is_command steps y.entry y.is_entry (sym y.same ∙ one) (open_read j i at test less is no_test)

      pub begins_other : (test : Bool) (k : ℕ) → IsTest e c test i.commit → (test ≡ true) ⊎ (i.bound ≢ 1) → IsFirstOther s run t q (Some k)
          → IsTurnOf m s run t (Differs (OtherState k))
      begins_other test k is (inl yes_test) h =
          started_differs s run t n q a j (state_valuation m r) starts is_command steps k h
          (committed s run t n q a j (state_valuation m r) starts is_command steps (commits_read j i at test less is yes_test))
      begins_other test k is (inr more) h =
          let y = its_entry in
          started_differs s run t n q a j (state_valuation m r) starts is_command steps k h
          (far s run t n q a j (state_valuation m r) starts is_command steps y.entry y.is_entry (λ one. more (y.same ∙ one)))

      pub begins_ends : (test : Bool) → IsTest e c test i.commit → test ≡ true → IsFirstOther s run t q None → IsTurnOf m s run t (Goes (Idle (n + 1) r))
      begins_ends test is yes_test h =
          counted n r (started_ends s run t n q a j (state_valuation m r) starts is_command steps none h (commits_read j i at test less is yes_test))

      pub begins_goes : (test : Bool) → IsTest e c test i.commit → test ≡ false → i.bound ≢ 1 → IsFirstOther s run t q None → IsTurnOf m s run t (Goes (Running n t j r))
      begins_goes test is no_test more h =
          let y = its_entry in
          started_goes s run t n q a j (state_valuation m r) starts is_command steps y.entry y.is_entry y.above (λ one. more (y.same ∙ one)) none h
          (open_read j i at test less is no_test)

    -- ---- an idle cycle

    module _ (n : ℕ) (q : List Value) (o : Option Other) (of_q : IsStateOf m q) (differs : DiffersFirst m q o) (a : IsIdleAt s run t n (state_valuation m q))
        (seen : state_valuation m (mapped_or q o) ≡ state_at s run t) where
      pub other_seen : IsFirstOther s run t (state_valuation m q) (place_in o)
      other_seen = by_other o differs seen
        where
          by_other : (o' : Option Other) → DiffersFirst m q o' → state_valuation m (mapped_or q o') ≡ state_at s run t
              → IsFirstOther s run t (state_valuation m q) (place_in o')
          by_other None d e = λ k y there. sym (ap (λ (v : Valuation). v y.state_name) e)
          by_other (Some y) d e = first_other m s run t here.model apart y.mapped d.0 e q (Some y.place) of_q d.1

      pub idle_other : (test : Bool) (k : ℕ) → IsTest e c test e.start → test ≡ false → place_in o ≡ Some k → IsTurnOf m s run t (Differs (OtherState k))
      idle_other test k is no_test place =
          quiet_differs s run t n (state_valuation m q) a k (quiet_read test less is no_test)
          (subst (λ p. IsFirstOther s run t (state_valuation m q) p) place other_seen)

      pub idle_goes : (test : Bool) → IsTest e c test e.start → test ≡ false → place_in o ≡ None → IsTurnOf m s run t (Goes (Idle n q))
      idle_goes test is no_test place =
          quiet_goes s run t n (state_valuation m q) a (quiet_read test less is no_test) none
          (subst (λ p. IsFirstOther s run t (state_valuation m q) p) place other_seen)

      abbrev IsBegunAt : Valuation → Valuation → Model → Option Begun → Type 0
      IsBegunAt v w n' None = ¬ (((j : ℕ) × IsStarted n' v w j) × ((r : Valuation) × Steps n' (state_valuation m q) w r))
      IsBegunAt v w n' (Some b) = IsStarted n' v w b.instruction × Steps n' (state_valuation m q) w (state_valuation m b.next)

      begun_at : (ws : List Value) (b : Option Begun) → AreWorths e c ws e.inputs
          → IsBegun m (state_valuation m (mapped_or q o)) (state_valuation m q) (input_valuation m ws) b → IsBegunAt (state_at s run t) (inputs_at s run t) s.model b
      begun_at ws b worths h =
          subst (λ (n' : Model). IsBegunAt (state_at s run t) (inputs_at s run t) n' b) (sym here.model)
          (subst (λ (w : Valuation). IsBegunAt (state_at s run t) w m b) (inputs_read ws less worths)
          (subst (λ (v : Valuation). IsBegunAt v (input_valuation m ws) m b) seen (weaker b h)))
        where
          weaker : (b' : Option Begun) → IsBegun m (state_valuation m (mapped_or q o)) (state_valuation m q) (input_valuation m ws) b'
              → IsBegunAt (state_valuation m (mapped_or q o)) (input_valuation m ws) m b'
          weaker None g = g
          weaker (Some y) g = (g.0, g.1)

      pub idle_stuck : (test : Bool) (ws : List Value) → IsTest e c test e.start → test ≡ true → AreWorths e c ws e.inputs
          → IsBegun m (state_valuation m (mapped_or q o)) (state_valuation m q) (input_valuation m ws) None → IsTurnOf m s run t (Differs NoStep)
      idle_stuck test ws is yes_test worths h =
          no_step_first s run t n (state_valuation m q) a (starts_read test less is yes_test) (begun_at ws None worths h)

      pub idle_begun : (ws : List Value) (b : Begun) → AreWorths e c ws e.inputs
          → IsBegun m (state_valuation m (mapped_or q o)) (state_valuation m q) (input_valuation m ws) (Some b)
          → IsCommandOf s run t b.instruction × Steps s.model (state_valuation m q) (inputs_at s run t) (state_valuation m b.next)
      idle_begun ws b worths h = begun_at ws (Some b) worths h

      pub idle_starts : (test : Bool) → IsTest e c test e.start → test ≡ true → StartsAt s run t
      idle_starts test is yes_test = starts_read test less is yes_test
