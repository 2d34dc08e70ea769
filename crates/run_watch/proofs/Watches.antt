-- A whole watch: its cycles one after the other, and its answer.
use Rattle.std.proofs.Common.{◌≡◌, ◌∙◌, ℕ, zero, suc, ◌+◌, ◌<◌, Bool, List, [], ◌∷◌, length, slice_get, ◌⊎◌, inl, inr, Option, Some, None, option_map, refl, sym, ap, subst, arith, add-one}
use Rattle.wb_values.specs.Value.{Value}
use Rattle.model_meaning.specs.Model.{Model, states_of}
use Rattle.refinement.specs.Map.{Setting}
use Rattle.refinement.specs.Run.{Run}
use Rattle.refinement.specs.Refinement.{state_at, HasState}
use Rattle.wb_terms.specs.Graph.{HasDistinctNames}
use Rattle.ila_child.specs.State.{sorts_of_states, state_valuation}
use Rattle.v_design.specs.declared.values.Registers.{Registers}
use Rattle.v_design.specs.declared.values.Inputs.{Inputs}
use Rattle.v_design.specs.Parts.{Parts, registers_after}
use Rattle.v_design.specs.Seen.{input_values}
use Rattle.v_cycle.specs.declared.cycle.Cycle.{Cycle}
use Rattle.v_cycle.specs.Running.{HasRun}
use Rattle.mapped_designs.specs.Mapped.{Mapped}
use Rattle.mapped_designs.specs.Runs.{Values, registers_at, zero_inputs}
use Rattle.watched_runs.specs.Watched.{IsWatched, disagrees, HasEnded}
use Rattle.watch_laws.specs.Positions.{IsWatchedTo}
use Rattle.watch_laws.specs.Positions as position
use Rattle.watch_laws.proofs.Idle.{compared}
use Rattle.watch_laws.proofs.Watching.{disagreeing, disagreeing_inside, leaving, agreeing, ends_at, ends_at_last, ended_in_reset, ended_at_idle, ended_running}
use Rattle.run_watch.specs.declared.answers.Premise as code_premise
use Rattle.run_watch.specs.declared.answers.Disagreement as code_disagreement
use Rattle.run_watch.specs.declared.answers.Watched.TheVariants.{Agrees, Outside}
use Rattle.run_watch.specs.declared.standing.WatchPosition as code_position
use Rattle.run_watch.specs.declared.standing.WatchPosition.TheVariants.{Reset, Idle, Running}
use Rattle.run_watch.specs.declared.standing.Turn.{Turn}
use Rattle.run_watch.specs.declared.standing.Turn.TheVariants.{Differs, Goes}
use Rattle.run_watch.specs.View.{inputs_among, values_of_script, premise_of, disagreement_of, watched_of}
use Rattle.run_watch.specs.Failing.{holding, failing_at}
use Rattle.run_watch.specs.Watch.{IsWatchOf, IsCycleOfWatch}
use Rattle.run_watch.specs.Turns.{IsPosition, position_of, NoneFails, IsFailure, IsLast, IsTurnOf, IsSoundTurn, is_running_in, ended_by, answer_at}
use Rattle.run_watch.proofs.Lists.{some_same}
use Rattle.run_watch.proofs.Names.{states_named}
use Rattle.run_watch.proofs.Failures.{fails_first}

-- ---- inputs of a script

pub inputs_there : (d : Parts) (is : List Inputs) (k : ℕ) (i : Inputs) → k < length is → slice_get is k ≡ Some i → inputs_among d is k ≡ input_values i
inputs_there d [] k i less at = absurd (omega (arith, less))
inputs_there d (j ∷ is) zero i less at = ap input_values (some_same at)
inputs_there d (j ∷ is) (suc k) i less at = inputs_there d is k i (omega (arith, less)) at

pub inputs_after : (d : Parts) (is : List Inputs) → inputs_among d is (length is) ≡ zero_inputs d
inputs_after d [] = refl
inputs_after d (j ∷ is) = inputs_after d is

-- ---- cycles

module _ (e : Mapped) (r : Registers) (is : List Inputs) where
  abbrev script : Values
  script = values_of_script e.parts r is

  -- the registers of the next cycle
  pub next_registers : (k : ℕ) (i : Inputs) (before after : List Value) → k < length is → slice_get is k ≡ Some i → before ≡ registers_at e.parts script k
      → after ≡ registers_after e.parts before (input_values i) → after ≡ registers_at e.parts script (k + 1)
  next_registers k i before after less at was now =
      now
      ∙ (ap (λ rs. registers_after e.parts rs (input_values i)) was
      ∙ (ap (registers_after e.parts (registers_at e.parts script k)) (sym (inputs_there e.parts is k i less at))
      ∙ ap (registers_at e.parts script) (sym (add-one k))))

  module _ (m : Model) (s : Setting) (run : Run) (w : IsWatchOf m e script s run (length is)) where
    -- a cycle of the run
    pub cycle_there : (c : Cycle) (k : ℕ) (i : Inputs) (before : List Value) → k < length is → slice_get is k ≡ Some i → before ≡ registers_at e.parts script k
        → HasRun e.parts c before (input_values i) → IsCycleOfWatch m e c k script s run (length is)
    cycle_there c k i before less at was ran = record {
      watch = w;
      within = omega (arith, less);
      ran = subst (λ ys. HasRun e.parts c (registers_at e.parts script k) ys) (sym (inputs_there e.parts is k i less at))
          (subst (λ rs. HasRun e.parts c rs (input_values i)) was ran);
      inputs = inl less;
    }

    -- the cycle after the last
    pub cycle_after : (c : Cycle) (k : ℕ) (i : Inputs) (before : List Value) → k ≡ length is → before ≡ registers_at e.parts script k
        → input_values i ≡ zero_inputs e.parts → HasRun e.parts c before (input_values i) → IsCycleOfWatch m e c k script s run (length is)
    cycle_after c k i before same was zeros ran =
        let there : script.inputs k ≡ zero_inputs e.parts = subst (λ j. script.inputs j ≡ zero_inputs e.parts) (sym same) (inputs_after e.parts is) in
        record {
          watch = w;
          within = omega (arith, same);
          ran = subst (λ ys. HasRun e.parts c (registers_at e.parts script k) ys) (zeros ∙ sym there)
              (subst (λ rs. HasRun e.parts c rs (input_values i)) was ran);
          inputs = inr there;
        }

-- The premise that fails at a cycle, as the code finds it.
pub failure_at : (m : Model) (e : Mapped) (x : Values) (s : Setting) (run : Run) (cycles : ℕ) (c : Cycle) (t : ℕ) (p : code_position.WatchPosition) (inside : Bool)
    (o : Option code_premise.Premise) → IsCycleOfWatch m e c t x s run cycles → t < cycles → IsWatchedTo s run t (position_of m p) → inside ≡ is_running_in p
    → ((rs is : List Value) → HasRun e.parts c rs is → option_map premise_of o ≡ failing_at e (holding e.parts rs is) t inside) → IsFailure s run t o
failure_at m e x s run cycles c t p inside o z less at same told =
    fails_first m e x s run cycles z.watch t less p o at.stands
    (told (registers_at e.parts x t) (x.inputs t) z.ran ∙ ap (failing_at e (holding e.parts (registers_at e.parts x t) (x.inputs t)) t) same)

-- The watch goes on to the next cycle.
pub position_on : (m : Model) (e : Mapped) (k : ℕ) (p : code_position.WatchPosition) (o : Turn) → IsSoundTurn m e k o → o ≡ Goes p → IsPosition m e (k + 1) p
position_on m e k p o sound is = subst (λ j. IsPosition m e j p) (sym (add-one k)) (subst (IsSoundTurn m e k) is sound)

pub watched_on : (m : Model) (s : Setting) (run : Run) (k : ℕ) (p : code_position.WatchPosition) (o : Turn) → IsTurnOf m s run k o → o ≡ Goes p
    → IsWatchedTo s run (k + 1) (position_of m p)
watched_on m s run k p o turn is = subst (λ j. IsWatchedTo s run j (position_of m p)) (sym (add-one k)) (subst (IsTurnOf m s run k) is turn)

-- ---- answers

module _ (m : Model) (e : Mapped) (x : Values) (s : Setting) (run : Run) (cycles : ℕ) (apart : HasDistinctNames (sorts_of_states (states_of m.top)))
    (w : IsWatchOf m e x s run cycles) where
  named : HasDistinctNames (sorts_of_states (states_of s.model.top))
  named = subst (λ (n : Model). HasDistinctNames (sorts_of_states (states_of n.top))) (sym w.model) apart

  pub leaves : (t : ℕ) (p : code_premise.Premise) (last : Option code_disagreement.Disagreement) (z : position.WatchPosition) → t < cycles → IsWatchedTo s run t z
      → IsFailure s run t (Some p) → IsLast s run t last → IsWatched s run cycles (watched_of (answer_at t last (Outside t p)))
  leaves t p None z less at fails quiet = leaving s run cycles t (premise_of p) w.complete less at.premises fails at.agrees quiet
  leaves t p (Some d) z less at fails first =
      disagreeing s run cycles t t (disagreement_of d) (states_named s.model named) (ends_at s run cycles t (premise_of p) less at.premises fails) at.agrees first.now first.first

  pub differs : (t : ℕ) (d : code_disagreement.Disagreement) (z : position.WatchPosition) → t < cycles → IsWatchedTo s run t z → NoneFails s run t
      → IsTurnOf m s run t (Differs d) → IsWatched s run cycles (disagrees t (disagreement_of d))
  differs t d z less at none first =
      disagreeing_inside s run cycles t (disagreement_of d) (states_named s.model named) less at.premises none at.agrees first.now first.first

  has_ended : (p : code_position.WatchPosition) → IsWatchedTo s run cycles (position_of m p) → HasEnded s run cycles (ended_by p)
  has_ended Reset at = by_place (compared cycles s.map.reset_cycles)
    where
      by_place : (cycles < s.map.reset_cycles) ⊎ ((s.map.reset_cycles < cycles) ⊎ (cycles ≡ s.map.reset_cycles)) → HasEnded s run cycles 0
      by_place (inl less) = ended_in_reset s run cycles less
      by_place (inr (inl more)) = let le = at.stands in absurd (omega (arith, le, more))
      by_place (inr (inr same)) =
          ended_at_idle s run cycles 0 (state_at s run cycles)
          (subst (λ k. HasState s run k 0 (state_at s run k) k) (sym same) (HasState.after_reset (omega arith)))
  has_ended (Idle n q) at = ended_at_idle s run cycles n (state_valuation m q) at.stands.1
  has_ended (Running n b j r) at = ended_running s run cycles n b j (state_valuation m r) at.stands

  pub ends : (t : ℕ) (p : code_position.WatchPosition) (last : Option code_disagreement.Disagreement) → t ≡ cycles → IsWatchedTo s run t (position_of m p) → IsLast s run t last
      → IsWatched s run cycles (watched_of (answer_at t last (Agrees (ended_by p))))
  ends t p last same at found =
      subst (λ k. IsWatched s run cycles (watched_of (answer_at k last (Agrees (ended_by p))))) (sym same)
      (by_last last (subst (λ k. IsWatchedTo s run k (position_of m p)) same at) (subst (λ k. IsLast s run k last) same found))
    where
      by_last : (o : Option code_disagreement.Disagreement) → IsWatchedTo s run cycles (position_of m p) → IsLast s run cycles o
          → IsWatched s run cycles (watched_of (answer_at cycles o (Agrees (ended_by p))))
      by_last None there quiet = agreeing s run cycles (ended_by p) w.complete there.premises there.agrees quiet (has_ended p there)
      by_last (Some d) there first =
          disagreeing s run cycles cycles cycles (disagreement_of d) (states_named s.model named) (ends_at_last s run cycles there.premises) there.agrees first.now first.first
