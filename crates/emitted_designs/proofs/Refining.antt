-- Runs of emitted designs of models without child programs refine their models.
use Rattle.std.proofs.Common.{◌≡◌, ℕ, zero, suc, ◌<◌, ◌≤◌, ◌⊎◌, inl, inr, Bool, true, false, cond, nat_lt, arith, List, [], ◌∷◌, map, Option, Some, None, refl, sym, ◌∙◌, ap, subst}
use Rattle.std.specs.Prelude.{is_some, slice_get}
use Rattle.std.proofs.lemmas.Bool.{false≢true}
use mathlib.Core.Path.{fun_ext}
use Rattle.wb_values.specs.Value.{Name, same_name, number, Valuation, entry_of}
use Rattle.model_meaning.specs.Model.{Model, StateDeclaration, Instruction, instruction_name, states_of, state_named, instructions_in}
use Rattle.model_meaning.specs.Instruction.{Steps, own_states}
use Rattle.model_meaning.specs.Invariant.{IsModel}
use Rattle.model_meaning.proofs.OneResult.{one_next_state}
use Rattle.verilog_trees.specs.Syntax.{Module}
use Rattle.verilog_meaning.specs.Settled.{whole_name}
use Rattle.refinement.specs.Map.{Setting, InstructionMap, instruction_map, mapped_or_zero, sort_of_state}
use Rattle.refinement.specs.Run.{Run, HoldsAt, IsResetAt, IsFromReset}
use Rattle.refinement.specs.Refinement.{state_at, inputs_at, StartsAt, IsCommandOf, IsMapEntry, CommitsAt, EndsAt, HasState, HasOneInFlight, Refines}
use Rattle.emitted_designs.specs.Names.{commit_name}
use Rattle.emitted_designs.specs.Bounds.{nesting_of}
use Rattle.emitted_designs.specs.Map.{emitted_map, entry_for, setting_of}
use Rattle.emitted_designs.specs.MicroStep.{entered_by, begun}
use Rattle.emitted_designs.specs.Cycles.{HasCommitAt, IsAtRest, start_point, held_value, held_point, HoldPoint, IsStartOf, EdgeLeads, AreRunning, EndsIn, FollowsModel}
use Rattle.emitted_designs.specs.Laws.{EmittedRunsRefine}
use Rattle.emitted_designs.proofs.Named.{same_of, state_entry, found_among_all, no_input}
use Rattle.emitted_designs.proofs.Childless.{in_machine, enters_none, steps_to_begun, some_cycle}

-- what is known of the model and of the run
pub record Known (m : Model) (x : Module) (run : Run) (cycles : ℕ) : Type 0 where
  pub is_model : IsModel m
  pub childless : nesting_of m.top ≡ 0
  pub follows : FollowsModel (setting_of m x) run cycles

-- ---- entries of instructions

pub entry_facts : (is : List Instruction) (n : Name) (e : InstructionMap) → instruction_map (map entry_for is) n ≡ Some e
    → (e.commit ≡ whole_name commit_name) × (1 ≤ e.bound)
entry_facts [] n e h = cc
entry_facts (i ∷ is) n e h = by_test (λ f. entry_facts is n e f) (same_name (instruction_name i) n) h
  where
    by_test : (instruction_map (map entry_for is) n ≡ Some e → (e.commit ≡ whole_name commit_name) × (1 ≤ e.bound)) → (b : Bool)
        → cond b (Some (entry_for i)) (instruction_map (map entry_for is) n) ≡ Some e → (e.commit ≡ whole_name commit_name) × (1 ≤ e.bound)
    by_test more true f =
        let same : entry_for i ≡ e = cc in subst (λ k. (k.commit ≡ whole_name commit_name) × (1 ≤ k.bound)) same (refl, some_cycle i)
    by_test more false f = more f

abbrev pub HasEntry : List Instruction → Name → Type 0
HasEntry is n = (e : InstructionMap) × (instruction_map (map entry_for is) n ≡ Some e)

under_head : (i : Instruction) (is : List Instruction) (n : Name) → HasEntry is n → HasEntry (i ∷ is) n
under_head i is n h = by_test (same_name (instruction_name i) n)
  where
    by_test : (b : Bool) → (e : InstructionMap) × (cond b (Some (entry_for i)) (instruction_map (map entry_for is) n) ≡ Some e)
    by_test true = (entry_for i, refl)
    by_test false = h

at_head : (i : Instruction) (is : List Instruction) → HasEntry (i ∷ is) (instruction_name i)
at_head i is = by_test (same_name (instruction_name i) (instruction_name i)) refl
  where
    by_test : (b : Bool) → same_name (instruction_name i) (instruction_name i) ≡ b
        → (e : InstructionMap) × (cond b (Some (entry_for i)) (instruction_map (map entry_for is) (instruction_name i)) ≡ Some e)
    by_test true same = (entry_for i, refl)
    by_test false other = absurd (false≢true (sym other ∙ same_of (instruction_name i) (instruction_name i) refl))

pub has_entry : (is : List Instruction) (j : ℕ) (i : Instruction) → slice_get is j ≡ Some i → HasEntry is (instruction_name i)
has_entry [] j i h = cc
has_entry (k ∷ is) zero i h = let same : k ≡ i = cc in subst (λ x. HasEntry (k ∷ is) (instruction_name x)) same (at_head k is)
has_entry (k ∷ is) (suc j) i h = under_head k is (instruction_name i) (has_entry is j i h)

-- ---- states in registers

module _ (m : Model) (x : Module) (run : Run) where
  abbrev s : Setting
  s = setting_of m x

  -- The mapped state is what the register of its name holds.
  state_held : (t : ℕ) (n : Name) (d : StateDeclaration) → state_named (states_of m.top) n ≡ Some d → state_at s run t n ≡ held_point s run t n
  state_held t n d e =
      ap (λ o. mapped_or_zero s (run.valuations t) (sort_of_state o) (entry_of (emitted_map m).states n)) e
      ∙ (ap (λ o. mapped_or_zero s (run.valuations t) (Some d.sort) o) (state_entry (states_of m.top) n d e)
      ∙ sym (ap (λ o. held_value s (run.valuations t) o n) (found_among_all m n d e)))

  -- Other names are 0.
  no_state : (t : ℕ) (n : Name) → state_named (states_of m.top) n ≡ None → state_at s run t n ≡ number 0
  no_state t n e = ap (λ o. mapped_or_zero s (run.valuations t) (sort_of_state o) (entry_of (emitted_map m).states n)) e

  -- The mapped state is that of a point which the registers hold.
  own_of : (t : ℕ) (p : Valuation) → HoldPoint s run t [] p → state_at s run t ≡ own_states m p
  own_of t p held = fun_ext (λ n. by_state n (state_named (states_of m.top) n) refl)
    where
      by_state : (n : Name) (o : Option StateDeclaration) → state_named (states_of m.top) n ≡ o → state_at s run t n ≡ own_states m p n
      by_state n (Some d) e =
          state_held t n d e ∙ (held n (ap is_some e) ∙ sym (ap (λ b. cond b (p n) (number 0)) (ap is_some e)))
      by_state n None e = no_state t n e ∙ sym (ap (λ b. cond b (p n) (number 0)) (ap is_some e))

  -- The states of a start's point are the mapped state.
  own_start : IsModel m → (t : ℕ) → own_states m (start_point s run t) ≡ state_at s run t
  own_start is_model t = fun_ext (λ n. by_state n (state_named (states_of m.top) n) refl)
    where
      by_state : (n : Name) (o : Option StateDeclaration) → state_named (states_of m.top) n ≡ o
          → own_states m (start_point s run t) n ≡ state_at s run t n
      by_state n (Some d) e =
          ap (λ b. cond b (start_point s run t n) (number 0)) (ap is_some e)
          ∙ ap (λ b. cond b (inputs_at s run t n) (state_at s run t n)) (no_input m n d is_model e)
      by_state n None e = ap (λ b. cond b (start_point s run t n) (number 0)) (ap is_some e) ∙ sym (no_state t n e)

-- ---- cycles

module _ (m : Model) (x : Module) (run : Run) (cycles : ℕ) (known : Known m x run cycles) where
  abbrev setting : Setting
  setting = setting_of m x

  rests : (t : ℕ) → IsAtRest setting run t
  rests t h = absurd (false≢true (sym (ap (λ k. nat_lt 0 k) known.childless) ∙ h))

  pub started : (t : ℕ) → t < cycles → StartsAt setting run t → (j : ℕ) × IsCommandOf setting run t j
  started t low starts = ((known.follows.start t low).0 starts).2

  none_entered : (t j : ℕ) → (h : IsCommandOf setting run t j) → entered_by h.alone.i ≡ []
  none_entered t j h = enters_none h.alone.i (in_machine m.top j h.alone.i known.childless h.alone.is_j)

  start_of : (t j : ℕ) → StartsAt setting run t → (h : IsCommandOf setting run t j) → IsStartOf setting run t h.alone.i
  start_of t j starts h = record { number = j; starts = starts; is_command = h; is_instruction = h.alone.is_j }

  -- A start is a commit.
  commit_at : (t j : ℕ) → t < cycles → StartsAt setting run t → IsCommandOf setting run t j → HasCommitAt setting run t
  commit_at t j low starts h =
      (known.follows.commit t [] low (AreRunning.at_rest t (rests t))).1 (EndsIn.at_its_start h.alone.i (start_of t j starts h) (none_entered t j h))

  pub commits_at : (t j : ℕ) → t < cycles → StartsAt setting run t → IsCommandOf setting run t j → CommitsAt setting run j t
  commits_at t j low starts h =
      let entry : HasEntry (instructions_in m.top) (instruction_name h.alone.i) = has_entry (instructions_in m.top) j h.alone.i h.alone.is_j in
      let facts : (entry.0.commit ≡ whole_name commit_name) × (1 ≤ entry.0.bound) =
      entry_facts (instructions_in m.top) (instruction_name h.alone.i) entry.0 entry.1 in
      (entry.0, (h.alone.i, h.alone.is_j, entry.1), subst (λ e. HoldsAt setting run t e) (sym facts.0) (commit_at t j low starts h))

  -- After a start the states are those of the point that the instruction begins.
  pub after_start : (t j : ℕ) → t < cycles → ¬ IsResetAt setting run t → StartsAt setting run t → (h : IsCommandOf setting run t j)
      → state_at setting run (suc t) ≡ own_states m (begun h.alone.i (start_point setting run t))
  after_start t j low inactive starts h = own_of m x run (suc t) (begun h.alone.i (start_point setting run t)) held
    where
      held : HoldPoint setting run (suc t) [] (begun h.alone.i (start_point setting run t))
      held =
          subst (λ ps. HoldPoint setting run (suc t) ps (begun h.alone.i (start_point setting run t))) (none_entered t j h)
          (known.follows.edge t [] (entered_by h.alone.i) (begun h.alone.i (start_point setting run t)) low inactive
          (AreRunning.at_rest t (rests t)) (EdgeLeads.starts h.alone.i (start_of t j starts h)))

  -- A start takes the model one step.
  stepped : (t j : ℕ) → t < cycles → ¬ IsResetAt setting run t → StartsAt setting run t → IsCommandOf setting run t j
      → Steps m (state_at setting run t) (inputs_at setting run t) (state_at setting run (suc t))
  stepped t j low inactive starts h =
      subst (λ q. Steps m (state_at setting run t) (inputs_at setting run t) q) (sym (after_start t j low inactive starts h))
      (steps_to_begun m (state_at setting run t) (inputs_at setting run t) j known.childless h)

  -- Without a start the state stays.
  pub kept : (t : ℕ) → t < cycles → ¬ IsResetAt setting run t → ¬ StartsAt setting run t → state_at setting run (suc t) ≡ state_at setting run t
  kept t low inactive quiet =
      own_of m x run (suc t) (start_point setting run t)
      (known.follows.edge t [] [] (start_point setting run t) low inactive (AreRunning.at_rest t (rests t)) (EdgeLeads.waits quiet))
      ∙ own_start m x run known.is_model t

  -- A command ends where it starts.
  ends_at_once : (t j c : ℕ) → t < cycles → StartsAt setting run t → IsCommandOf setting run t j → EndsAt setting run j t c → c ≡ t
  ends_at_once t j c low starts h end = elim cases [
    | inl later ↦ absurd (end.first t (omega arith) later (commits_at t j low starts h))
    | inr same ↦ same
  ]
    where
      cases : (t < c) ⊎ (c ≡ t)
      cases = let from : t ≤ c = end.from in grind (arith, from)

  module _ (from_reset : IsFromReset setting run cycles) where
    not_reset : (t : ℕ) → 1 ≤ t → t < cycles → ¬ IsResetAt setting run t
    not_reset t from low = from_reset.inactive t from low

    -- At an idle cycle the mapped state is the model's.
    model_state : (n t : ℕ) (q : Valuation) → HasState setting run cycles n q t → (1 ≤ t) × (state_at setting run t ≡ q)
    model_state n t q (HasState.after_reset h) = (omega arith, refl)
    model_state n t q (HasState.after_idle {n = k} {t = u} {q = p} h low quiet) =
        let before : (1 ≤ u) × (state_at setting run u ≡ p) = model_state k u p h in
        (omega (arith, before.0), kept u low (not_reset u before.0 low) quiet ∙ before.1)
    model_state n t q (HasState.after_command {n = k} {t = u} {q = p} j c r h starts is_j end low does) =
        let before : (1 ≤ u) × (state_at setting run u ≡ p) = model_state k u p h in
        let within : u < cycles = omega (arith, end.from, low) in
        let at_once : c ≡ u = ends_at_once u j c within starts is_j end in (
          omega arith,
          ap (λ v. state_at setting run (suc v)) at_once
              ∙ one_next_state m (state_at setting run u) (inputs_at setting run u) (state_at setting run (suc u)) r
              (stepped u j within (not_reset u before.0 within) starts is_j)
              (subst (λ y. Steps m y (inputs_at setting run u) r) (sym before.1) does),
        )

    one_in_flight : HasOneInFlight setting run cycles
    one_in_flight n t u idle starts after within none again =
        let low : t < cycles = omega (arith, after, within) in
        let command : (j : ℕ) × IsCommandOf setting run t j = started t low starts in
        none command.0 t command.1 (omega arith) after (commits_at t command.0 low starts command.1)

    bounded : (j : ℕ) (e : InstructionMap) → IsMapEntry setting j e → 1 ≤ e.bound
    bounded j e entry = (entry_facts (instructions_in m.top) (instruction_name entry.0) e entry.2).1

    refines : Refines setting run cycles
    refines = record {
      initial = λ h. known.follows.reset 0 h (from_reset.active 0 (omega arith) h);
      command = λ n t q state low starts.
          let at_t : (1 ≤ t) × (state_at setting run t ≡ q) = model_state n t q state in
          let command : (j : ℕ) × IsCommandOf setting run t j = started t low starts in (
            command,
            (
              state_at setting run (suc t),
              subst (λ y. Steps m y (inputs_at setting run t) (state_at setting run (suc t))) at_t.1
                  (stepped t command.0 low (not_reset t at_t.0 low) starts command.1),
            ),
          );
      ended = λ n t j c q e state starts is_j entry end low.
          let at_once : c ≡ t = ends_at_once t j c (omega (arith, end.from, low)) starts is_j end in
          let some : 1 ≤ e.bound = bounded j e entry in
          omega (arith, at_once, some);
      open_command = λ n t j q e state low starts is_j entry none. absurd (none t (omega arith) low (commits_at t j low starts is_j));
      state = λ n t q state low name known_name. ap (λ v. v name) (model_state n t q state).1;
    }

pub emitted_runs_refine : EmittedRunsRefine
emitted_runs_refine m x run cycles is_model childless emitted is_run from_reset =
    (one_in_flight m x run cycles known from_reset, refines m x run cycles known from_reset)
  where
    known : Known m x run cycles
    known = record { is_model = is_model; childless = childless; follows = emitted.runs run cycles is_run }
