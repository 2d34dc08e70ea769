-- Each run of an emitted module follows the model.
use Rattle.std.proofs.Common.{◌≡◌, ℕ, suc, ◌<◌, ◌≤◌, Bool, true, false, List, [], map, Option, Some, None, refl, sym, ◌∙◌, ap, subst, arith}
use Rattle.std.specs.Prelude.{slice_get, is_some}
use Rattle.std.proofs.lemmas.Bool.{false≢true, and_parts}
use Rattle.wb_values.specs.Value.{Name, Valuation, Entries}
use Rattle.model_meaning.specs.Term.{Term}
use Rattle.model_meaning.specs.Model as pure
use Rattle.model_meaning.specs.Model.{Machine, StateDeclaration, states_of, state_named, updated, no_child, child}
use Rattle.model_meaning.specs.Instruction.{IsInstruction}
use Rattle.ila_model.specs.declared.parts.Instruction.{Instruction}
use Rattle.ila_model.specs.declared.parts.Parts.{Parts}
use Rattle.ila_model.specs.Meaning.{update_of, instruction_of}
use Rattle.refinement.specs.Map.{Setting}
use Rattle.refinement.specs.Run.{Run, IsRun, IsResetAt}
use Rattle.refinement.specs.Refinement.{StartsAt, IsCommandOf}
use Rattle.emitted_designs.specs.Bounds.{nesting_of_instruction}
use Rattle.emitted_designs.specs.Map.{setting_of}
use Rattle.emitted_designs.specs.MicroStep.{entered_by, begun}
use Rattle.emitted_designs.specs.Cycles.{HasGoAt, HasCommitAt, IsAtRest, start_point, held_point, HoldPoint, IsStartOf, EdgeLeads, EndsIn, FollowsModel}
use Rattle.emitted_designs.proofs.Childless.{in_machine, enters_none, none_running}
use Rattle.emitted_modules.specs.Kept.{IsKept}
use Rattle.emitted_modules.specs.Module.{emitted_module}
use Rattle.emitted_modules.specs.Laws.{IsFlatModel}
use Rattle.emitted_modules.proofs.Names.{Among}
use Rattle.emitted_modules.proofs.Decoding.{one_of}
use Rattle.emitted_modules.proofs.Reading.{named_state}
use Rattle.emitted_modules.proofs.Model.{no_children}
use Rattle.emitted_modules.proofs.Facts.{model, rtl}
use Rattle.emitted_modules.proofs.Starts.{condition, decoded, goes, starts, go_read, start_read, commit_read}
use Rattle.emitted_modules.proofs.Commands.{code_got, inner, command_of, command_there, there_by_command, true_there}
use Rattle.emitted_modules.proofs.Edges.{initial_values, stays}
use Rattle.emitted_modules.proofs.Applying.{applied}

-- an instruction without a child is its updates
begun_is : (i : pure.Instruction) (called : Name) (decode : Term) (update : Entries Term) (program : pure.Child) (q : Valuation)
    → pure.instruction called decode update program ≡ i → nesting_of_instruction i ≡ 0 → begun i q ≡ updated update q
begun_is i called decode update program q same e =
    subst (λ x. begun x q ≡ updated update q) same (by_child program (subst (λ x. nesting_of_instruction x ≡ 0) (sym same) e))
  where
    by_child : (o : pure.Child) → nesting_of_instruction (pure.instruction called decode update o) ≡ 0
        → begun (pure.instruction called decode update o) q ≡ updated update q
    by_child no_child f = refl
    by_child (child steps program) f = absurd (omega (arith, f))

some_state : (o : Option StateDeclaration) → is_some o ≡ true → (d : StateDeclaration) × (o ≡ Some d)
some_state None h = absurd (false≢true h)
some_state (Some d) h = (d, refl)

module _ (name : Name) (p : Parts) (keep : ℕ → Bool) (h : IsFlatModel name p) (kept : IsKept p keep)
    (run : Run) (cycles : ℕ) (is_run : IsRun (setting_of (model name p keep h) (emitted_module name p keep)) run cycles) where
  abbrev s : Setting
  s = setting_of (model name p keep h) (emitted_module name p keep)

  rests : (t : ℕ) → IsAtRest s run t
  rests t k = absurd (false≢true (sym (no_children (model name p keep h) h.childless) ∙ k))

  within : (t : ℕ) → t < cycles → t ≤ cycles
  within t low = omega (arith, low)

  abbrev starting : (t : ℕ) → t ≤ cycles → Bool
  starting t le = starts name p keep h kept run cycles is_run t le

  -- ---- starts

  start_parts : (t : ℕ) (le : t ≤ cycles) → StartsAt s run t
      → (goes name p keep h kept run cycles is_run t le ≡ true)
      × (condition name p keep h kept run cycles is_run t le p.valid.0 ≡ true)
      × (one_of (decoded name p keep h kept run cycles is_run t le p.instructions.items) ≡ true)
  start_parts t le e =
      let a = and_parts (goes name p keep h kept run cycles is_run t le) _ (sym (start_read name p keep h kept run cycles is_run t le) ∙ e) in
      let b = and_parts (condition name p keep h kept run cycles is_run t le p.valid.0) _ a.1 in (a.0, b.0, b.1)

  start_from : (t : ℕ) → t < cycles → StartsAt s run t → HasGoAt s run t × IsAtRest s run t × ((j : ℕ) × IsCommandOf s run t j)
  start_from t low e =
      let le : t ≤ cycles = within t low in
      let parts = start_parts t le e in
      (go_read name p keep h kept run cycles is_run t le ∙ parts.0, rests t, command_there name p keep h kept run cycles is_run t le parts.1 parts.2)

  start_by : (t : ℕ) → t < cycles → HasGoAt s run t × IsAtRest s run t × ((j : ℕ) × IsCommandOf s run t j) → StartsAt s run t
  start_by t low e =
      let le : t ≤ cycles = within t low in
      start_read name p keep h kept run cycles is_run t le
      ∙ true_there (goes name p keep h kept run cycles is_run t le) _ (sym (go_read name p keep h kept run cycles is_run t le) ∙ e.0)
      (there_by_command name p keep h kept run cycles is_run t le e.2.0 e.2.1)

  starts_is : (t : ℕ) (le : t ≤ cycles) → StartsAt s run t → starting t le ≡ true
  starts_is t le e = sym (start_read name p keep h kept run cycles is_run t le) ∙ e

  starts_not : (t : ℕ) (le : t ≤ cycles) → ¬ StartsAt s run t → starting t le ≡ false
  starts_not t le no_start = by_test (starting t le) refl
    where
      by_test : (b : Bool) → starting t le ≡ b → b ≡ false
      by_test true e = absurd (no_start (start_read name p keep h kept run cycles is_run t le ∙ e))
      by_test false e = refl

  -- ---- edges

  -- what is so of the register of each state is so of each name that is held
  each_held : (t : ℕ) (q : Valuation) → ((d : StateDeclaration) → Among d (rtl name p keep h).registers → held_point s run (suc t) d.state_name ≡ q d.state_name)
      → HoldPoint s run (suc t) [] q
  each_held t q registers n is_held =
      let d = some_state (state_named (states_of (model name p keep h).top) n) is_held in
      let at = named_state (rtl name p keep h).registers n d.0 d.1 in
      subst (λ k. held_point s run (suc t) k ≡ q k) at.1 (registers d.0 at.0)

  waiting : (t : ℕ) → t < cycles → ¬ IsResetAt s run t → ¬ StartsAt s run t → HoldPoint s run (suc t) [] (start_point s run t)
  waiting t low quiet no_start =
      each_held t (start_point s run t)
      (stays name p keep h kept run cycles is_run t (within t low) low quiet (starts_not t (within t low) no_start))

  same_instruction : (t : ℕ) (le : t ≤ cycles) (j : ℕ) (c : Instruction) (i : pure.Instruction) → slice_get p.instructions.items j ≡ Some c
      → IsInstruction (model name p keep h) j i → instruction_of p.terms (inner name p keep h kept run cycles is_run t le) c ≡ i
  same_instruction t le j c i there is_j =
      let x = code_got p.terms (inner name p keep h kept run cycles is_run t le) p.instructions.items j i is_j in
      let alike : Some c ≡ Some x.0 = sym there ∙ x.1 in
      let same : c ≡ x.0 = cc in
      ap (instruction_of p.terms (inner name p keep h kept run cycles is_run t le)) same ∙ x.2

  beginning : (t : ℕ) → t < cycles → ¬ IsResetAt s run t → (i : pure.Instruction) → IsStartOf s run t i
      → HoldPoint s run (suc t) (entered_by i) (begun i (start_point s run t))
  beginning t low quiet i start =
      let le : t ≤ cycles = within t low in
      let x = command_of name p keep h kept run cycles is_run t le start.number start.is_command in
      let none : nesting_of_instruction i ≡ 0 = in_machine (model name p keep h).top start.number i h.childless start.is_instruction in
      let same : instruction_of p.terms (inner name p keep h kept run cycles is_run t le) x.0 ≡ i =
      same_instruction t le start.number x.0 i x.1.is_there start.is_instruction in
      subst (λ programs. HoldPoint s run (suc t) programs (begun i (start_point s run t))) (sym (enters_none i none))
      (subst (HoldPoint s run (suc t) []) (sym (begun_is i _ _ (map (update_of p.terms) x.0.updates.items) _ (start_point s run t) same none))
      (each_held t (updated (map (update_of p.terms) x.0.updates.items) (start_point s run t))
      (applied name p keep h kept run cycles is_run t le low start.number x.0 x.1 quiet (starts_is t le start.starts))))

  edge : (t : ℕ) (ps next : List Machine) (q : Valuation) → ps ≡ [] → t < cycles → ¬ IsResetAt s run t → EdgeLeads s run t ps next q
      → HoldPoint s run (suc t) next q
  edge t ps next q none low quiet (EdgeLeads.waits no_start) = waiting t low quiet no_start
  edge t ps next q none low quiet (EdgeLeads.starts i start) = beginning t low quiet i start
  edge t ps next q none low quiet (EdgeLeads.goes_on program around rest r step) = cc

  -- ---- commits

  commits : (t : ℕ) → t < cycles → HasCommitAt s run t → EndsIn s run t []
  commits t low e =
      let le : t ≤ cycles = within t low in
      let is_start : StartsAt s run t =
      start_read name p keep h kept run cycles is_run t le ∙ (sym (commit_read name p keep h kept run cycles is_run t le) ∙ e) in
      let parts = start_parts t le is_start in
      let command = command_there name p keep h kept run cycles is_run t le parts.1 parts.2 in
      EndsIn.at_its_start command.1.alone.i
      (record { number = command.0; starts = is_start; is_command = command.1; is_instruction = command.1.alone.is_j })
      (enters_none command.1.alone.i
      (in_machine (model name p keep h).top command.0 command.1.alone.i h.childless command.1.alone.is_j))

  ends : (t : ℕ) (ps : List Machine) → ps ≡ [] → EndsIn s run t ps → StartsAt s run t
  ends t ps none (EndsIn.at_its_start i start e) = start.starts
  ends t ps none (EndsIn.with_its_child program quiet over) = cc

  pub follows : FollowsModel s run cycles
  follows = record {
    start = λ t low. (start_from t low, start_by t low);
    reset = λ t low. initial_values name p keep h kept run cycles is_run t (within t low) low;
    busy = λ t running le k. (λ e. none_running s run t running h.childless k, λ e. rests t);
    edge = λ t running next q low quiet k leads. edge t running next q (none_running s run t running h.childless k) low quiet leads;
    commit = λ t running low k.
        let none : running ≡ [] = none_running s run t running h.childless k in (
          λ e. subst (λ ps. EndsIn s run t ps) (sym none) (commits t low e),
          λ e. commit_read name p keep h kept run cycles is_run t (within t low) ∙ starts_is t (within t low) (ends t running none e),
        );
  }
