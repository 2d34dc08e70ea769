-- What a cycle of a simulation shows is so of the run.
use Rattle.std.proofs.Common.{◌≡◌, ◌∙◌, ◌↔◌, ℕ, zero, suc, ◌<◌, ◌≤◌, Bool, List, [], ◌∷◌, length, map, slice_get, ◌⊎◌, inl, inr, Some, sym, ap, subst, arith}
use Rattle.std.specs.Prelude.{IsTrue}
use Rattle.wb_values.specs.Value.{Value}
use Rattle.model_meaning.specs.Model.{Model, Instruction, instruction_name, instructions_in}
use Rattle.model_meaning.specs.Instruction.{IsInstruction}
use Rattle.refinement.specs.Map.{Setting, InstructionMap}
use Rattle.refinement.specs.Run.{Run, IsResetAt, HoldsOf}
use Rattle.refinement.specs.Refinement.{state_at, inputs_at, StartsAt, IsMapEntry, CommitsAt}
use Rattle.refinement.specs.Obligation.{reset_active, assumed, start, commit, bound_named, bound_in}
use Rattle.ila_child.specs.State.{state_valuation, input_valuation}
use Rattle.v_design.specs.Parts.{value_in}
use Rattle.v_design.specs.Design.{worth}
use Rattle.mapped_designs.specs.Mapped.{Mapped, MappedInstruction}
use Rattle.mapped_designs.specs.Runs.{Values, registers_at, worth_at, zero_inputs}
use Rattle.mapped_runs.proofs.Lists.{alike}
use Rattle.mapped_runs.proofs.Cycles.{registers_are, worth_is}
use Rattle.mapped_runs.proofs.Named.{state_listed}
use Rattle.mapped_runs.proofs.Facts.{runs_show, state_is, inputs_is}
use Rattle.run_watch.specs.Failing.{holding}
use Rattle.run_watch.specs.Watch.{IsWatchOf}
use Rattle.run_watch.proofs.Lists.{some_same, none_there, get_within}

-- lists that are mapped to one list, place by place
head_same : {A : Type 0} {x y : A} {xs ys : List A} → x ∷ xs ≡ y ∷ ys → x ≡ y
head_same e = cc

tail_same : {A : Type 0} {x y : A} {xs ys : List A} → x ∷ xs ≡ y ∷ ys → xs ≡ ys
tail_same e = cc

same_there : {A B C : Type 0} (f : A → C) (g : B → C) (xs : List A) (ys : List B) (k : ℕ) (x : A) (y : B) → slice_get xs k ≡ Some x → slice_get ys k ≡ Some y
    → map f xs ≡ map g ys → f x ≡ g y
same_there f g [] ys k x y a b h = absurd (none_there a)
same_there f g (u ∷ us) [] k x y a b h = absurd (none_there b)
same_there f g (u ∷ us) (v ∷ vs) zero x y a b h = ap f (sym (some_same a)) ∙ (head_same h ∙ ap g (some_same b))
same_there f g (u ∷ us) (v ∷ vs) (suc k) x y a b h = same_there f g us vs k x y a b (tail_same h)

module _ (m : Model) (e : Mapped) (x : Values) (s : Setting) (run : Run) (cycles : ℕ) (w : IsWatchOf m e x s run cycles) where
  -- the conditions at cycle t
  abbrev pub shown_at : ℕ → ℕ → Bool
  shown_at t id = holding e.parts (registers_at e.parts x t) (x.inputs t) id

  pub reset_shown : (t : ℕ) → t < cycles → IsResetAt s run t ↔ IsTrue (shown_at t e.reset)
  reset_shown t l = runs_show s e run cycles x (reset_active t) w.mapped w.sound w.is_run w.values l

  pub start_shown : (t : ℕ) → t < cycles → StartsAt s run t ↔ IsTrue (shown_at t e.start)
  start_shown t l = runs_show s e run cycles x (start t) w.mapped w.sound w.is_run w.values l

  pub assumed_shown : (k t id : ℕ) → t < cycles → slice_get e.assume k ≡ Some id → HoldsOf s run s.map.assume k t ↔ IsTrue (shown_at t id)
  assumed_shown k t id l at =
      let f = runs_show s e run cycles x (assumed k t) w.mapped w.sound w.is_run w.values l in
      (λ h. f.0 h id at, λ h. f.1 (λ other is. subst (λ i. IsTrue (shown_at t i)) (some_same (sym at ∙ is)) h))

  pub commit_shown : (j t : ℕ) (i : MappedInstruction) → t < cycles → slice_get e.instructions j ≡ Some i → CommitsAt s run j t ↔ IsTrue (shown_at t i.commit)
  commit_shown j t i l at =
      let f = runs_show s e run cycles x (commit j t) w.mapped w.sound w.is_run w.values l in
      (λ h. subst (λ (k : MappedInstruction). IsTrue (shown_at t k.commit)) (let g = f.0 h in some_same (sym g.1 ∙ at)) (f.0 h).2, λ h. f.1 (i, at, h))

  pub inputs_shown : (t : ℕ) → t < cycles → input_valuation s.model (map (value_in e.parts (registers_at e.parts x t) (x.inputs t)) e.inputs) ≡ inputs_at s run t
  inputs_shown t l = inputs_is s e run cycles x w.mapped w.sound w.is_run w.values t l

  abbrev states_seen : ℕ → List Value
  states_seen t = map (value_in e.parts (registers_at e.parts x t) (x.inputs t)) e.states

  inside : (t : ℕ) → t < cycles → state_valuation s.model (states_seen t) ≡ state_at s run t
  inside t l =
      let le : t ≤ cycles = omega (arith, l) in
      let told = w.mapped.tells (run.registers t) (run.inputs t) (run.valuations t) (registers_are s run cycles w.is_run t le) (w.is_run.inputs t le) (w.is_run.settled t le) in
      state_listed s (run.valuations t) (states_seen t)
      (alike (worth_at e.parts x t) (worth e.parts (run.registers t) (run.inputs t)) e.states
      (λ id. worth_is s run cycles w.is_run e.parts w.mapped.design w.sound x w.values t l id)
      ∙ told.model_states)

  -- the mapped state, at a cycle or after the last one
  pub state_shown : (t : ℕ) → t ≤ cycles → (t < cycles) ⊎ (x.inputs t ≡ zero_inputs e.parts) → state_valuation s.model (states_seen t) ≡ state_at s run t
  state_shown t le (inl l) = inside t l
  state_shown t le (inr zeros) =
      subst (λ is. state_valuation s.model (map (value_in e.parts (registers_at e.parts x t) is) e.states) ≡ state_at s run t) (sym zeros)
      (state_is s e run cycles x w.mapped w.sound w.is_run w.values t le)

  -- an instruction's entry has the bound that the design has
  bound_by : (j : ℕ) (i : MappedInstruction) (o : Instruction) → slice_get e.instructions j ≡ Some i → IsInstruction s.model j o
      → i.bound ≡ bound_named s.map (instruction_name o)
  bound_by j i o at is =
      same_there (λ (y : MappedInstruction). y.bound) (λ y. bound_named s.map (instruction_name y)) e.instructions (instructions_in s.model.top) j i o at is w.mapped.bounds

  pub bound_is : (j : ℕ) (i : MappedInstruction) (y : InstructionMap) → slice_get e.instructions j ≡ Some i → IsMapEntry s j y → i.bound ≡ y.bound
  bound_is j i y at entry = bound_by j i entry.0 at entry.1 ∙ ap bound_in entry.2

  -- as many instructions as there are ends
  pub ends_there : (j : ℕ) (o : Instruction) → IsInstruction s.model j o → j < length e.instructions
  ends_there j o is = let l = get_within (instructions_in s.model.top) j o is in omega (arith, l, w.mapped.sorted.instructions)
