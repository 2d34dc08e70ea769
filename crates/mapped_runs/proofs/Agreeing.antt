-- Values that agree on the first registers and on the inputs of some cycles show the same facts within these.
use Rattle.std.proofs.Common.{◌≡◌, ◌∙◌, ℕ, zero, suc, ◌<◌, ◌≤◌, List, [], ◌∷◌, Some, sym, ap, ap₂, subst, arith}
use Rattle.std.specs.Prelude.{IsTrue}
use Rattle.wb_values.specs.Value.{Value, as_truth, Valuation}
use Rattle.model_meaning.specs.Model.{Model, StateDeclaration, Instruction, states_of, state_named}
use Rattle.model_meaning.specs.Instruction.{Does, DecodesAt, IsInstruction, IsStarted}
use Rattle.refinement.specs.Obligation.{Fact, reset_active, reset_inactive, assumed, invariant, start, no_start, decoded, commit, no_commit, initial, same, one_decodes, ends, result_of, never}
use Rattle.ila_child.specs.State.{state_valuation, input_valuation}
use Rattle.v_design.specs.Parts.{Parts, value_in, registers_after}
use Rattle.mapped_designs.specs.Mapped.{Mapped}
use Rattle.mapped_designs.specs.Runs.{Values, registers_at, worth_at, zero_inputs, worth_of_registers_at, HoldsAt, shown_state, shown_inputs, Shows, ShowsAll}
use Rattle.mapped_runs.specs.Valued.{IsWithin, AreWithin, Agree, LaterInputsDoNotMatter}
use Rattle.mapped_runs.proofs.Lists.{alike}

pub other_way : (cycles : ℕ) (x y : Values) → Agree cycles x y → Agree cycles y x
other_way cycles x y a = record { first = sym a.first; inputs = λ t l. sym (a.inputs t l) }

module _ (e : Parts) (cycles : ℕ) (x y : Values) (agree : Agree cycles x y) where
  same_registers : (t : ℕ) → t ≤ cycles → registers_at e x t ≡ registers_at e y t
  same_registers zero l = agree.first
  same_registers (suc t) l = ap₂ (registers_after e) (same_registers t (omega (arith, l))) (agree.inputs t (omega (arith, l)))

  pub same_worth : (t : ℕ) → t < cycles → (id : ℕ) → worth_at e x t id ≡ worth_at e y t id
  same_worth t l id = ap₂ (λ rs is. value_in e rs is id) (same_registers t (omega (arith, l))) (agree.inputs t l)

  pub same_worth_of_registers : (t : ℕ) → t ≤ cycles → (id : ℕ) → worth_of_registers_at e x t id ≡ worth_of_registers_at e y t id
  same_worth_of_registers t l id = ap (λ rs. value_in e rs (zero_inputs e) id) (same_registers t l)

module _ (m : Model) (e : Mapped) (cycles : ℕ) (x y : Values) (agree : Agree cycles x y) where
  state_same : (t : ℕ) → t ≤ cycles → shown_state m e x t ≡ shown_state m e y t
  state_same t l =
      ap (state_valuation m) (alike (worth_of_registers_at e.parts x t) (worth_of_registers_at e.parts y t) e.states (same_worth_of_registers e.parts cycles x y agree t l))

  inputs_same : (t : ℕ) → t < cycles → shown_inputs m e x t ≡ shown_inputs m e y t
  inputs_same t l = ap (input_valuation m) (alike (worth_at e.parts x t) (worth_at e.parts y t) e.inputs (same_worth e.parts cycles x y agree t l))

  held : (t : ℕ) → t < cycles → (id : ℕ) → HoldsAt e x t id → HoldsAt e y t id
  held t l id h = subst (λ z. IsTrue (as_truth z)) (same_worth e.parts cycles x y agree t l id) h

  held_back : (t : ℕ) → t < cycles → (id : ℕ) → HoldsAt e y t id → HoldsAt e x t id
  held_back t l id h = subst (λ z. IsTrue (as_truth z)) (sym (same_worth e.parts cycles x y agree t l id)) h

  at_first : 0 < cycles → (P : Valuation → Valuation → Type 0) → P (shown_state m e x 0) (shown_inputs m e x 0) → P (shown_state m e y 0) (shown_inputs m e y 0)
  at_first l P h =
      subst (λ q. P q (shown_inputs m e y 0)) (state_same 0 (omega arith)) (subst (P (shown_state m e x 0)) (inputs_same 0 l) h)

  pub shown : (fact : Fact) → IsWithin cycles fact → Shows m e x fact → Shows m e y fact
  shown (reset_active t) l h = held t l e.reset h
  shown (reset_inactive t) l h = λ b. h (held_back t l e.reset b)
  shown (assumed k t) l h = λ id at_k. held t l id (h id at_k)
  shown (invariant k t) l h = λ id at_k. subst (λ z. IsTrue (as_truth z)) (same_worth_of_registers e.parts cycles x y agree t l id) (h id at_k)
  shown (start t) l h = held t l e.start h
  shown (no_start t) l h = λ b. h (held_back t l e.start b)
  shown (decoded j) l h = at_first l (λ q w. (i : Instruction) × IsInstruction m j i × DecodesAt m q w i) h
  shown (commit j t) l h = (h.0, h.1, held t l h.0.commit h.2)
  shown (no_commit j t) l h = λ b. h (b.0, b.1, held_back t l b.0.commit b.2)
  shown (initial n t) l h =
      subst (λ q. (d : StateDeclaration) (z : Value) → state_named (states_of m.top) n ≡ Some d → d.init ≡ Some z → q n ≡ z) (state_same t l) h
  shown (same n) l h =
      sym (ap (λ q. q n) (state_same 1 (omega (arith, l)))) ∙ (h ∙ ap (λ q. q n) (state_same 0 (omega arith)))
  shown one_decodes l h = at_first l (λ q w. (j : ℕ) × IsStarted m q w j) h
  shown (ends j) l h = at_first l (λ q w. (i : Instruction) × IsInstruction m j i × (r : Valuation) × Does m i q w r) h
  shown (result_of j n t) l h =
      at_first l.0 (λ q w. (i : Instruction) (r : Valuation) → IsInstruction m j i → Does m i q w r → shown_state m e y t n ≡ r n)
      (λ i r is_j does. sym (ap (λ q. q n) (state_same t l.1)) ∙ h i r is_j does)
  shown never l h = h

  pub shown_all : (facts : List Fact) → AreWithin cycles facts → ShowsAll m e x facts → ShowsAll m e y facts
  shown_all [] l h = h
  shown_all (fact ∷ facts) l h = (shown fact l.0 h.0, shown_all facts l.1 h.1)

pub later_inputs : LaterInputsDoNotMatter
later_inputs m e cycles x y fact agree l h = shown m e cycles x y agree fact l h
