-- What a design with a map shows in the cycles of a run, as values of its terms: the registers of each cycle come from the first ones by
-- the clock's edges, and nothing is said of nets.
use Rattle.std.specs.Prelude.{◌≡◌, ℕ, zero, suc, false, List, [], ◌∷◌, map, slice_get, slice_index, Some, IsTrue, ⊤}
use Rattle.wb_values.specs.Value.{Value, as_truth, Valuation}
use Rattle.model_meaning.specs.Model.{Model, StateDeclaration, Instruction, states_of, state_named}
use Rattle.model_meaning.specs.Instruction.{Does, DecodesAt, IsInstruction, IsStarted}
use Rattle.refinement.specs.Obligation.{Fact, reset_active, reset_inactive, assumed, invariant, start, no_start, decoded, commit, no_commit, initial, same, one_decodes, ends, result_of, never}
use Rattle.ila_model.specs.Meaning.{zero_of}
use Rattle.ila_child.specs.State.{state_valuation, input_valuation}
use Rattle.verilog_meaning.specs.Register.{is_set, value_bit}
use Rattle.wb_terms.specs.Environment.{AreOfSorts}
use Rattle.v_design.specs.Registers.{CountedBits}
use Rattle.v_design.specs.Parts.{Parts, registers_of, inputs_of, value_in, registers_after}
use Rattle.mapped_designs.specs.Mapped.{Mapped, MappedInstruction}

-- The values of a run: of the first registers, in the design's order, and of the inputs at each cycle, in their order.
pub record Values : Type 0 where
  pub first : List Value
  pub inputs : ℕ → List Value

-- the registers at cycle t
abbrev pub registers_at : Parts → Values → ℕ → List Value
registers_at d x zero = x.first
registers_at d x (suc t) = registers_after d (registers_at d x t) (x.inputs t)

-- what a term is worth at cycle t
abbrev pub worth_at : Parts → Values → (t id : ℕ) → Value
worth_at d x t id = value_in d (registers_at d x t) (x.inputs t) id

-- They are values of the design: each register and each input has one of its sort.
pub record AreValuesOf (d : Parts) (x : Values) : Type 0 where
  pub first : AreOfSorts (registers_of d) x.first
  pub inputs : (t : ℕ) → AreOfSorts (inputs_of d) (x.inputs t)

-- What does not count of the registers, each with the bits of it that count, is 0: bits that no clocked block may assign, and words past
-- the last of a memory.
abbrev pub IsRestZero : Parts → List Value → Type 0
IsRestZero d values =
    (k w b : ℕ) (c : CountedBits) (y : Value) → slice_get d.bits k ≡ Some c → slice_get values k ≡ Some y → is_set (slice_index c.masks w) b ≡ false
    → value_bit y w b ≡ false

-- each input 0
abbrev pub zero_inputs : Parts → List Value
zero_inputs d = map (λ n. zero_of n.1) (inputs_of d)

-- What a term that does not depend on inputs is worth at cycle t: it is read with inputs that are 0.
abbrev pub worth_of_registers_at : Parts → Values → (t id : ℕ) → Value
worth_of_registers_at d x t id = value_in d (registers_at d x t) (zero_inputs d) id

-- a condition holds at cycle t
abbrev pub HoldsAt : Mapped → Values → (t id : ℕ) → Type 0
HoldsAt e x t id = IsTrue (as_truth (worth_at e.parts x t id))

-- each condition of a list, by its number
abbrev pub HoldsAmong : Mapped → Values → List ℕ → (k t : ℕ) → Type 0
HoldsAmong e x ids k t = (id : ℕ) → slice_get ids k ≡ Some id → HoldsAt e x t id

-- The invariants and the mapped states do not depend on inputs.
abbrev pub KeepsInvariant : Mapped → Values → (k t : ℕ) → Type 0
KeepsInvariant e x k t = (id : ℕ) → slice_get e.invariants k ≡ Some id → IsTrue (as_truth (worth_of_registers_at e.parts x t id))

-- the mapped state and the mapped inputs at cycle t
abbrev pub shown_state : Model → Mapped → Values → ℕ → Valuation
shown_state m e x t = state_valuation m (map (worth_of_registers_at e.parts x t) e.states)

abbrev pub shown_inputs : Model → Mapped → Values → ℕ → Valuation
shown_inputs m e x t = input_valuation m (map (worth_at e.parts x t) e.inputs)

-- the commit of instruction number j holds at cycle t
abbrev pub ShowsCommit : Mapped → Values → (j t : ℕ) → Type 0
ShowsCommit e x j t = (i : MappedInstruction) × (slice_get e.instructions j ≡ Some i) × HoldsAt e x t i.commit

-- What a hypothesis or a claim says of the values.
abbrev pub Shows : Model → Mapped → Values → Fact → Type 0
Shows m e x (reset_active t) = HoldsAt e x t e.reset
Shows m e x (reset_inactive t) = ¬ HoldsAt e x t e.reset
Shows m e x (assumed k t) = HoldsAmong e x e.assume k t
Shows m e x (invariant k t) = KeepsInvariant e x k t
Shows m e x (start t) = HoldsAt e x t e.start
Shows m e x (no_start t) = ¬ HoldsAt e x t e.start
Shows m e x (decoded j) = (i : Instruction) × IsInstruction m j i × DecodesAt m (shown_state m e x 0) (shown_inputs m e x 0) i
Shows m e x (commit j t) = ShowsCommit e x j t
Shows m e x (no_commit j t) = ¬ ShowsCommit e x j t
Shows m e x (initial n t) =
    (d : StateDeclaration) (y : Value) → state_named (states_of m.top) n ≡ Some d → d.init ≡ Some y → shown_state m e x t n ≡ y
Shows m e x (same n) = shown_state m e x 1 n ≡ shown_state m e x 0 n
Shows m e x one_decodes = (j : ℕ) × IsStarted m (shown_state m e x 0) (shown_inputs m e x 0) j
Shows m e x (ends j) =
    (i : Instruction) × IsInstruction m j i × (r : Valuation) × Does m i (shown_state m e x 0) (shown_inputs m e x 0) r
Shows m e x (result_of j n t) =
    (i : Instruction) (r : Valuation) → IsInstruction m j i → Does m i (shown_state m e x 0) (shown_inputs m e x 0) r
    → shown_state m e x t n ≡ r n
Shows m e x never = ⊥

abbrev pub ShowsAll : Model → Mapped → Values → List Fact → Type 0
ShowsAll m e x [] = ⊤
ShowsAll m e x (fact ∷ facts) = Shows m e x fact × ShowsAll m e x facts
