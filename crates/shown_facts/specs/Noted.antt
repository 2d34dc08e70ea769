-- What is noted of a run: at each cycle which conditions of the map hold, and at some cycles what states are mapped to.
use Rattle.std.specs.Prelude.{◌≡◌, ◌==◌, ◌+◌, ℕ, cond, List, map, length, slice_get, Some, ◌⊎◌, ⊤}
use Rattle.wb_values.specs.Value.{Value, as_truth}
use Rattle.model_meaning.specs.Model.{Model}
use Rattle.refinement.specs.Obligation.{Fact, reset_active, reset_inactive, assumed, invariant, start, no_start, decoded, commit, no_commit, initial, same, one_decodes, ends, result_of, never}
use Rattle.ila_child.specs.State.{IsStateOf, AreInputsOf}
use Rattle.v_design.specs.Parts.{value_in}
use Rattle.mapped_designs.specs.Mapped.{Mapped, MappedInstruction}
use Rattle.mapped_designs.specs.Runs.{Values, registers_at, worth_at, zero_inputs}
use Rattle.shown_facts.specs.declared.rows.Row.{Row}
use Rattle.shown_facts.specs.declared.seen.Seen.{Seen}
use Rattle.shown_facts.specs.declared.shown.Shown.{Shown}
use Rattle.shown_facts.specs.declared.given.Given.{Given}
use Rattle.shown_facts.specs.Values.{model_in, map_in, values_in, cycles_in}

-- The bits are those of the map's conditions, where terms are worth this.
pub record IsRowOf (e : Mapped) (worth : ℕ → Value) (row : Row) : Type 0 where
  pub reset_is : row.reset ≡ as_truth (worth e.reset)
  pub start_is : row.start ≡ as_truth (worth e.start)
  pub assume_is : row.assume.items ≡ map (λ id. as_truth (worth id)) e.assume
  pub commits_are : row.commits.items ≡ map (λ (i : MappedInstruction). as_truth (worth i.commit)) e.instructions

-- there is a row for each of the first cycles
abbrev pub AreRows : Mapped → Values → List Row → Type 0
AreRows e x rows = (t : ℕ) (row : Row) → slice_get rows t ≡ Some row → IsRowOf e (worth_at e.parts x t) row

-- What the states of the model are mapped to at these registers, and which invariants hold there.
pub record IsSeenFrom (m : Model) (e : Mapped) (registers : List Value) (seen : Seen) : Type 0 where
  pub state_is : seen.state ≡ map (value_in e.parts registers (zero_inputs e.parts)) e.states
  pub sorted : IsStateOf m seen.state
  pub invariants_are : seen.invariants.items ≡ map (λ id. as_truth (value_in e.parts registers (zero_inputs e.parts) id)) e.invariants

-- the same at a cycle
abbrev pub IsSeenAt : Model → Mapped → Values → ℕ → Seen → Type 0
IsSeenAt m e x t seen = IsSeenFrom m e (registers_at e.parts x t) seen

-- What is noted of a run: a row for each cycle and the one after the last, states and invariants at cycle 0 and at one other cycle, and
-- the mapped inputs at cycle 0.
pub record IsShown (g : Given) (s : Shown) : Type 0 where
  pub rows_are : AreRows (map_in g) (values_in g) s.rows.items
  pub count : length s.rows.items ≡ cycles_in g + 1
  pub first_is : IsSeenAt (model_in g) (map_in g) (values_in g) 0 s.first
  pub later_is : IsSeenAt (model_in g) (map_in g) (values_in g) s.later_cycle s.later
  pub inputs_are : s.inputs ≡ map (worth_at (map_in g).parts (values_in g) 0) (map_in g).inputs
  pub inputs_sorted : AreInputsOf (model_in g) s.inputs

-- what is noted of the registers at a cycle
abbrev pub seen_of : Shown → ℕ → Seen
seen_of s t = cond (t == 0) s.first s.later

-- The registers of the cycle are among those that are noted.
abbrev pub IsNoted : (later t : ℕ) → Type 0
IsNoted later t = (t ≡ 0) ⊎ (t ≡ later)

-- What the fact says of states and invariants, it says of cycles that are noted.
abbrev pub IsReadAt : (later : ℕ) → Fact → Type 0
IsReadAt later (reset_active t) = ⊤
IsReadAt later (reset_inactive t) = ⊤
IsReadAt later (assumed k t) = ⊤
IsReadAt later (invariant k t) = IsNoted later t
IsReadAt later (start t) = ⊤
IsReadAt later (no_start t) = ⊤
IsReadAt later (decoded j) = ⊤
IsReadAt later (commit j t) = ⊤
IsReadAt later (no_commit j t) = ⊤
IsReadAt later (initial n t) = IsNoted later t
IsReadAt later (same n) = later ≡ 1
IsReadAt later one_decodes = ⊤
IsReadAt later (ends j) = ⊤
IsReadAt later (result_of j n t) = IsNoted later t
IsReadAt later never = ⊤
