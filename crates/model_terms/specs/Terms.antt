-- What the terms of a model at a state and inputs say, where the state and the inputs are terms themselves.
use Rattle.std.specs.Prelude.{◌≡◌, ◌↔◌, ℕ, ◌<◌, true, List, length, slice_get, Some}
use Rattle.wb_values.specs.Value.{truth_value, Valuation}
use Rattle.model_meaning.specs.Term.{val}
use Rattle.model_meaning.specs.Model.{Model, Instruction, states_of, valid_of, decode_of, instructions_in, holds, point_of}
use Rattle.model_meaning.specs.Instruction.{Does, IsStarted}
use Rattle.wb_terms.specs.declared.nodes.TermId.{TermId}
use Rattle.wb_terms.specs.Graph.{Graph, tree}
use Rattle.term_copies.specs.Copies.{AreLeaves, id_at, declared_at}
use Rattle.ila_child.specs.State.{sorts_of_states, state_valuation, input_valuation}
use Rattle.model_terms.specs.declared.putting.InstructionTerms.{InstructionTerms}
use Rattle.model_terms.specs.declared.putting.ModelTerms.{ModelTerms}
use Rattle.model_terms.specs.Symbolic.{worths, IsCondition}

-- the state of the model that the terms of its states give under a valuation: every other name is 0
abbrev pub state_under : Model → Graph → List TermId → Valuation → Valuation
state_under m g states v = state_valuation m (worths g states v)

-- and the inputs
abbrev pub inputs_under : Model → Graph → List TermId → Valuation → Valuation
inputs_under m g inputs v = input_valuation m (worths g inputs v)

-- Under every valuation the terms of an instruction say whether it decodes, whether it leads to a state (its child programs end), and
-- which value each state has then.
pub record AreInstructionTerms (m : Model) (g : Graph) (states inputs : List TermId) (i : Instruction) (t : InstructionTerms) : Type 0 where
  pub decode : IsCondition g t.decode.0
  pub ends : IsCondition g t.ends.0
  pub results : AreLeaves g (sorts_of_states (states_of m.top)) t.results.items
  pub decode_value : (v : Valuation) → val (tree g t.decode.0) v ≡ truth_value (holds (decode_of i) (point_of m (state_under m g states v) (inputs_under m g inputs v)))
  pub ends_value : (v : Valuation) → (val (tree g t.ends.0) v ≡ truth_value true) ↔ ((r : Valuation) × Does m i (state_under m g states v) (inputs_under m g inputs v) r)
  pub result_values : (v r : Valuation) → Does m i (state_under m g states v) (inputs_under m g inputs v) r
      → (k : ℕ) → k < length (states_of m.top) → val (tree g (id_at t.results.items k)) v ≡ r (declared_at (sorts_of_states (states_of m.top)) k).0

-- The terms of the model: whether its valid condition holds, whether exactly one instruction decodes there, and those of each instruction.
pub record AreTermsOf (m : Model) (g : Graph) (states inputs : List TermId) (t : ModelTerms) : Type 0 where
  pub valid : IsCondition g t.valid.0
  pub started : IsCondition g t.started.0
  pub valid_value : (v : Valuation) → val (tree g t.valid.0) v ≡ truth_value (holds (valid_of m.top) (point_of m (state_under m g states v) (inputs_under m g inputs v)))
  pub started_value : (v : Valuation) → (val (tree g t.started.0) v ≡ truth_value true) ↔ ((j : ℕ) × IsStarted m (state_under m g states v) (inputs_under m g inputs v) j)
  pub count : length t.instructions.items ≡ length (instructions_in m.top)
  pub instruction : (j : ℕ) (i : Instruction) (s : InstructionTerms) → slice_get (instructions_in m.top) j ≡ Some i → slice_get t.instructions.items j ≡ Some s
      → AreInstructionTerms m g states inputs i s
