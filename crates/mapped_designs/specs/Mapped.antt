-- A design with a map as terms of one store: which terms stand for what the map says of a cycle.
use Rattle.std.specs.Prelude.{◌≡◌, ℕ, List, ◌∷◌, ◌++◌, map, length, All, IsTrue}
use Rattle.wb_values.specs.Value.{truth}
use Rattle.model_meaning.specs.Model.{Model, states_of, instructions_in}
use Rattle.ila_child.specs.State.{sorts_of_states, sorts_of_inputs}
use Rattle.v_design.specs.Parts.{Parts, is_term_of, are_terms_of}

-- how an instruction ends: the term of its commit, and the bound within which it comes
pub record MappedInstruction : Type 0 where
  pub commit : ℕ
  pub bound : ℕ

-- The parts of a design, in whose store stand terms of a map: whether reset is active, whether a command starts, each assumption, each
-- invariant, what each state and each input of the model is mapped to, and how each of its instructions ends, in the model's orders.
pub record Mapped : Type 0 where
  pub parts : Parts
  pub reset_cycles : ℕ
  pub reset : ℕ
  pub start : ℕ
  pub assume : List ℕ
  pub invariants : List ℕ
  pub states : List ℕ
  pub inputs : List ℕ
  pub instructions : List MappedInstruction

-- the terms that are conditions
abbrev pub conditions_of : Mapped → List ℕ
conditions_of e = e.reset ∷ e.start ∷ (e.assume ++ (e.invariants ++ map (λ i. i.commit) e.instructions))

-- The terms stand in the store, and are of the sorts that a model wants: conditions are truth values, and each state and each input of
-- the model has a term of its sort. Each instruction of the model has its end.
pub record IsSortedFor (m : Model) (e : Mapped) : Type 0 where
  pub conditions : All (λ id. IsTrue (is_term_of e.parts.graph truth id)) (conditions_of e)
  pub states : IsTrue (are_terms_of e.parts.graph (sorts_of_states (states_of m.top)) e.states)
  pub inputs : IsTrue (are_terms_of e.parts.graph (sorts_of_inputs m.inputs) e.inputs)
  pub instructions : length e.instructions ≡ length (instructions_in m.top)
