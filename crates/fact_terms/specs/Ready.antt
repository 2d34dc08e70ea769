-- A store that is ready for obligations: terms of a run and of the model's step at its first cycle stand in it.
use Rattle.std.specs.Prelude.{◌≡◌, ℕ, ◌<◌, ◌+◌, List, length, slice_get, Some}
use Rattle.std.specs.Global.{Global}
use Rattle.std.specs.declared.vec.Vec.{Vec}
use Rattle.wb_values.specs.Value.{Sort, Value, Valuation, HasSort}
use Rattle.model_meaning.specs.Term.{val, sort_of}
use Rattle.model_meaning.specs.Model.{Model, Instruction, StateDeclaration, states_of, instructions_in}
use Rattle.model_meaning.specs.Instruction.{Does, DecodesAt, IsStarted}
use Rattle.wb_terms.specs.declared.nodes.TermId.{TermId}
use Rattle.wb_terms.specs.Graph.{Graph, tree, HasDistinctNames}
use Rattle.term_copies.specs.Copies.{id_at}
use Rattle.ila_model.specs.Model.{model_of}
use Rattle.ila_child.specs.State.{sorts_of_states}
use Rattle.mapped_designs.specs.Mapped.{Mapped, IsSortedFor}
use Rattle.mapped_designs.specs.View.{mapped_of}
use Rattle.mapped_designs.specs.Runs.{worth_at, worth_of_registers_at}
use Rattle.run_terms.specs.Names.{FitsNames, names_of_run}
use Rattle.condition_terms.specs.Told.{IsTermOf, Tells}
use Rattle.model_terms.specs.declared.putting.InstructionTerms.{InstructionTerms}
use Rattle.model_terms.specs.declared.putting.ModelTerms.{ModelTerms}
use Rattle.fact_terms.specs.declared.shared.Shared.{Shared}
use Rattle.fact_terms.specs.Shown.{run_of, first_state, first_inputs}

-- The term's values are of the sort, and these.
pub record IsShown (g : Graph) (id : ℕ) (s : Sort) (meaning : Valuation → Value) : Type 0 where
  pub of_sort : IsTermOf g id s
  pub value : (v : Valuation) → FitsNames g.names v → val (tree g id) v ≡ meaning v

-- for each term of a source
pub record AreShown (g source : Graph) (ids : List TermId) (meaning : Valuation → ℕ → Value) : Type 0 where
  pub count : length ids ≡ length source.nodes
  pub each : (k : ℕ) (s : Sort) → k < length source.nodes → sort_of (tree source k) ≡ Some s → IsShown g (id_at ids k) s (λ v. meaning v k)

-- The terms say what an instruction does at the first cycle: whether it decodes, whether it leads to a state, and then to which.
pub record IsInstructionShown (m : Model) (e : Mapped) (cycles : ℕ) (g : Graph) (i : Instruction) (t : InstructionTerms) : Type 0 where
  pub decode : Tells g t.decode.0 (λ v. DecodesAt m (first_state m e cycles v) (first_inputs m e cycles v) i)
  pub ends : Tells g t.ends.0 (λ v. (r : Valuation) × Does m i (first_state m e cycles v) (first_inputs m e cycles v) r)
  pub count : length t.results.items ≡ length (states_of m.top)
  pub results : (k : ℕ) (d : StateDeclaration) → slice_get (states_of m.top) k ≡ Some d → IsTermOf g (id_at t.results.items k) d.sort
  pub values : (k : ℕ) (d : StateDeclaration) (v r : Valuation) → slice_get (states_of m.top) k ≡ Some d → FitsNames g.names v
      → Does m i (first_state m e cycles v) (first_inputs m e cycles v) r → val (tree g (id_at t.results.items k)) v ≡ r d.state_name

-- Terms of a run of so many cycles, and of the model's step at its first one.
pub record IsReadyFor (m : Model) (e : Mapped) (cycles : ℕ) (g : Graph) (read_rows shown_rows : List (Vec TermId Global)) (model_terms : ModelTerms) : Type 0 where
  pub sorted : IsSortedFor m e
  pub names : g.names ≡ names_of_run e.parts cycles
  pub distinct : HasDistinctNames (sorts_of_states (states_of m.top))
  pub initial : (k : ℕ) (d : StateDeclaration) (y : Value) → slice_get (states_of m.top) k ≡ Some d → d.init ≡ Some y → HasSort y d.sort
  pub each_cycle : length read_rows ≡ cycles
  pub read : (t : ℕ) (ids : Vec TermId Global) → slice_get read_rows t ≡ Some ids
      → AreShown g e.parts.graph ids.items (λ v k. worth_at e.parts (run_of e cycles v) t k)
  pub one_more : length shown_rows ≡ cycles + 1
  pub shown : (t : ℕ) (ids : Vec TermId Global) → slice_get shown_rows t ≡ Some ids
      → AreShown g e.parts.graph ids.items (λ v k. worth_of_registers_at e.parts (run_of e cycles v) t k)
  pub started : Tells g model_terms.started.0 (λ v. (j : ℕ) × IsStarted m (first_state m e cycles v) (first_inputs m e cycles v) j)
  pub counted : length model_terms.instructions.items ≡ length (instructions_in m.top)
  pub instructions : (j : ℕ) (i : Instruction) (t : InstructionTerms) → slice_get (instructions_in m.top) j ≡ Some i → slice_get model_terms.instructions.items j ≡ Some t
      → IsInstructionShown m e cycles g i t

-- The same of the model and the map that are lent, and the cycles that were unrolled.
abbrev pub IsReady : Graph → Shared → Type 0
IsReady g s = IsReadyFor (model_of s.model.now) (mapped_of s.mapped.now) (length s.read.now) g s.read.now s.shown.now s.modelled.now
