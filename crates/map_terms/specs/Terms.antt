-- Terms of what a map says, over a scope and the terms of its names.
use Rattle.std.specs.Prelude.{◌≡◌, ◌==◌, ℕ, List, [], ◌∷◌, map, Some}
use Rattle.wb_values.specs.Value.{Name, Sort, truth, Entries, entry_of, Valuation}
use Rattle.model_meaning.specs.Model.{Model, states_of, instructions_in, instruction_name}
use Rattle.verilog_trees.specs.Syntax.{Expression}
use Rattle.verilog_meaning.specs.Expression.{Scope}
use Rattle.refinement.specs.Map.{InstructionMap, Map, instruction_map}
use Rattle.wb_terms.specs.Graph.{Graph}
use Rattle.v_operators.specs.Meaning.{IsOfSort, HasNumber, HasTruth}
use Rattle.v_lower.specs.Lowered.{Images}
use Rattle.ila_child.specs.State.{sorts_of_states, sorts_of_inputs}
use Rattle.path_terms.specs.Mapped.{IsTermFor, AreConditions}
use Rattle.mapped_designs.specs.Mapped.{MappedInstruction}

-- the terms of a map, but for that of the reset
pub record TermsOfMap : Type 0 where
  pub start : ℕ
  pub assume : List ℕ
  pub invariants : List ℕ
  pub states : List ℕ
  pub inputs : List ℕ
  pub instructions : List MappedInstruction

-- The term of the second store says whether a number of one bit of the first is this one.
pub record IsResetTerm (g : Graph) (net active : ℕ) (h : Graph) (id : ℕ) : Type 0 where
  pub of_sort : IsOfSort h id truth
  pub value : (p : Valuation) (x : ℕ) → HasNumber g net 1 p x → HasTruth h id p (x == active)

-- the term of what the first entry of a name gives a value of the sort
pub record IsEntryTerm (s : Scope) (a : Images) (g : Graph) (es : Entries Expression) (n : Name × Sort) (id : ℕ) : Type 0 where
  pub expression : Expression
  pub is_entry : entry_of es n.0 ≡ Some expression
  pub is_term : IsTermFor s a g n.1 expression id

abbrev pub AreEntryTerms : Scope → Images → Graph → Entries Expression → Entries Sort → List ℕ → Type 0
AreEntryTerms s a g es [] [] = Unit {0}
AreEntryTerms s a g es [] (id ∷ ids) = ⊥
AreEntryTerms s a g es (n ∷ ns) [] = ⊥
AreEntryTerms s a g es (n ∷ ns) (id ∷ ids) = IsEntryTerm s a g es n id × AreEntryTerms s a g es ns ids

-- the end of an instruction as its first entry says
pub record IsEnd (s : Scope) (a : Images) (g : Graph) (is : List InstructionMap) (n : Name) (x : MappedInstruction) : Type 0 where
  pub entry : InstructionMap
  pub is_entry : instruction_map is n ≡ Some entry
  pub is_term : IsTermFor s a g truth entry.commit x.commit
  pub bound : x.bound ≡ entry.bound

abbrev pub AreEnds : Scope → Images → Graph → List InstructionMap → List Name → List MappedInstruction → Type 0
AreEnds s a g is [] [] = Unit {0}
AreEnds s a g is [] (x ∷ xs) = ⊥
AreEnds s a g is (n ∷ ns) [] = ⊥
AreEnds s a g is (n ∷ ns) (x ∷ xs) = IsEnd s a g is n x × AreEnds s a g is ns xs

-- They are the terms of a map of the model.
pub record AreMapTerms (m : Model) (p : Map) (s : Scope) (a : Images) (g : Graph) (r : TermsOfMap) : Type 0 where
  pub start : IsTermFor s a g truth p.start r.start
  pub assume : AreConditions s a g p.assume r.assume
  pub invariants : AreConditions s a g p.invariants r.invariants
  pub states : AreEntryTerms s a g p.states (sorts_of_states (states_of m.top)) r.states
  pub inputs : AreEntryTerms s a g p.inputs (sorts_of_inputs m.inputs) r.inputs
  pub instructions : AreEnds s a g p.instructions (map instruction_name (instructions_in m.top)) r.instructions
