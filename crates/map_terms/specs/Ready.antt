-- What is asked of a map, a scope of its names and a design: each is so where the map is accepted.
use Rattle.std.specs.Prelude.{◌≡◌, false, List, [], ◌∷◌, map, Contains, Some, IsTrue}
use Rattle.wb_values.specs.Value.{Name, Sort, Entries, entry_of, Valuation}
use Rattle.model_meaning.specs.Term.{is_memory_sort}
use Rattle.model_meaning.specs.Model.{Model, states_of, instructions_in, instruction_name}
use Rattle.verilog_trees.specs.Syntax.{Expression}
use Rattle.verilog_meaning.specs.Expression.{Scope, self_value}
use Rattle.verilog_meaning.specs.Settled.{Design}
use Rattle.verilog_designs.specs.Names.{names_in}
use Rattle.verilog_designs.specs.Accepted.{IsAccepted}
use Rattle.verilog_exists.specs.Exists.{IsOfText}
use Rattle.refinement.specs.Map.{Setting, Map, InstructionMap, design_of, map_scope, instruction_map}
use Rattle.map_rules.specs.Expressions.{is_reset}
use Rattle.ila_child.specs.State.{sorts_of_states, sorts_of_inputs}
use Rattle.v_design.specs.Parts.{Parts}
use Rattle.v_design.specs.Design.{IsDesignOf}
use Rattle.path_terms.specs.Cycles.{IsCycle, IsScopeOf}
use Rattle.path_terms.specs.Mapped.{IsFit, Gives}

-- both scopes say the same of the names in an expression
abbrev pub AgreeOn : Scope → Scope → Expression → Type 0
AgreeOn s m e = (n : Name) → Contains (names_in e) n → s n ≡ m n

-- The expression breaks no rule, and its names mean what they mean in the design.
pub record IsReadable (s m : Scope) (e : Expression) : Type 0 where
  pub fit : IsFit s e
  pub agrees : AgreeOn s m e

abbrev pub AreReadable : Scope → Scope → List Expression → Type 0
AreReadable s m [] = Unit {0}
AreReadable s m (e ∷ es) = IsReadable s m e × AreReadable s m es

-- A name has an entry, which gives values of its sort.
pub record HasReadableEntry (s m : Scope) (es : Entries Expression) (n : Name × Sort) : Type 0 where
  pub expression : Expression
  pub is_entry : entry_of es n.0 ≡ Some expression
  pub gives : Gives s n.1 expression
  pub agrees : AgreeOn s m expression

abbrev pub HaveReadableEntries : Scope → Scope → Entries Expression → Entries Sort → Type 0
HaveReadableEntries s m es [] = Unit {0}
HaveReadableEntries s m es (n ∷ ns) = HasReadableEntry s m es n × HaveReadableEntries s m es ns

-- an instruction has an entry
pub record HasEnd (s m : Scope) (is : List InstructionMap) (n : Name) : Type 0 where
  pub entry : InstructionMap
  pub is_entry : instruction_map is n ≡ Some entry
  pub commit : IsReadable s m entry.commit

abbrev pub HaveEnds : Scope → Scope → List InstructionMap → List Name → Type 0
HaveEnds s m is [] = Unit {0}
HaveEnds s m is (n ∷ ns) = HasEnd s m is n × HaveEnds s m is ns

-- In two cycles of the same registers the expression has one value.
abbrev pub IsStill : Design → Scope → Expression → Type 0
IsStill d m e = (registers inputs others v w : Valuation) → IsCycle d registers inputs v → IsCycle d registers others w → self_value m v e ≡ self_value m w e

-- an invariant, or the expression of a state that is no memory
pub data IsOfRegisters (m : Model) (p : Map) : Expression → Type 0 where
  of_invariant : (e : Expression) → Contains p.invariants e → IsOfRegisters m p e
  of_state : (n : Name) (t : Sort) (e : Expression) → Contains (sorts_of_states (states_of m.top)) (n, t) → is_memory_sort t ≡ false → entry_of p.states n ≡ Some e
      → IsOfRegisters m p e

-- The scope has the names of the map's expressions, which break no rule, and give values of the model's sorts; invariants and states do not
-- depend on inputs; the reset is an input of one bit.
pub record IsReady (s : Setting) (scope : Scope) (e : Parts) : Type 0 where
  pub design : IsDesignOf (design_of s) e
  pub accepted : IsAccepted (design_of s)
  pub of_text : IsOfText (design_of s)
  pub is_scope : IsScopeOf (design_of s) scope
  pub reset : IsTrue (is_reset (design_of s) s.map.reset_signal)
  pub start : IsReadable scope (map_scope s) s.map.start
  pub assume : AreReadable scope (map_scope s) s.map.assume
  pub invariants : AreReadable scope (map_scope s) s.map.invariants
  pub states : HaveReadableEntries scope (map_scope s) s.map.states (sorts_of_states (states_of s.model.top))
  pub inputs : HaveReadableEntries scope (map_scope s) s.map.inputs (sorts_of_inputs s.model.inputs)
  pub instructions : HaveEnds scope (map_scope s) s.map.instructions (map instruction_name (instructions_in s.model.top))
  pub still : (x : Expression) → IsOfRegisters s.model s.map x → IsStill (design_of s) (map_scope s) x
