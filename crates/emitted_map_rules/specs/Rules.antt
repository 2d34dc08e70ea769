-- The rules on a map that ask for a module: that of an emitted design breaks none of them over an emitted module.
use Rattle.std.specs.Prelude.{ℕ, Bool, not, ◌&&◌, List, [], ◌∷◌, ◌++◌, Contains, IsTrue}
use Rattle.wb_values.specs.Value.{Name}
use Rattle.model_meaning.specs.Term.{is_sort, is_memory_sort}
use Rattle.model_meaning.specs.Model.{Model, StateDeclaration, InputDeclaration, states_of}
use Rattle.model_meaning.specs.Invariant.{IsModel}
use Rattle.verilog_trees.specs.Syntax.{Module}
use Rattle.map_files.specs.Meaning.{MapRule, BadExpression, WidthMismatch, MapUsesInput, MemoryMismatch}
use Rattle.map_rules.specs.Case.{MapCase}
use Rattle.map_rules.specs.Accepted.{BreaksMapRule, case_of, MapOf}
use Rattle.ila_model.specs.declared.parts.Parts.{Parts}
use Rattle.ila_model.specs.Meaning.{model_from}
use Rattle.emitted_designs.specs.Map.{emitted_map, written_map, map_text}
use Rattle.emitted_designs.specs.Emits.{IsEmittedModule}
use Rattle.map_texts.specs.Unbroken.{BreaksNone}
use Rattle.emitted_modules.specs.Kept.{IsKept}
use Rattle.emitted_modules.specs.Module.{emitted_module}
use Rattle.emitted_modules.specs.Laws.{IsFlatModel}

abbrev pub rules_on_expressions : List MapRule
rules_on_expressions = BadExpression ∷ WidthMismatch ∷ MapUsesInput ∷ MemoryMismatch ∷ []

-- the written map of a model's emitted design, judged by the model and a module
abbrev pub case_over : Model → Module → MapCase
case_over m x = case_of (written_map m) m (x ∷ [])

-- ---- any emitted module, of a model with child programs or without, whatever it is like inside

-- The map breaks no rule on widths: each state and input is mapped to as many bits as it has.
abbrev pub EmittedWidthsMatch : Type 0
EmittedWidthsMatch = (m : Model) (x : Module) → IsModel m → IsEmittedModule m x → ¬ BreaksMapRule (case_over m x) WidthMismatch

-- Each memory is mapped to one of its shape that a clocked block assigns.
abbrev pub EmittedMemoriesMatch : Type 0
EmittedMemoriesMatch = (m : Model) (x : Module) → IsModel m → IsEmittedModule m x → ¬ BreaksMapRule (case_over m x) MemoryMismatch

-- The sorts of states and inputs are those that models may have: words of 1 to 128 bits, and no input is a memory.
pub record HasSortsInRange (m : Model) : Type 0 where
  pub states : (d : StateDeclaration) → Contains (states_of m.top) d → IsTrue (is_sort d.sort)
  pub inputs : (i : InputDeclaration) → Contains m.inputs i → IsTrue (is_sort i.sort && not (is_memory_sort i.sort))

-- No expression of the map is bad, and the reset is a good one.
abbrev pub EmittedExpressionsAreGood : Type 0
EmittedExpressionsAreGood =
    (m : Model) (x : Module) → IsModel m → HasSortsInRange m → IsEmittedModule m x → ¬ BreaksMapRule (case_over m x) BadExpression

-- ---- the modules of models without child programs

-- Neither a state's expression nor an invariant depends on an input of the module, whichever nodes are kept.
abbrev pub FlatMapsUseNoInput : Type 0
FlatMapsUseNoInput =
    (name : Name) (p : Parts) (keep : ℕ → Bool) → IsFlatModel name p
    → ¬ BreaksMapRule (case_over (model_from name p) (emitted_module name p keep)) MapUsesInput

-- The map breaks none of these rules.
abbrev pub FlatMapsBreakNone : Type 0
FlatMapsBreakNone =
    (name : Name) (p : Parts) (keep : ℕ → Bool) → IsFlatModel name p → IsKept p keep
    → BreaksNone (case_over (model_from name p) (emitted_module name p keep)) rules_on_expressions

-- So the text of the map, with a line feed after it, is accepted for the model and the module, and stands for the emitted map.
abbrev pub FlatMapsAreAccepted : Type 0
FlatMapsAreAccepted =
    (name : Name) (p : Parts) (keep : ℕ → Bool) → IsFlatModel name p → IsKept p keep
    → MapOf (map_text (written_map (model_from name p)) ++ 10 ∷ []) (model_from name p) (emitted_module name p keep ∷ [])
    (emitted_map (model_from name p))
