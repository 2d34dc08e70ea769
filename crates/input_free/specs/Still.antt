-- Terms of states and invariants do not depend on inputs, where what is mapped uses none.
use Rattle.std.specs.Prelude.{◌≡◌, ℕ, ◌++◌, map, slice_get, Some}
use Rattle.wb_values.specs.Value.{Name, Sort, truth, word, memory, Valuation, entry_of}
use Rattle.model_meaning.specs.Model.{StateDeclaration, states_of, state_named}
use Rattle.verilog_trees.specs.Syntax.{Expression, Selects, name}
use Rattle.verilog_meaning.specs.Hierarchy.{Placed, dotted}
use Rattle.verilog_meaning.specs.Settled.{Design, IsSettled}
use Rattle.verilog_meaning.specs.Next.{AreRegisters, AreInputs}
use Rattle.verilog_designs.specs.Accepted.{IsAccepted}
use Rattle.verilog_exists.specs.Exists.{IsOfText}
use Rattle.refinement.specs.Map.{Setting, design_of}
use Rattle.input_free.specs.Free.{IsInputFree, IsInnerMemory}
use Rattle.v_design.specs.Design.{worth}
use Rattle.mapped_designs.specs.Mapped.{Mapped}
use Rattle.mapped_designs.specs.Meaning.{Tells}

-- The expression is the name of a memory, as it is written from the top, that is no input of the top.
pub record NamesMemory (d : Design) (e : Expression) : Type 0 where
  pub within : Placed
  pub own : Name
  pub selects : Selects
  pub is_memory : IsInnerMemory d within own
  pub is_name : e ≡ name (dotted within.path own) selects

-- What a state of this sort is mapped to uses no input. (Of a memory of an accepted map it is known that no rule refuses it.)
abbrev pub IsStillFor : Design → Sort → Expression → Type 0
IsStillFor d truth e = IsInputFree d e
IsStillFor d (word w) e = IsInputFree d e
IsStillFor d (memory a w) e = ¬ (¬ NamesMemory d e)

-- So it is with each state of the model, and with each invariant.
pub record IsStillMap (s : Setting) : Type 0 where
  pub states : (n : Name) (q : StateDeclaration) (e : Expression) → state_named (states_of s.model.top) n ≡ Some q → entry_of s.map.states n ≡ Some e
      → IsStillFor (design_of s) q.sort e
  pub invariants : (k : ℕ) (e : Expression) → slice_get s.map.invariants k ≡ Some e → IsInputFree (design_of s) e

-- Wherever registers and inputs have a settled valuation, the terms tell what the map's expressions are worth.
abbrev pub TellsEverywhere : Setting → Mapped → Type 0
TellsEverywhere s e = (registers inputs v : Valuation) → AreRegisters (design_of s) registers → AreInputs (design_of s) inputs
    → IsSettled (design_of s) registers inputs v → Tells s e registers inputs v

-- The terms of states and invariants are worth the same under all inputs.
abbrev pub StandsStill : Setting → Mapped → Type 0
StandsStill s e = (registers inputs others : Valuation) → AreRegisters (design_of s) registers → AreInputs (design_of s) inputs → AreInputs (design_of s) others
    → map (worth e.parts registers inputs) (e.states ++ e.invariants) ≡ map (worth e.parts registers others) (e.states ++ e.invariants)

abbrev pub StillMapsStandStill : Type 0
StillMapsStandStill =
    (s : Setting) (e : Mapped) → IsAccepted (design_of s) → IsOfText (design_of s) → IsStillMap s → TellsEverywhere s e → StandsStill s e
