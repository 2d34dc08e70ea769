-- What does not come from inputs is the same whatever the inputs are.
use Rattle.std.specs.Prelude.{◌≡◌, true, [], None}
use Rattle.wb_values.specs.Value.{Name, Valuation}
use Rattle.verilog_trees.specs.Syntax.{Expression, input}
use Rattle.verilog_meaning.specs.Expression.{is_memory, self_value, is_true}
use Rattle.verilog_meaning.specs.Hierarchy.{Placed, placed_scope}
use Rattle.verilog_meaning.specs.Settled.{Design, IsPlacedIn, inside, IsDeclared, HasPort, IsSettled}
use Rattle.verilog_rules.specs.Expression.{refusal_of}
use Rattle.verilog_designs.specs.Dependence.{Bit, bit_of}
use Rattle.verilog_designs.specs.Accepted.{IsAccepted}
use Rattle.verilog_settled.specs.Locality.{LeavesAre}
use Rattle.verilog_unique.specs.Agreement.{Agree, IsBitDeclared}
use Rattle.verilog_unique.specs.Unique.{AnyName}
use Rattle.verilog_exists.specs.Exists.{IsOfText}
use Rattle.map_rules.specs.Expressions.{design_scope}
use Rattle.map_rules.specs.Inputs.{ComesFromInput, UsesInput}

-- Two valuations of one design have settled for the same registers, each for inputs of its own. The design is accepted, and its
-- tree is that of a text.
pub record SettleAlike (d : Design) (v w : Valuation) : Type 0 where
  pub accepted : IsAccepted d
  pub of_text : IsOfText d
  pub registers : Valuation
  pub inputs : Valuation
  pub others : Valuation
  pub first : IsSettled d registers inputs v
  pub second : IsSettled d registers others w

-- They agree on each bit that comes from no input.
abbrev pub InputsAreNotSeen : Type 0
InputsAreNotSeen =
    (d : Design) (v w : Valuation) (p : Placed) (u : Bit) → SettleAlike d v w → IsPlacedIn d p → IsBitDeclared p u → ¬ ComesFromInput d (bit_of p u)
    → Agree v w p u

-- An expression of a map that breaks no rule, whose numbers fit, and which uses no input.
pub record IsInputFree (d : Design) (e : Expression) : Type 0 where
  pub numbers_fit : LeavesAre AnyName e
  pub unbroken : refusal_of (design_scope d) e ≡ None
  pub no_input : ¬ UsesInput d e

-- It has one value in both,
abbrev pub ValuesAreInputFree : Type 0
ValuesAreInputFree =
    (d : Design) (v w : Valuation) (e : Expression) → SettleAlike d v w → IsInputFree d e
    → self_value (design_scope d) v e ≡ self_value (design_scope d) w e

-- and is a condition that holds in both or in neither.
abbrev pub ConditionsAreInputFree : Type 0
ConditionsAreInputFree =
    (d : Design) (v w : Valuation) (e : Expression) → SettleAlike d v w → IsInputFree d e
    → is_true (design_scope d) v e ≡ is_true (design_scope d) w e

-- A memory of a module that is no input of the top.
pub record IsInnerMemory (d : Design) (p : Placed) (n : Name) : Type 0 where
  pub is_placed : IsPlacedIn d p
  pub is_declared : IsDeclared p n
  pub is_memory : is_memory (placed_scope p n) ≡ true
  pub no_input : ¬ (p.path ≡ [] × HasPort p.of_module n input)

-- It has the same words in both: no bit of it comes from an input, since a clocked block alone may write to it.
abbrev pub MemoriesAreInputFree : Type 0
MemoriesAreInputFree = (d : Design) (v w : Valuation) (p : Placed) (n : Name) → SettleAlike d v w → IsInnerMemory d p n → inside v p n ≡ inside w p n
