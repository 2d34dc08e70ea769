-- A cycle of a design that has settled, and what stands for the names of its store then.
use Rattle.std.specs.Prelude.{◌≡◌, ◌≤◌, true, length, IsTrue}
use Rattle.wb_values.specs.Value.{Name, Valuation}
use Rattle.verilog_meaning.specs.Expression.{Scope}
use Rattle.verilog_meaning.specs.Settled.{Design, IsSettled}
use Rattle.verilog_meaning.specs.Next.{AreRegisters, AreInputs}
use Rattle.wb_terms.specs.Graph.{Graph}
use Rattle.v_value.specs.Narrow.{HasNarrowObjects}
use Rattle.map_rules.specs.Expressions.{design_scope}
use Rattle.v_design.specs.Parts.{Parts, registers_of, inputs_of, are_terms_of, is_within, at_cycle}
use Rattle.v_design.specs.Design.{values_under}

-- The valuation is settled for these registers and inputs.
pub record IsCycle (d : Design) (registers inputs v : Valuation) : Type 0 where
  pub are_registers : AreRegisters d registers
  pub are_inputs : AreInputs d inputs
  pub is_settled : IsSettled d registers inputs v

abbrev pub environment : Parts → (registers inputs : Valuation) → Valuation
environment e registers inputs = at_cycle e (values_under (registers_of e) registers) (values_under (inputs_of e) inputs)

-- The parts' terms stand in their store, and there are registers among its names. (So it is of the code's record of a design.)
pub record HasItsTerms (e : Parts) : Type 0 where
  pub counted : e.register_count ≤ length e.graph.names
  pub next : IsTrue (are_terms_of e.graph (registers_of e) e.next)
  pub settled : (n : Name) → IsTrue (is_within e.graph (e.settled n))

-- the same parts over another store
abbrev pub over : Parts → Graph → Parts
over e g = record e { graph = g }

-- The scope gives what it declares its meaning in the design, and all that it gives fits words.
pub record IsScopeOf (d : Design) (s : Scope) : Type 0 where
  pub narrow : HasNarrowObjects s
  pub agrees : (n : Name) → (s n).is_declared ≡ true → s n ≡ design_scope d n
