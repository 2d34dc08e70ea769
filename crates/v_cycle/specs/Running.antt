-- A simulated design: whether it is one of these parts, and what it holds after a cycle.
use Rattle.std.specs.Prelude.{◌≡◌, ◌≤◌, ◌++◌, List, length, take}
use Rattle.wb_values.specs.Value.{Value}
use Rattle.wb_terms.specs.Environment.{AreOfSorts, Fits, values_of}
use Rattle.wb_terms.specs.Held.{Holds}
use Rattle.v_design.specs.Seen.{register_values}
use Rattle.v_design.specs.Parts.{Parts, registers_of}
use Rattle.v_cycle.specs.declared.cycle.Cycle.{Cycle}
use Rattle.v_cycle.specs.Changing.{IsListed}

-- the registers
abbrev pub registers_in : Cycle → List Value
registers_in c = register_values c.registers

-- It is made for these parts: its registers have values of their sorts, and it has room for the values of all names and terms. Where
-- the changes of the last edge are all listed, they make the registers of what stands under their names.
pub record IsCycleOf (d : Parts) (c : Cycle) : Type 0 where
  pub registers : AreOfSorts (registers_of d) (registers_in c)
  pub names : Fits d.graph c.env
  pub room : length d.graph.nodes ≤ length c.words
  pub listed : IsListed c.changes (take (length (registers_in c)) (values_of c.env)) (registers_in c)

-- A cycle was run: it holds the values of all terms.
abbrev pub IsRun : Parts → Cycle → Type 0
IsRun d c = Holds d.graph c.env c.words

-- The last cycle was at these registers and inputs.
abbrev pub HasRun : Parts → Cycle → (rs is : List Value) → Type 0
HasRun d c rs is = values_of c.env ≡ rs ++ is
