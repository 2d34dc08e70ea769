-- A design and its drivers in one scope mean the same.
use Rattle.std.specs.Prelude.{◌≡◌, ◌≢◌, ◌⊎◌, ◌↔◌, ℕ, [], List, Contains, Some, IsTrue}
use Rattle.wb_values.specs.Value.{Name, Valuation}
use Rattle.verilog_trees.specs.Syntax.{Expression, Target, Statement, input, output}
use Rattle.verilog_meaning.specs.Expression.{Scope}
use Rattle.verilog_meaning.specs.Register.{combinational_blocks, may_reach, one_may_assign, counts}
use Rattle.verilog_meaning.specs.Hierarchy.{Placed, placed_scope}
use Rattle.verilog_meaning.specs.Settled.{Design, IsPlacedIn, inside, IsDeclared, assignments, HasAssigned, HasRunAll, as_target, Connection, port_connections, HasConnected, IsConnectedTo, HasPort, is_counted, one_may_reach, IsDriven, IsSettled}
use Rattle.verilog_designs.specs.Accepted.{undeclared, Breaks}
use Rattle.flat_designs.specs.Flat.{Naming, KeepsNamesApart, IsNaming, IsSeenAs, IsFlat}

-- ---- settled valuations

-- A settled valuation solves, under the names of the one scope, the equations of the flat drivers.
abbrev pub SettledSolvesTheFlat : Type 0
SettledSolvesTheFlat =
    (d : Design) (f : Naming) (s : Scope) (links : List (Target × Expression)) (blocks clocked : List Statement) (registers inputs v w : Valuation)
    → ¬ Breaks d undeclared → KeepsNamesApart d f → IsFlat d f s links blocks clocked → IsSeenAs d f v w → IsSettled d registers inputs v
    → HasAssigned s w links × HasRunAll s w blocks

-- Within one module each assignment and each connection of an instance holds, and each combinational block gives the valuation back.
pub record HasEquations (d : Design) (v : Valuation) (p : Placed) : Type 0 where
  pub assigned : HasAssigned (placed_scope p) (inside v p) (assignments p.of_module.items)
  pub connections : HasConnected d v p (port_connections p.of_module.items)
  pub combinational : HasRunAll (placed_scope p) (inside v p) (combinational_blocks p.of_module.items)

-- The equations of the flat drivers hold exactly where those of all modules do.
abbrev pub FlatSolvesEachModule : Type 0
FlatSolvesEachModule =
    (d : Design) (f : Naming) (s : Scope) (links : List (Target × Expression)) (blocks clocked : List Statement) (v w : Valuation)
    → ¬ Breaks d undeclared → KeepsNamesApart d f → IsFlat d f s links blocks clocked → IsSeenAs d f v w
    → (HasAssigned s w links × HasRunAll s w blocks) ↔ ((p : Placed) → IsPlacedIn d p → HasEquations d v p)

-- ---- what is driven

-- An assignment, what is connected to an input, or an output drives the bit.
pub data IsDrivenByLink (d : Design) (p : Placed) (n : Name) (k b : ℕ) : Type 0 where
  by_assignment : IsTrue (one_may_reach (placed_scope p) (assignments p.of_module.items) n k b) → IsDrivenByLink d p n k b
  by_input : (around : Placed) (c : Connection) → IsPlacedIn d around → Contains (port_connections around.of_module.items) c
      → IsConnectedTo d around c p n input → IsDrivenByLink d p n k b
  by_output : (c : Connection) (below : Placed) (m : Name) (t : Target) → Contains (port_connections p.of_module.items) c
      → IsConnectedTo d p c below m output → as_target c.expression ≡ Some t → IsTrue (may_reach (placed_scope p) t n k b)
      → IsDrivenByLink d p n k b

-- The name is an input of the top, and not the clock.
pub record IsInputOfTop (d : Design) (p : Placed) (n : Name) : Type 0 where
  pub at_top : p.path ≡ []
  pub is_port : HasPort p.of_module n input
  pub no_clock : n ≢ d.clock

-- A bit of a module is driven by the flat drivers as it is in the design.
pub record IsDrivenTheSame (d : Design) (f : Naming) (s : Scope) (links : List (Target × Expression)) (blocks clocked : List Statement) (p : Placed) (n : Name) (k b : ℕ) : Type 0 where
  pub by_link : IsTrue (one_may_reach s links (f p.path n) k b) ↔ IsDrivenByLink d p n k b
  pub by_block : one_may_assign s blocks (f p.path n) k b ≡ one_may_assign (placed_scope p) (combinational_blocks p.of_module.items) n k b
  pub counted : counts s clocked (f p.path n) k b ≡ is_counted p n k b
  pub driven : IsDriven d p n k b
      ↔ (IsTrue (counts s clocked (f p.path n) k b) ⊎ (IsTrue (one_may_assign s blocks (f p.path n) k b)
      ⊎ (IsTrue (one_may_reach s links (f p.path n) k b) ⊎ IsInputOfTop d p n)))

abbrev pub BitsAreDrivenTheSame : Type 0
BitsAreDrivenTheSame =
    (d : Design) (f : Naming) (s : Scope) (links : List (Target × Expression)) (blocks clocked : List Statement) (p : Placed) (n : Name) (k b : ℕ)
    → ¬ Breaks d undeclared → IsNaming d f → IsFlat d f s links blocks clocked → IsPlacedIn d p → IsDeclared p n
    → IsDrivenTheSame d f s links blocks clocked p n k b
