-- Two valuations agree on a bit where they agree on all that gives it its value.
use Rattle.std.specs.Prelude.{◌≡◌, Contains, Some, IsTrue}
use Rattle.wb_values.specs.Value.{Name, Valuation}
use Rattle.verilog_trees.specs.Syntax.{Expression, Target, Statement, input, output}
use Rattle.verilog_meaning.specs.Register.{combinational_blocks, value_bit, may_reach, may_assign}
use Rattle.verilog_meaning.specs.Hierarchy.{Placed, placed_scope}
use Rattle.verilog_meaning.specs.Settled.{Design, IsPlacedIn, inside, IsDeclared, assignments, as_target, whole_of, whole_name, Connection, port_connections, IsConnectedTo}
use Rattle.verilog_designs.specs.Dependence.{Bit, IsBitIn, IsGivenBy, at_start, After}

-- the two give the bit one value
abbrev pub Agree : (v w : Valuation) → Placed → Bit → Type 0
Agree v w p u = value_bit (inside v p u.of_name) u.word u.place ≡ value_bit (inside w p u.of_name) u.word u.place

-- a bit of a declared name
pub record IsBitDeclared (p : Placed) (u : Bit) : Type 0 where
  pub is_declared : IsDeclared p u.of_name
  pub is_bit : IsBitIn p u

-- Where a driver may drive a bit of a declared name, the two agree on it if they agree on all bits on which it depends through that
-- driver: a continuous assignment, a combinational block, what is connected to an input, an output of an instance.
pub record AreLocal (d : Design) (v w : Valuation) : Type 0 where
  pub assignment : (p : Placed) (a : Target × Expression) (u : Bit) → IsPlacedIn d p → Contains (assignments p.of_module.items) a
      → IsBitDeclared p u → IsTrue (may_reach (placed_scope p) a.0 u.of_name u.word u.place)
      → ((y : Bit) → IsGivenBy (placed_scope p) a.0 (placed_scope p) a.1 u y → Agree v w p y) → Agree v w p u
  pub block : (p : Placed) (x : Statement) (u : Bit) → IsPlacedIn d p → Contains (combinational_blocks p.of_module.items) x
      → IsBitDeclared p u → IsTrue (may_assign (placed_scope p) x u.of_name u.word u.place)
      → ((y : Bit) → After (placed_scope p) at_start x u y → Agree v w p y) → Agree v w p u
  pub input_port : (p below : Placed) (c : Connection) (u : Bit) → IsPlacedIn d p → Contains (port_connections p.of_module.items) c
      → IsConnectedTo d p c below u.of_name input → IsBitDeclared below u
      → ((y : Bit) → IsGivenBy (placed_scope below) (whole_of u.of_name) (placed_scope p) c.expression u y → Agree v w p y) → Agree v w below u
  pub output_port : (p below : Placed) (c : Connection) (n : Name) (t : Target) (u : Bit) → IsPlacedIn d p
      → Contains (port_connections p.of_module.items) c → IsConnectedTo d p c below n output → as_target c.expression ≡ Some t
      → IsBitDeclared p u → IsTrue (may_reach (placed_scope p) t u.of_name u.word u.place)
      → ((y : Bit) → IsGivenBy (placed_scope p) t (placed_scope below) (whole_name n) u y → Agree v w below y) → Agree v w p u
