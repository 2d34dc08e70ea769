-- What is left where the drivers of a module are evaluated one after the other: each bit gets its settled value, if all bits had
-- theirs on which it depends, and all other bits stay.
use Rattle.std.specs.Prelude.{◌≡◌, ◌≢◌, ℕ, false, [], Contains, Some, IsTrue}
use Rattle.wb_values.specs.Value.{Name, Valuation}
use Rattle.verilog_trees.specs.Syntax.{Expression, Target, Statement, input, output}
use Rattle.verilog_meaning.specs.Expression.{Scope, assigned_value}
use Rattle.verilog_meaning.specs.Statement.{places, target_width, written, run}
use Rattle.verilog_meaning.specs.Register.{combinational_blocks, value_bit, may_reach, may_assign}
use Rattle.verilog_meaning.specs.Hierarchy.{Placed, placed_scope}
use Rattle.verilog_meaning.specs.Settled.{Design, IsPlacedIn, inside, IsDeclared, IsValueOf, HasPort, is_counted, assignments, as_target, whole_of, whole_name, Connection, port_connections, IsConnectedTo, IsSettled}
use Rattle.verilog_designs.specs.Dependence.{Bit, IsGivenBy, at_start, After}
use Rattle.verilog_settled.specs.Locality.{IsSame}
use Rattle.verilog_unique.specs.Agreement.{IsBitDeclared}
use Rattle.verilog_unique.specs.Unique.{NumbersFit}
use Rattle.verilog_exists.specs.Exists.{IsShapely}
use Rattle.verilog_exists.specs.Loops.{IsAcceptedButForLoops}
use Rattle.verilog_order.specs.Grounded.{IsUndriven}

-- The design breaks no rule but perhaps that on loops, its tree is that of a text, and v is settled for registers and inputs.
pub record HasSettled (d : Design) (registers inputs v : Valuation) : Type 0 where
  pub accepted : IsAcceptedButForLoops d
  pub numbers_fit : NumbersFit d.source
  pub shapely : IsShapely d
  pub settled : IsSettled d registers inputs v

-- Each name that the module declares has a value of its object.
abbrev pub HasValues : Placed → Valuation → Type 0
HasValues p u = (n : Name) → IsDeclared p n → IsValueOf (placed_scope p n) (u n)

-- ---- at the beginning

-- A bit that no assignment, no connection and no block drives has what the registers give it, where it counts; what the inputs give
-- it, as a bit of an input of the top but the clock; and else it is not set.
pub record IsGivenOutside (d : Design) (registers inputs v : Valuation) (p : Placed) (b : Bit) : Type 0 where
  pub held : IsTrue (is_counted p b.of_name b.word b.place) → IsSame (inside v p) (inside registers p) b
  pub input_held : p.path ≡ [] → HasPort p.of_module b.of_name input → b.of_name ≢ d.clock → IsSame (inside v p) inputs b
  pub unset : is_counted p b.of_name b.word b.place ≡ false → ¬ (p.path ≡ [] × HasPort p.of_module b.of_name input × (b.of_name ≢ d.clock))
      → value_bit (inside v p b.of_name) b.word b.place ≡ false

abbrev pub UndrivenBitsAreGiven : Type 0
UndrivenBitsAreGiven =
    (d : Design) (registers inputs v : Valuation) (p : Placed) (b : Bit)
    → HasSettled d registers inputs v → IsPlacedIn d p → IsBitDeclared p b → IsUndriven d p b → IsGivenOutside d registers inputs v p b

-- ---- a target gets the value of an expression

-- what is left after the value of an expression of one module was written to a target of another one, or of the same
abbrev pub after_link : (around inner : Scope) (u w : Valuation) → Target → Expression → Valuation
after_link around inner u w t e = written around u (places around u t) (assigned_value inner w (target_width around t) e)

-- a continuous assignment
abbrev pub after_assignment : Scope → Valuation → Target × Expression → Valuation
after_assignment s u a = after_link s s u u a.0 a.1

-- A bit that it reaches has its settled value after it, where all bits had theirs that give it its value.
abbrev pub AssignmentsSettle : Type 0
AssignmentsSettle =
    (d : Design) (registers inputs v u : Valuation) (p : Placed) (a : Target × Expression) (b : Bit)
    → HasSettled d registers inputs v → IsPlacedIn d p → HasValues p u → Contains (assignments p.of_module.items) a
    → IsBitDeclared p b → IsTrue (may_reach (placed_scope p) a.0 b.of_name b.word b.place)
    → ((y : Bit) → IsGivenBy (placed_scope p) a.0 (placed_scope p) a.1 b y → IsSame u (inside v p) y)
    → IsSame (after_assignment (placed_scope p) u a) (inside v p) b

-- what is connected to an input, and an output, with the valuations u around and w below
abbrev pub InputsSettle : Type 0
InputsSettle =
    (d : Design) (registers inputs v u w : Valuation) (p below : Placed) (c : Connection) (n : Name) (b : Bit)
    → HasSettled d registers inputs v → IsPlacedIn d p → IsPlacedIn d below → HasValues p u → HasValues below w
    → Contains (port_connections p.of_module.items) c → IsConnectedTo d p c below n input
    → IsBitDeclared below b → IsTrue (may_reach (placed_scope below) (whole_of n) b.of_name b.word b.place)
    → ((y : Bit) → IsGivenBy (placed_scope below) (whole_of n) (placed_scope p) c.expression b y → IsSame u (inside v p) y)
    → IsSame (after_link (placed_scope below) (placed_scope p) w u (whole_of n) c.expression) (inside v below) b

abbrev pub OutputsSettle : Type 0
OutputsSettle =
    (d : Design) (registers inputs v u w : Valuation) (p below : Placed) (c : Connection) (n : Name) (t : Target) (b : Bit)
    → HasSettled d registers inputs v → IsPlacedIn d p → IsPlacedIn d below → HasValues p u → HasValues below w
    → Contains (port_connections p.of_module.items) c → IsConnectedTo d p c below n output → as_target c.expression ≡ Some t
    → IsBitDeclared p b → IsTrue (may_reach (placed_scope p) t b.of_name b.word b.place)
    → ((y : Bit) → IsGivenBy (placed_scope p) t (placed_scope below) (whole_name n) b y → IsSame w (inside v below) y)
    → IsSame (after_link (placed_scope p) (placed_scope below) u w t (whole_name n)) (inside v p) b

-- Bits that the target does not reach stay.
abbrev pub LinksKeep : Type 0
LinksKeep =
    (d : Design) (p : Placed) (u : Valuation) (t : Target) (x : ℕ) (b : Bit)
    → IsPlacedIn d p → IsBitDeclared p b → HasValues p u → HasValues p (written (placed_scope p) u (places (placed_scope p) u t) x)
    → may_reach (placed_scope p) t b.of_name b.word b.place ≡ false
    → IsSame (written (placed_scope p) u (places (placed_scope p) u t) x) u b

-- ---- a block

abbrev pub BlocksSettle : Type 0
BlocksSettle =
    (d : Design) (registers inputs v u : Valuation) (p : Placed) (x : Statement) (b : Bit)
    → HasSettled d registers inputs v → IsPlacedIn d p → HasValues p u → Contains (combinational_blocks p.of_module.items) x
    → IsBitDeclared p b → ((y : Bit) → After (placed_scope p) at_start x b y → IsSame u (inside v p) y)
    → IsSame (run (placed_scope p) x u).valuation (inside v p) b

abbrev pub BlocksKeep : Type 0
BlocksKeep =
    (d : Design) (p : Placed) (u : Valuation) (x : Statement) (b : Bit)
    → IsPlacedIn d p → IsBitDeclared p b → HasValues p u → HasValues p (run (placed_scope p) x u).valuation
    → may_assign (placed_scope p) x b.of_name b.word b.place ≡ false → IsSame (run (placed_scope p) x u).valuation u b

-- ---- values

-- What is left after an assignment, a connection or a block are values of the declared names again.
abbrev pub AssignmentsKeepValues : Type 0
AssignmentsKeepValues =
    (d : Design) (p : Placed) (u : Valuation) (a : Target × Expression)
    → IsAcceptedButForLoops d → IsShapely d → IsPlacedIn d p → HasValues p u → Contains (assignments p.of_module.items) a
    → HasValues p (after_assignment (placed_scope p) u a)

abbrev pub InputsKeepValues : Type 0
InputsKeepValues =
    (d : Design) (p below : Placed) (u w : Valuation) (c : Connection) (n : Name)
    → IsAcceptedButForLoops d → IsShapely d → IsPlacedIn d p → IsPlacedIn d below → HasValues below w
    → Contains (port_connections p.of_module.items) c → IsConnectedTo d p c below n input
    → HasValues below (after_link (placed_scope below) (placed_scope p) w u (whole_of n) c.expression)

abbrev pub OutputsKeepValues : Type 0
OutputsKeepValues =
    (d : Design) (p below : Placed) (u w : Valuation) (c : Connection) (n : Name) (t : Target)
    → IsAcceptedButForLoops d → IsShapely d → IsPlacedIn d p → HasValues p u → Contains (port_connections p.of_module.items) c
    → IsConnectedTo d p c below n output → as_target c.expression ≡ Some t
    → HasValues p (after_link (placed_scope p) (placed_scope below) u w t (whole_name n))

abbrev pub BlocksKeepValues : Type 0
BlocksKeepValues =
    (d : Design) (p : Placed) (u : Valuation) (x : Statement)
    → IsAcceptedButForLoops d → IsShapely d → IsPlacedIn d p → HasValues p u → Contains (combinational_blocks p.of_module.items) x
    → HasValues p (run (placed_scope p) x u).valuation

-- Where each declared bit has its settled value, so has each declared name.
abbrev pub AllBitsSettled : Type 0
AllBitsSettled =
    (d : Design) (registers inputs v u : Valuation) (p : Placed) (n : Name)
    → IsSettled d registers inputs v → IsPlacedIn d p → HasValues p u → ((b : Bit) → IsBitDeclared p b → IsSame u (inside v p) b)
    → IsDeclared p n → u n ≡ inside v p n
