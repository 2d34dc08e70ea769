-- Which bits the drivers of a design in one scope read, and which bits are read there and have no driver.
use Rattle.std.specs.Prelude.{◌≡◌, ◌⊎◌, ◌↔◌, ℕ, Bool, true, false, [], List, Contains, IsTrue}
use Rattle.wb_values.specs.Value.{Name}
use Rattle.verilog_trees.specs.Syntax.{Expression, Target, Statement, input, output}
use Rattle.verilog_meaning.specs.Expression.{Scope, is_memory}
use Rattle.verilog_meaning.specs.Register.{is_bit_of, one_may_assign, counts}
use Rattle.verilog_meaning.specs.Hierarchy.{Placed}
use Rattle.verilog_meaning.specs.Settled.{Design, IsPlacedIn, IsDeclared, HasPort, one_may_reach, IsBitOf}
use Rattle.verilog_designs.specs.Reads.{reads}
use Rattle.verilog_designs.specs.Drivers.{statement_reads, IsRead, HasUndriven}
use Rattle.verilog_designs.specs.Accepted.{undeclared, duplicate_name, bad_port, Breaks}
use Rattle.flat_designs.specs.Flat.{Naming, IsNaming, IsFlat}

-- ---- what is read

-- The right side of an assignment, or a block, reads the bit.
pub data IsReadFlat (s : Scope) (links : List (Target × Expression)) (blocks clocked : List Statement) (n : Name) (k b : ℕ) : Type 0 where
  by_link : (a : Target × Expression) → Contains links a → IsTrue (reads s a.1 n k b) → IsReadFlat s links blocks clocked n k b
  by_block : (x : Statement) → Contains blocks x → IsTrue (statement_reads s x n k b) → IsReadFlat s links blocks clocked n k b
  by_clocked : (x : Statement) → Contains clocked x → IsTrue (statement_reads s x n k b) → IsReadFlat s links blocks clocked n k b

-- The name is an output of the top.
pub record IsOutputOfTop (p : Placed) (n : Name) : Type 0 where
  pub at_top : p.path ≡ []
  pub is_port : HasPort p.of_module n output

-- A bit of a module is read in the design exactly where the flat drivers read it, or it is a bit of an output of the top.
abbrev pub BitsAreReadTheSame : Type 0
BitsAreReadTheSame =
    (d : Design) (f : Naming) (s : Scope) (links : List (Target × Expression)) (blocks clocked : List Statement) (p : Placed) (n : Name) (k b : ℕ)
    → ¬ Breaks d undeclared → ¬ Breaks d duplicate_name → ¬ Breaks d bad_port → IsNaming d f → IsFlat d f s links blocks clocked → IsPlacedIn d p
    → IsDeclared p n
    → IsRead d p n k b ↔ (IsReadFlat s links blocks clocked (f p.path n) k b ⊎ (IsOutputOfTop p n × IsBitOf p n k b))

-- ---- what has no driver

-- A clocked block, another block or an assignment may drive the bit.
abbrev pub IsDrivenFlat : Scope → List (Target × Expression) → (blocks clocked : List Statement) → Name → (word bit : ℕ) → Type 0
IsDrivenFlat s links blocks clocked n k b =
    IsTrue (counts s clocked n k b) ⊎ (IsTrue (one_may_assign s blocks n k b) ⊎ IsTrue (one_may_reach s links n k b))

-- the bit has a driver; of a memory some bit that it has
abbrev pub HasFlatDriverAs : (of_memory : Bool) → Scope → List (Target × Expression) → (blocks clocked : List Statement) → Name → (word bit : ℕ) → Type 0
HasFlatDriverAs false s links blocks clocked n k b = IsDrivenFlat s links blocks clocked n k b
HasFlatDriverAs true s links blocks clocked n k b = (l : ℕ) × (c : ℕ) × IsTrue (is_bit_of (s n) l c) × IsDrivenFlat s links blocks clocked n l c

-- A bit of a module is read and has no flat driver, and it is neither the clock nor an input of the top.
pub record HasUndrivenFlat (d : Design) (f : Naming) (s : Scope) (links : List (Target × Expression)) (blocks clocked : List Statement) : Type 0 where
  pub place : Placed
  pub name : Name
  pub word : ℕ
  pub bit : ℕ
  pub is_placed : IsPlacedIn d place
  pub is_declared : IsDeclared place name
  pub is_read : IsReadFlat s links blocks clocked (f place.path name) word bit ⊎ (IsOutputOfTop place name × IsBitOf place name word bit)
  pub needs : place.path ≡ [] → (name ≡ d.clock) ⊎ HasPort place.of_module name input → ⊥
  pub undriven : ¬ HasFlatDriverAs (is_memory (s (f place.path name))) s links blocks clocked (f place.path name) word bit

abbrev pub UndrivenBitsAreTheSame : Type 0
UndrivenBitsAreTheSame =
    (d : Design) (f : Naming) (s : Scope) (links : List (Target × Expression)) (blocks clocked : List Statement) → ¬ Breaks d undeclared
    → ¬ Breaks d duplicate_name → ¬ Breaks d bad_port → IsNaming d f → IsFlat d f s links blocks clocked
    → HasUndriven d ↔ HasUndrivenFlat d f s links blocks clocked
