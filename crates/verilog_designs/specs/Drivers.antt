-- What drives the bits of a module, and which bits are read (1364-2005, 4.2, 6.1, 9.2, 12.3).
use Rattle.std.specs.Prelude.{◌≡◌, ℕ, Bool, true, false, not, ◌||◌, List, [], ◌∷◌, ◌++◌, slice_get, Contains, Option, Some, None, is_some, IsTrue}
use Rattle.wb_values.specs.Value.{Name}
use Rattle.verilog_trees.specs.Syntax.{Expression, Target, place, joined, Targets, no_targets, target, Statement, empty, blocking, nonblocking, if_then, if_else, case, block, Statements, no_statements, statement, CaseItems, no_items, arm, default_arm, input, output}
use Rattle.verilog_meaning.specs.Expression.{Object, Scope, is_memory}
use Rattle.verilog_meaning.specs.Register.{clocked_blocks, combinational_blocks, is_bit_of, may_reach, may_assign}
use Rattle.verilog_meaning.specs.Hierarchy.{Declaration, declarations, declaration_of, Placed, placed_scope}
use Rattle.verilog_meaning.specs.Settled.{Design, IsPlacedIn, IsDeclared, assignments, as_target, Connection, port_connections, IsConnectedTo, HasPort, IsBitOf, IsDriven}
use Rattle.verilog_designs.specs.Ports.{is_input, is_reg}
use Rattle.verilog_designs.specs.Clocks.{IsClockNet}
use Rattle.verilog_designs.specs.Reads.{BitSet, reads, target_reads, items_read}

-- ---- drivers

abbrev mutual
  -- the parts of a target, each by itself
  pub parts_of : Target → List Target
  parts_of (place n x) = place n x ∷ []
  parts_of (joined ts) = all_parts_of ts

  pub all_parts_of : Targets → List Target
  all_parts_of no_targets = []
  all_parts_of (target t ts) = parts_of t ++ all_parts_of ts

-- What drives bits of a module from within it: a part of a continuous assignment's target; a part of what is connected to an
-- output of an instance; a clocked block; a combinational block. Each stands at a place of its list.
pub data Driver : Type 0 where
  assigned connected : (number part : ℕ) → Driver
  clocked combinational : (number : ℕ) → Driver

-- the target that an output of an instance drives
pub record IsOutputTarget (d : Design) (p : Placed) (c : Connection) (t : Target) : Type 0 where
  pub below : Placed
  pub port : Name
  pub is_output : IsConnectedTo d p c below port output
  pub is_target : as_target c.expression ≡ Some t

-- Some assignment to this part, or some run of this block, may drive the bit.
abbrev pub MayDrive : Design → Placed → Driver → Name → (word bit : ℕ) → Type 0
MayDrive d p (assigned i j) n k b =
    (a : Target × Expression) × (t : Target) × (slice_get (assignments p.of_module.items) i ≡ Some a) × (slice_get (parts_of a.0) j ≡ Some t)
    × IsTrue (may_reach (placed_scope p) t n k b)
MayDrive d p (connected i j) n k b =
    (c : Connection) × (whole : Target) × (t : Target) × (slice_get (port_connections p.of_module.items) i ≡ Some c)
    × IsOutputTarget d p c whole × (slice_get (parts_of whole) j ≡ Some t) × IsTrue (may_reach (placed_scope p) t n k b)
MayDrive d p (clocked i) n k b =
    (x : Statement) × (slice_get (clocked_blocks p.of_module.items) i ≡ Some x) × IsTrue (may_assign (placed_scope p) x n k b)
MayDrive d p (combinational i) n k b =
    (x : Statement) × (slice_get (combinational_blocks p.of_module.items) i ≡ Some x) × IsTrue (may_assign (placed_scope p) x n k b)

-- the same bit, or some bits of the same memory
abbrev pub IsSameDriven : Object → (word bit word2 bit2 : ℕ) → Type 0
IsSameDriven o k b l c = cond_type (is_memory o)
  where
    cond_type : Bool → Type 0
    cond_type true = Unit {0}
    cond_type false = (k ≡ l) × (b ≡ c)

-- A bit, or a memory, has two drivers.
pub record HasTwoDrivers (d : Design) (p : Placed) : Type 0 where
  pub name : Name
  pub word : ℕ
  pub bit : ℕ
  pub word2 : ℕ
  pub bit2 : ℕ
  pub one : Driver
  pub other : Driver
  pub is_bit : IsTrue (is_bit_of (placed_scope p name) word bit)
  pub is_bit2 : IsTrue (is_bit_of (placed_scope p name) word2 bit2)
  pub is_same : IsSameDriven (placed_scope p name) word bit word2 bit2
  pub are_two : ¬ (one ≡ other)
  pub one_drives : MayDrive d p one name word bit
  pub other_drives : MayDrive d p other name word2 bit2

abbrev mutual
  pub target_names : Target → List Name
  target_names (place n x) = n ∷ []
  target_names (joined ts) = targets_names ts

  pub targets_names : Targets → List Name
  targets_names no_targets = []
  targets_names (target t ts) = target_names t ++ targets_names ts

abbrev mutual
  -- the names that a statement assigns
  pub assigned_names : Statement → List Name
  assigned_names empty = []
  assigned_names (blocking t e) = target_names t
  assigned_names (nonblocking t e) = target_names t
  assigned_names (if_then c x) = assigned_names x
  assigned_names (if_else c x y) = assigned_names x ++ assigned_names y
  assigned_names (case kind e items) = assigned_in_arms items
  assigned_names (block n xs) = assigned_in_all xs

  pub assigned_in_all : Statements → List Name
  assigned_in_all no_statements = []
  assigned_in_all (statement x xs) = assigned_names x ++ assigned_in_all xs

  pub assigned_in_arms : CaseItems → List Name
  assigned_in_arms no_items = []
  assigned_in_arms (arm es x items) = assigned_names x ++ assigned_in_arms items
  assigned_in_arms (default_arm x items) = assigned_names x ++ assigned_in_arms items

abbrev pub is_declared_reg : Option Declaration → Bool
is_declared_reg None = false
is_declared_reg (Some d) = is_reg d.kind

abbrev pub is_declared_input : Option Declaration → Bool
is_declared_input None = false
is_declared_input (Some d) = is_input d.direction

-- a variable: a name that is declared reg
abbrev pub is_variable : Placed → Name → Bool
is_variable p n = is_declared_reg (declaration_of (declarations p.of_module) n)

-- an input port, or a parameter: nothing may assign it
abbrev pub is_fixed : Placed → Name → Bool
is_fixed p n = is_declared_input (declaration_of (declarations p.of_module) n) || is_some (placed_scope p n).constant

-- BadDriver: a bit or memory has two drivers; a wire is assigned in a block; a variable by a continuous assignment or an instance's
-- output; an input port or a parameter by any of these.
pub data HasBadDriver (d : Design) : Type 0 where
  two : (p : Placed) → IsPlacedIn d p → HasTwoDrivers d p → HasBadDriver d
  in_clocked : (p : Placed) (x : Statement) (n : Name) → IsPlacedIn d p → Contains (clocked_blocks p.of_module.items) x
      → Contains (assigned_names x) n → IsTrue (not (is_variable p n) || is_fixed p n) → HasBadDriver d
  in_combinational : (p : Placed) (x : Statement) (n : Name) → IsPlacedIn d p → Contains (combinational_blocks p.of_module.items) x
      → Contains (assigned_names x) n → IsTrue (not (is_variable p n) || is_fixed p n) → HasBadDriver d
  by_assignment : (p : Placed) (a : Target × Expression) (n : Name) → IsPlacedIn d p → Contains (assignments p.of_module.items) a
      → Contains (target_names a.0) n → IsTrue (is_variable p n || is_fixed p n) → HasBadDriver d
  by_output : (p : Placed) (c : Connection) (t : Target) (n : Name) → IsPlacedIn d p → Contains (port_connections p.of_module.items) c
      → IsOutputTarget d p c t → Contains (target_names t) n → IsTrue (is_variable p n || is_fixed p n) → HasBadDriver d

-- ---- what is read

abbrev mutual
  -- the bits that a statement reads anywhere
  pub statement_reads : Scope → Statement → BitSet
  statement_reads s empty n k b = false
  statement_reads s (blocking t e) n k b = reads s e n k b || target_reads s t n k b
  statement_reads s (nonblocking t e) n k b = reads s e n k b || target_reads s t n k b
  statement_reads s (if_then c x) n k b = reads s c n k b || statement_reads s x n k b
  statement_reads s (if_else c x y) n k b = reads s c n k b || (statement_reads s x n k b || statement_reads s y n k b)
  statement_reads s (case kind e items) n k b = reads s e n k b || (items_read s items n k b || arms_read s items n k b)
  statement_reads s (block m xs) n k b = statements_read s xs n k b

  pub statements_read : Scope → Statements → BitSet
  statements_read s no_statements n k b = false
  statements_read s (statement x xs) n k b = statement_reads s x n k b || statements_read s xs n k b

  pub arms_read : Scope → CaseItems → BitSet
  arms_read s no_items n k b = false
  arms_read s (arm es x items) n k b = statement_reads s x n k b || arms_read s items n k b
  arms_read s (default_arm x items) n k b = statement_reads s x n k b || arms_read s items n k b

-- The bit is read: by an assignment, a block or what is connected to an input; or as a bit of an output that is connected to
-- something. Events read nothing.
pub data IsRead (d : Design) (p : Placed) (n : Name) (k b : ℕ) : Type 0 where
  by_assignment : (a : Target × Expression) → Contains (assignments p.of_module.items) a → IsTrue (reads (placed_scope p) a.1 n k b)
      → IsRead d p n k b
  by_clocked : (x : Statement) → Contains (clocked_blocks p.of_module.items) x → IsTrue (statement_reads (placed_scope p) x n k b)
      → IsRead d p n k b
  by_combinational : (x : Statement) → Contains (combinational_blocks p.of_module.items) x
      → IsTrue (statement_reads (placed_scope p) x n k b) → IsRead d p n k b
  by_input : (c : Connection) (below : Placed) (m : Name) → Contains (port_connections p.of_module.items) c
      → IsConnectedTo d p c below m input → IsTrue (reads (placed_scope p) c.expression n k b) → IsRead d p n k b
  by_output : (around : Placed) (c : Connection) → IsPlacedIn d around → Contains (port_connections around.of_module.items) c
      → IsConnectedTo d around c p n output → IsBitOf p n k b → IsRead d p n k b
  as_output_of_top : p.path ≡ [] → HasPort p.of_module n output → IsBitOf p n k b → IsRead d p n k b

-- the bit has a driver; of a memory some bit that it has
abbrev pub IsDrivenAs : (of_memory : Bool) → Design → Placed → Name → (word bit : ℕ) → Type 0
IsDrivenAs false d p n k b = IsDriven d p n k b
IsDrivenAs true d p n k b = (l : ℕ) × (c : ℕ) × IsBitOf p n l c × IsDriven d p n l c

abbrev pub HasDriver : Design → Placed → Name → (word bit : ℕ) → Type 0
HasDriver d p n k b = IsDrivenAs (is_memory (placed_scope p n)) d p n k b

-- Undriven: a bit or memory that is read, or an output of the top, has no driver.
pub record HasUndriven (d : Design) : Type 0 where
  pub place : Placed
  pub name : Name
  pub word : ℕ
  pub bit : ℕ
  pub is_placed : IsPlacedIn d place
  pub is_declared : IsDeclared place name
  pub is_read : IsRead d place name word bit
  pub no_clock : ¬ IsClockNet d place name
  pub undriven : ¬ HasDriver d place name word bit
