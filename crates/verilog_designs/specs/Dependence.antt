-- Which bits of a design depend on which, through continuous assignments, combinational blocks and connections of ports. Registers
-- and the inputs of the top depend on nothing.
use Rattle.std.specs.Prelude.{◌≡◌, ◌⊎◌, ℕ, ◌-◌, ◌%◌, Bool, true, false, cond, not, ◌&&◌, ◌||◌, nat_lt, List, Contains, Option, Some, None, is_none, ℤ, pos, negsuc, ◌+ℤ◌, ◌-ℤ◌, IsTrue}
use Rattle.wb_values.specs.Value.{Name}
use Rattle.wb_values.specs.Choice.{some_if}
use Rattle.verilog_trees.specs.Syntax.{Expression, number, name, concatenation, replication, as_signed, as_unsigned, unary, reduction, binary, shift, power, comparison, logical, conditional, Expressions, no_expressions, expression, Selects, Target, place, joined, Targets, no_targets, target, Statement, empty, blocking, nonblocking, if_then, if_else, case, block, Statements, no_statements, statement, CaseItems, no_items, arm, default_arm, input, output}
use Rattle.verilog_meaning.specs.Expression.{Object, Scope, no_values, sign_of, width_of, widths_of, selects_width}
use Rattle.verilog_meaning.specs.Statement.{Cell, variable_cell, word_cell, no_cell, Place, named_place, target_width, targets_width}
use Rattle.verilog_meaning.specs.Register.{selects_are_constant, is_bit_of, may_reach, may_assign, may_assign_in_case, combinational_blocks}
use Rattle.verilog_meaning.specs.Hierarchy.{PathStep, Placed, placed_scope}
use Rattle.verilog_meaning.specs.Settled.{Design, IsPlacedIn, assignments, as_target, whole_of, whole_name, Connection, port_connections, IsConnectedTo}
use Rattle.verilog_designs.specs.Reads.{BitSet, reads, or_in, selects_read, items_read, surely_reaches, is_full}

-- a bit of a module: of a name, a word of it (0 where it is no memory), and a place in the word
pub record Bit : Type 0 where
  pub of_name : Name
  pub word : ℕ
  pub place : ℕ

abbrev pub is_in : BitSet → Bit → Bool
is_in bits u = bits u.of_name u.word u.place

-- ---- plain right sides

abbrev mutual
  -- Names, constant selects, numbers, concatenations and replications alone.
  pub is_plain : Scope → Expression → Bool
  is_plain s (number k) = true
  is_plain s (name n x) = selects_are_constant s x
  is_plain s (concatenation es) = are_plain s es
  is_plain s (replication k es) = are_plain s es
  is_plain s (as_signed x) = false
  is_plain s (as_unsigned x) = false
  is_plain s (unary op x) = false
  is_plain s (reduction op x) = false
  is_plain s (binary op x y) = false
  is_plain s (shift op x n) = false
  is_plain s (power x n) = false
  is_plain s (comparison op x y) = false
  is_plain s (logical op x y) = false
  is_plain s (conditional c x y) = false

  pub are_plain : Scope → Expressions → Bool
  are_plain s no_expressions = true
  are_plain s (expression e es) = is_plain s e && are_plain s es

abbrev pub word_of_cell : Cell → Option ℕ
word_of_cell variable_cell = Some 0
word_of_cell (word_cell k) = Some k
word_of_cell no_cell = None

abbrev pub natural_in : ℤ → Option ℕ
natural_in (pos n) = Some n
natural_in (negsuc n) = None

abbrev pub bit_in : Object → Name → Option ℕ → Option ℕ → Option Bit
bit_in o n (Some k) (Some b) = some_if (is_none o.constant && is_bit_of o k b) (record { of_name = n; word = k; place = b })
bit_in o n _ _ = None

-- The bit at place j of a name with constant selects; none where that is out of range, and none of a parameter.
abbrev pub bit_at : Scope → Name → Selects → ℕ → Option Bit
bit_at s n x j =
    let p : Place = named_place s no_values n x in
    bit_in (s n) n (word_of_cell p.cell) (natural_in (p.bits.low +ℤ pos j))

-- at place j of it in a wider context: past its width copies of the top bit where the context is signed
abbrev pub widened_bit : Scope → Bool → Name → Selects → ℕ → Option Bit
widened_bit s signed n x j =
    let w : ℕ = selects_width s (s n) x in
    cond (nat_lt j w) (bit_at s n x j) (cond signed (bit_at s n x (w - 1)) None)

abbrev mutual
  -- The bit that a plain expression copies to place j, in a context of this sign; none where the place has a constant.
  pub copied : Scope → Expression → Bool → ℕ → Option Bit
  copied s (number k) signed j = None
  copied s (name n x) signed j = widened_bit s signed n x j
  copied s (concatenation es) signed j = copied_in s es j
  copied s (replication k es) signed j = cond (nat_lt j (width_of s (replication k es))) (copied_in s es (j % widths_of s es)) None
  copied s (as_signed x) signed j = None
  copied s (as_unsigned x) signed j = None
  copied s (unary op x) signed j = None
  copied s (reduction op x) signed j = None
  copied s (binary op x y) signed j = None
  copied s (shift op x n) signed j = None
  copied s (power x n) signed j = None
  copied s (comparison op x y) signed j = None
  copied s (logical op x y) signed j = None
  copied s (conditional c x y) signed j = None

  -- the parts side by side, the last at the low end
  pub copied_in : Scope → Expressions → ℕ → Option Bit
  copied_in s no_expressions j = None
  copied_in s (expression e es) j =
      cond (nat_lt j (widths_of s es)) (copied_in s es j)
      (cond (nat_lt (j - widths_of s es) (width_of s e)) (copied s e (sign_of s e) (j - widths_of s es)) None)

-- ---- targets

abbrev pub is_same_cell : Option ℕ → ℕ → Bool
is_same_cell None k = false
is_same_cell (Some j) k = not (nat_lt j k) && not (nat_lt k j)

-- A bit of the target may get the bit at place j of the value: with constant selects that at its own place, and with a variable
-- index any of the part's.
abbrev pub part_takes : Scope → Name → Selects → Bit → ℕ → Bool
part_takes s n x u j =
    may_reach s (place n x) u.of_name u.word u.place
    && cond (selects_are_constant s x)
    (is_same_cell (natural_in (pos u.place -ℤ (named_place s no_values n x).bits.low)) j)
    (nat_lt j (selects_width s (s n) x))

abbrev mutual
  -- Of a bit that stands twice in the target the leftmost part's value stays.
  pub takes : Scope → Target → Bit → ℕ → Bool
  takes s (place n x) u j = part_takes s n x u j
  takes s (joined ts) u j = one_takes s ts u j

  pub one_takes : Scope → Targets → Bit → ℕ → Bool
  one_takes s no_targets u j = false
  one_takes s (target t ts) u j =
      (not (nat_lt j (targets_width s ts)) && takes s t u (j - targets_width s ts))
      || (not (is_in (surely_reaches s t) u) && one_takes s ts u j)

abbrev mutual
  -- the bits of the indexes of the parts that may give the bit its value
  pub index_reads : Scope → Target → Bit → BitSet
  index_reads s (place n x) u m k b = may_reach s (place n x) u.of_name u.word u.place && selects_read s x m k b
  index_reads s (joined ts) u m k b = one_index_reads s ts u m k b

  pub one_index_reads : Scope → Targets → Bit → BitSet
  one_index_reads s no_targets u m k b = false
  one_index_reads s (target t ts) u m k b =
      index_reads s t u m k b || (not (is_in (surely_reaches s t) u) && one_index_reads s ts u m k b)

-- The bit of the target gets its value from this bit: the one that is copied to it, where the right side is plain, and else each
-- that the right side reads. The target and the expression have scopes of their own, as the two sides of a connection do.
pub data IsGivenBy (around : Scope) (t : Target) (inner : Scope) (e : Expression) (u y : Bit) : Type 0 where
  copied_to : (j : ℕ) → IsTrue (is_plain inner e) → IsTrue (nat_lt j (target_width around t)) → IsTrue (takes around t u j)
      → copied inner e (sign_of inner e) j ≡ Some y → IsGivenBy around t inner e u y
  computed : IsTrue (not (is_plain inner e)) → IsTrue (may_reach around t u.of_name u.word u.place) → IsTrue (is_in (reads inner e) y)
      → IsGivenBy around t inner e u y

-- ---- blocks

-- what each bit depends on, at some point of a block, of the bits outside it
abbrev pub Dependences : Type 1
Dependences = Bit → Bit → Type 0

-- at the beginning each bit is the one outside
abbrev pub at_start : Dependences
at_start u y = u ≡ y

-- some bit that is read depends on it
abbrev pub ThroughReads : Dependences → BitSet → Bit → Type 0
ThroughReads before bits y = (x : Bit) × IsTrue (is_in bits x) × before x y

-- After an assignment: what the bit depended on before, where it keeps its value or may; what its new value depends on; and what the
-- indexes depend on by which it may be reached.
pub data AfterAssignment (s : Scope) (before : Dependences) (t : Target) (e : Expression) (u y : Bit) : Type 0 where
  kept : IsTrue (not (is_in (surely_reaches s t) u)) → before u y → AfterAssignment s before t e u y
  given : (x : Bit) → IsGivenBy s t s e u x → before x y → AfterAssignment s before t e u y
  indexed : ThroughReads before (index_reads s t u) y → AfterAssignment s before t e u y

-- After a choice by a condition: where some branch assigns the bit, what the condition depends on and what the branches leave; else
-- what was before.
abbrev pub AfterChoice : (some_branch_assigns : Bool) → (condition branches otherwise : Type 0) → Type 0
AfterChoice true condition branches otherwise = condition ⊎ branches
AfterChoice false condition branches otherwise = otherwise

-- the path on which no arm of a case is taken, where there is one
abbrev pub NoArm : (is_full_case : Bool) → Type 0 → Type 0
NoArm true otherwise = ⊥
NoArm false otherwise = otherwise

abbrev mutual
  pub After : Scope → Dependences → Statement → Dependences
  After s before empty u y = before u y
  After s before (blocking t e) u y = AfterAssignment s before t e u y
  After s before (nonblocking t e) u y = before u y
  After s before (if_then c x) u y =
      AfterChoice (may_assign s x u.of_name u.word u.place) (ThroughReads before (reads s c) y) (After s before x u y ⊎ before u y) (before u y)
  After s before (if_else c x z) u y =
      AfterChoice (may_assign s x u.of_name u.word u.place || may_assign s z u.of_name u.word u.place) (ThroughReads before (reads s c) y)
      (After s before x u y ⊎ After s before z u y) (before u y)
  After s before (case kind e items) u y =
      AfterChoice (may_assign_in_case s items u.of_name u.word u.place) (ThroughReads before (or_in (reads s e) (items_read s items)) y)
      (AfterArms s before items u y ⊎ NoArm (is_full s kind e items) (before u y)) (before u y)
  After s before (block n xs) u y = AfterAll s before xs u y

  pub AfterAll : Scope → Dependences → Statements → Dependences
  AfterAll s before no_statements u y = before u y
  AfterAll s before (statement x xs) u y = AfterAll s (After s before x) xs u y

  pub AfterArms : Scope → Dependences → CaseItems → Dependences
  AfterArms s before no_items u y = ⊥
  AfterArms s before (arm es x items) u y = After s before x u y ⊎ AfterArms s before items u y
  AfterArms s before (default_arm x items) u y = After s before x u y ⊎ AfterArms s before items u y

-- ---- designs

-- a bit of a module of the design
pub record PlacedBit : Type 0 where
  pub path : List PathStep
  pub bit : Bit

abbrev pub bit_of : Placed → Bit → PlacedBit
bit_of p u = record { path = p.path; bit = u }

abbrev pub IsBitIn : Placed → Bit → Type 0
IsBitIn p u = IsTrue (is_bit_of (placed_scope p u.of_name) u.word u.place)

-- One bit depends on another by one assignment, one block or one connection.
pub data Depends (d : Design) : PlacedBit → PlacedBit → Type 0 where
  by_assignment : (p : Placed) (a : Target × Expression) (u y : Bit) → IsPlacedIn d p → Contains (assignments p.of_module.items) a
      → IsBitIn p u → IsGivenBy (placed_scope p) a.0 (placed_scope p) a.1 u y → Depends d (bit_of p u) (bit_of p y)
  by_block : (p : Placed) (x : Statement) (u y : Bit) → IsPlacedIn d p → Contains (combinational_blocks p.of_module.items) x
      → IsBitIn p u → IsTrue (may_assign (placed_scope p) x u.of_name u.word u.place) → After (placed_scope p) at_start x u y
      → Depends d (bit_of p u) (bit_of p y)
  by_input : (p below : Placed) (c : Connection) (n : Name) (u y : Bit) → IsPlacedIn d p → Contains (port_connections p.of_module.items) c
      → IsConnectedTo d p c below n input → IsBitIn below u
      → IsGivenBy (placed_scope below) (whole_of n) (placed_scope p) c.expression u y → Depends d (bit_of below u) (bit_of p y)
  by_output : (p below : Placed) (c : Connection) (n : Name) (t : Target) (u y : Bit) → IsPlacedIn d p
      → Contains (port_connections p.of_module.items) c → IsConnectedTo d p c below n output → as_target c.expression ≡ Some t → IsBitIn p u
      → IsGivenBy (placed_scope p) t (placed_scope below) (whole_name n) u y → Depends d (bit_of p u) (bit_of below y)

-- by one or more steps
pub data DependsFar (d : Design) : PlacedBit → PlacedBit → Type 0 where
  step : (u y : PlacedBit) → Depends d u y → DependsFar d u y
  further : (u x y : PlacedBit) → Depends d u x → DependsFar d x y → DependsFar d u y

-- CombLoop: a bit depends on itself.
pub record HasLoop (d : Design) : Type 0 where
  pub bit : PlacedBit
  pub loops : DependsFar d bit bit
