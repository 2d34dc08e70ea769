-- Blocks: their lists of events, which assignments stand in them, and whether each path through them assigns what they assign
-- (1364-2005, 9.2, 9.7).
use Rattle.std.specs.Prelude.{◌≡◌, ◌≢◌, ℕ, Bool, true, false, not, ◌||◌, List, [], ◌∷◌, Contains, is_none, IsTrue}
use Rattle.wb_values.specs.Value.{Name}
use Rattle.verilog_trees.specs.Syntax.{Statement, empty, blocking, nonblocking, if_then, if_else, case, block, Statements, no_statements, statement, CaseItems, no_items, arm, default_arm, posedge, any_edge, Event, Events, any_change, on_events, always}
use Rattle.verilog_meaning.specs.Expression.{Scope, object_width, is_memory}
use Rattle.verilog_meaning.specs.Register.{clocked_blocks, combinational_blocks, is_bit_of, may_assign}
use Rattle.verilog_meaning.specs.Hierarchy.{Placed, placed_scope}
use Rattle.verilog_meaning.specs.Settled.{Design, IsPlacedIn, IsDeclared}
use Rattle.verilog_designs.specs.Names.{is_among}
use Rattle.verilog_designs.specs.Clocks.{IsClockNet}
use Rattle.verilog_designs.specs.Reads.{reads_outside, surely_assigns}

-- ---- events

-- posedge of a clock net
abbrev pub IsClockEdge : Design → Placed → Event → Type 0
IsClockEdge d p e = (e.edge ≡ posedge) × IsClockNet d p e.signal

-- an edge of a net or variable of one bit
pub record IsBitEdge (p : Placed) (e : Event) : Type 0 where
  pub edge : e.edge ≢ any_edge
  pub is_declared : IsDeclared p e.signal
  pub no_memory : is_memory (placed_scope p e.signal) ≡ false
  pub one_bit : object_width (placed_scope p e.signal) ≡ 1

abbrev pub signals : List Event → List Name
signals [] = []
signals (e ∷ es) = e.signal ∷ signals es

-- names alone, which cover all that the statement reads from outside
pub record CoversReads (p : Placed) (es : List Event) (x : Statement) : Type 0 where
  pub plain : (e : Event) → Contains es e → e.edge ≡ any_edge
  pub covers : (n : Name) (k b : ℕ) → IsTrue (reads_outside (placed_scope p) x n k b) → IsTrue (is_among (signals es) n)

-- The lists of events that a block may have: a clock's edge; that and another name's edge, in either order; `*`; names that cover
-- what it reads.
pub data IsEventList (d : Design) (p : Placed) (x : Statement) : Events → Type 0 where
  star : IsEventList d p x any_change
  one_clock : (c : Event) → IsClockEdge d p c → IsEventList d p x (on_events (c ∷ []))
  clock_first : (c e : Event) → IsClockEdge d p c → IsBitEdge p e → c.signal ≢ e.signal → IsEventList d p x (on_events (c ∷ e ∷ []))
  clock_second : (c e : Event) → IsClockEdge d p c → IsBitEdge p e → c.signal ≢ e.signal → IsEventList d p x (on_events (e ∷ c ∷ []))
  names : (es : List Event) → CoversReads p es x → IsEventList d p x (on_events es)

-- BadEventList: a block has none of these.
pub record HasBadEventList (d : Design) : Type 0 where
  pub place : Placed
  pub events : Events
  pub statement : Statement
  pub is_placed : IsPlacedIn d place
  pub stands : Contains place.of_module.items (always events statement)
  pub bad : ¬ IsEventList d place statement events

-- ---- assignments

abbrev mutual
  pub has_blocking : Statement → Bool
  has_blocking empty = false
  has_blocking (blocking t e) = true
  has_blocking (nonblocking t e) = false
  has_blocking (if_then c x) = has_blocking x
  has_blocking (if_else c x y) = has_blocking x || has_blocking y
  has_blocking (case kind e items) = an_arm_has_blocking items
  has_blocking (block n xs) = one_has_blocking xs

  pub one_has_blocking : Statements → Bool
  one_has_blocking no_statements = false
  one_has_blocking (statement x xs) = has_blocking x || one_has_blocking xs

  pub an_arm_has_blocking : CaseItems → Bool
  an_arm_has_blocking no_items = false
  an_arm_has_blocking (arm es x items) = has_blocking x || an_arm_has_blocking items
  an_arm_has_blocking (default_arm x items) = has_blocking x || an_arm_has_blocking items

abbrev mutual
  pub has_nonblocking : Statement → Bool
  has_nonblocking empty = false
  has_nonblocking (blocking t e) = false
  has_nonblocking (nonblocking t e) = true
  has_nonblocking (if_then c x) = has_nonblocking x
  has_nonblocking (if_else c x y) = has_nonblocking x || has_nonblocking y
  has_nonblocking (case kind e items) = an_arm_has_nonblocking items
  has_nonblocking (block n xs) = one_has_nonblocking xs

  pub one_has_nonblocking : Statements → Bool
  one_has_nonblocking no_statements = false
  one_has_nonblocking (statement x xs) = has_nonblocking x || one_has_nonblocking xs

  pub an_arm_has_nonblocking : CaseItems → Bool
  an_arm_has_nonblocking no_items = false
  an_arm_has_nonblocking (arm es x items) = has_nonblocking x || an_arm_has_nonblocking items
  an_arm_has_nonblocking (default_arm x items) = has_nonblocking x || an_arm_has_nonblocking items

-- BlockingInClocked: a blocking assignment in a clocked block.
pub record HasBlockingInClocked (d : Design) : Type 0 where
  pub place : Placed
  pub statement : Statement
  pub is_placed : IsPlacedIn d place
  pub stands : Contains (clocked_blocks place.of_module.items) statement
  pub blocks : IsTrue (has_blocking statement)

-- NonblockingInComb: a nonblocking assignment in a combinational block.
pub record HasNonblockingInComb (d : Design) : Type 0 where
  pub place : Placed
  pub statement : Statement
  pub is_placed : IsPlacedIn d place
  pub stands : Contains (combinational_blocks place.of_module.items) statement
  pub waits : IsTrue (has_nonblocking statement)

-- ---- paths

-- A bit of a net or variable that the block may assign: it is not assigned on each path, or is read before it was assigned.
abbrev pub is_latched : Scope → Statement → Name → (word place : ℕ) → Bool
is_latched s x n k b = not (surely_assigns s x n k b) || reads_outside s x n k b

-- Latch: in a combinational block. (A parameter has no bits.)
pub record HasLatch (d : Design) : Type 0 where
  pub place : Placed
  pub statement : Statement
  pub name : Name
  pub word : ℕ
  pub bit : ℕ
  pub is_placed : IsPlacedIn d place
  pub stands : Contains (combinational_blocks place.of_module.items) statement
  pub is_variable : is_none (placed_scope place name).constant ≡ true
  pub is_bit : IsTrue (is_bit_of (placed_scope place name) word bit)
  pub is_assigned : IsTrue (may_assign (placed_scope place) statement name word bit)
  pub latched : IsTrue (is_latched (placed_scope place) statement name word bit)
