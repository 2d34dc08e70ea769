-- Blocks of a module: latches, and lists of events that they may not have.
use Rattle.std.specs.Prelude.{◌≡◌, Bool, false, List, [], ◌∷◌, ◌⊎◌, Contains}
use Rattle.wb_values.specs.Value.{Name}
use Rattle.verilog_trees.specs.Syntax.{Statement, Events, Item, port, parameter, wires, variables, assign, always, instances}
use Rattle.verilog_meaning.specs.Expression.{Scope}
use Rattle.verilog_meaning.specs.Register.{is_clocked, combinational_blocks}
use Rattle.v_flow.specs.Narrow.{IsNarrowFlow}
use Rattle.v_paths.specs.Premises.{AssignsNoMemory}
use Rattle.v_paths.specs.Latches.{HasLatchedBit}
use Rattle.v_paths.specs.Events.{IsEventListIn}

-- A block is narrow, and assigns no memory where it is combinational.
pub record IsFitBlock (s : Scope) (es : Events) (x : Statement) : Type 0 where
  pub narrow : IsNarrowFlow s x
  pub no_memory : is_clocked es ≡ false → AssignsNoMemory s x

abbrev pub IsFitItem : Scope → Item → Type 0
IsFitItem s (port d) = Unit {0}
IsFitItem s (parameter d) = Unit {0}
IsFitItem s (wires signed r ws) = Unit {0}
IsFitItem s (variables signed r vs) = Unit {0}
IsFitItem s (assign ts) = Unit {0}
IsFitItem s (always es x) = IsFitBlock s es x
IsFitItem s (instances m given is) = Unit {0}

abbrev pub AreFitItems : Scope → List Item → Type 0
AreFitItems s [] = Unit {0}
AreFitItems s (i ∷ items) = IsFitItem s i × AreFitItems s items

-- Latch: in a combinational block
pub record HasLatchIn (s : Scope) (items : List Item) : Type 0 where
  pub statement : Statement
  pub stands : Contains (combinational_blocks items) statement
  pub latched : HasLatchedBit s statement

-- BadEventList: the list of a block is none of those that it may have.
pub record HasBadEventListIn (s : Scope) (is_clock_net : Name → Bool) (items : List Item) : Type 0 where
  pub events : Events
  pub statement : Statement
  pub stands : Contains items (always events statement)
  pub bad : ¬ IsEventListIn s is_clock_net statement events

-- ---- item by item

abbrev pub IsLatchedItem : Scope → Item → Type 0
IsLatchedItem s (port d) = ⊥
IsLatchedItem s (parameter d) = ⊥
IsLatchedItem s (wires signed r ws) = ⊥
IsLatchedItem s (variables signed r vs) = ⊥
IsLatchedItem s (assign ts) = ⊥
IsLatchedItem s (always es x) = (is_clocked es ≡ false) × HasLatchedBit s x
IsLatchedItem s (instances m given is) = ⊥

abbrev pub IsBadItem : Scope → (is_clock_net : Name → Bool) → Item → Type 0
IsBadItem s is_clock_net (port d) = ⊥
IsBadItem s is_clock_net (parameter d) = ⊥
IsBadItem s is_clock_net (wires signed r ws) = ⊥
IsBadItem s is_clock_net (variables signed r vs) = ⊥
IsBadItem s is_clock_net (assign ts) = ⊥
IsBadItem s is_clock_net (always es x) = ¬ IsEventListIn s is_clock_net x es
IsBadItem s is_clock_net (instances m given is) = ⊥

-- one of them is so
abbrev pub OneIs : (Item → Type 0) → List Item → Type 0
OneIs is_so [] = ⊥
OneIs is_so (i ∷ items) = is_so i ⊎ OneIs is_so items
