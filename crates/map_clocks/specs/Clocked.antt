-- Dotted names that lead to clock nets.
use Rattle.std.specs.Prelude.{◌≡◌, ℕ, Bool, false, List, [], slice_get, Option, Some, None}
use Rattle.wb_values.specs.Value.{Name}
use Rattle.verilog_trees.specs.Syntax.{input}
use Rattle.verilog_meaning.specs.Hierarchy.{Placed}
use Rattle.verilog_meaning.specs.Settled.{Design, at_path, HasPort}
use Rattle.refinement.specs.Map.{dotted_parts}
use Rattle.verilog_exists.specs.Exists.{NamesHaveNoDots}
use Rattle.v_places.specs.Below.{Spot}
use Rattle.v_clocks.specs.Whole.{AreClockNets}
use Rattle.map_paths.specs.Located.{Below, AreBelow, AreStanding, located}

-- a name of a set, where there is one
abbrev pub is_in : Option (Name → Bool) → Name → Bool
is_in None n = false
is_in (Some own) n = own n

-- a clock net of the module with this number
abbrev pub is_net_in : List (Name → Bool) → ℕ → Name → Bool
is_net_in nets k n = is_in (slice_get nets k) n

abbrev pub is_net_where : List (Name → Bool) → Option (ℕ × Name) → Bool
is_net_where nets None = false
is_net_where nets (Some p) = is_net_in nets p.0 p.1

-- the name leads to a clock net
abbrev pub is_clock_named : Below → List (Name → Bool) → Name → Bool
is_clock_named below nets n = is_net_where nets (located below 0 (dotted_parts n))

-- The list has the modules of the design, these are the instances in each and the clock nets of each; no name has a dot, and the clock is
-- an input of the top.
pub record HasClockNets (d : Design) (spots : List Spot) (below : Below) (nets : List (Name → Bool)) : Type 0 where
  pub standing : AreStanding d spots
  pub are_below : AreBelow spots below
  pub are_nets : AreClockNets d spots nets
  pub no_dots : NamesHaveNoDots d.source
  pub clock : (p : Placed) → at_path d [] ≡ Some p → HasPort p.of_module d.clock input
