-- What is asked of a list of items before two drivers, bits without drivers, latches and loops are looked for, from its drivers alone.
use Rattle.std.specs.Prelude.{List}
use Rattle.verilog_trees.specs.Syntax.{Item}
use Rattle.verilog_meaning.specs.Expression.{Scope}
use Rattle.verilog_meaning.specs.Register.{clocked_blocks, combinational_blocks}
use Rattle.verilog_meaning.specs.Settled.{Design, assignments}
use Rattle.v_value.specs.Narrow.{HasNarrowObjects}
use Rattle.v_drivers.specs.Premises.{AreNarrowItems}
use Rattle.v_paths.specs.Modules.{AreFitItems}
use Rattle.v_undriven.specs.Premises.{AreNarrowReads}
use Rattle.v_loops.specs.Turns.{IsRunnable}
use Rattle.flat_designs.specs.Flat.{Naming, IsFlat}
use Rattle.flat_rules.specs.Sound.{HasSoundModules}
use Rattle.flat_rules.specs.Drivers.{DriversBreakNothing, KnowsNoOtherNames}

-- Drivers, bits without drivers, latches and lists of events, and loops may be looked for.
pub record AreFitForAll (s : Scope) (items : List Item) : Type 0 where
  pub for_drivers : AreNarrowItems s items
  pub for_reads : AreNarrowReads s items
  pub for_paths : AreFitItems s items
  pub for_loops : IsRunnable s items

-- In any scope that fits words, items whose drivers break no rule are fit.
abbrev pub UnbrokenDriversAreFit : Type 0
UnbrokenDriversAreFit =
    (s : Scope) (items : List Item) → HasNarrowObjects s
    → DriversBreakNothing s (assignments items) (combinational_blocks items) (clocked_blocks items) → AreFitForAll s items

-- So are items with the drivers of a design in one scope, where its modules break none of the rules on expressions.
abbrev pub FlatItemsAreFit : Type 0
FlatItemsAreFit =
    (d : Design) (f : Naming) (s : Scope) (items : List Item) → HasSoundModules d
    → IsFlat d f s (assignments items) (combinational_blocks items) (clocked_blocks items) → KnowsNoOtherNames d f s → AreFitForAll s items
