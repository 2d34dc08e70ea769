use Rattle.std.proofs.Common.{◌≡◌, drop}
use Rattle.verilog_trees.specs.Syntax.{Source}
use Rattle.v_instances.specs.Interface.{AreInterfacesOf}
use Rattle.v_places.specs.Views.{spots_of}
use Rattle.v_clocks.specs.Data.{has_data, has_data_from}
use Rattle.v_clocks.specs.Whole.{AreFirst}
use Rattle.v_clocks.specs.Views.{sets_of}
use Rattle.v_clocks.proofs.data.in_places.Given as goal

abbrev pub invariant-loop-number : goal.invariant-loop-number
invariant-loop-number l =
    (source : Source) → AreInterfacesOf l.interfaces source → AreFirst source (spots_of l.places)
    → has_data (sets_of l.nets) (spots_of l.places) ≡ has_data_from (sets_of l.nets) l.number (spots_of (drop l.number l.places))
