use Rattle.std.proofs.Common.{◌≡◌, drop}
use Rattle.verilog_trees.specs.Syntax.{Source}
use Rattle.v_instances.specs.Interface.{AreInterfacesOf}
use Rattle.v_places.specs.Views.{spots_of}
use Rattle.v_clocks.specs.Nets.{nets_after, nets_of}
use Rattle.v_clocks.specs.Whole.{AreFirst}
use Rattle.v_clocks.specs.Views.{sets_of}
use Rattle.v_clocks.proofs.nets.all_nets.Given as goal

abbrev pub invariant-loop-place : goal.invariant-loop-place
invariant-loop-place l =
    (source : Source) → AreInterfacesOf l.interfaces source → AreFirst source (spots_of l.places)
    → nets_after l.clock (sets_of l.nets.items) (spots_of (drop l.place-index l.places)) ≡ nets_of l.clock (spots_of l.places)
