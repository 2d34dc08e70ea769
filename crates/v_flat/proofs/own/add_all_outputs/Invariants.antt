use Rattle.std.proofs.Common.{◌≡◌, length, drop}
use Rattle.verilog_trees.specs.Syntax as pure
use Rattle.v_renamed.specs.NewNames.{new_name}
use Rattle.v_instances.specs.Interface.{AreInterfacesOf}
use Rattle.v_places.specs.Views.{spots_of}
use Rattle.v_flat.specs.Outputs.{all_added}
use Rattle.v_flat.specs.Paths.{AreRowsOf}
use Rattle.v_flat.specs.Views.{lists_of}
use Rattle.v_flat.proofs.own.add_all_outputs.Given as goal

abbrev pub invariant-loop-place : goal.invariant-loop-place
invariant-loop-place l =
    (source : pure.Source) → AreInterfacesOf l.interfaces source → AreRowsOf source (length l.places) (spots_of l.places)
    → all_added (new_name l.names) (spots_of (drop l.place-index l.places)) (lists_of l.lists.items)
    ≡ all_added (new_name l.names) (spots_of l.places) (lists_of l.initial.lists.items)
