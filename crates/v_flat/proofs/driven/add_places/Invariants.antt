use Rattle.std.proofs.Common.{◌≡◌, ◌++◌, length, map, drop}
use Rattle.verilog_trees.specs.Syntax as pure
use Rattle.v_syntax.specs.Source.{item_of}
use Rattle.v_instances.specs.Interface.{AreInterfacesOf}
use Rattle.v_places.specs.Views.{spots_of}
use Rattle.v_flat.specs.Paths.{AreRowsOf}
use Rattle.v_flat.specs.Items.{items_from}
use Rattle.v_flat.specs.Views.{namings}
use Rattle.v_flat.proofs.driven.add_places.Given as goal

abbrev pub invariant-loop-number : goal.invariant-loop-number
invariant-loop-number l =
    (source : pure.Source) → AreInterfacesOf l.interfaces source → AreRowsOf source (length l.places) (spots_of l.places)
    → map item_of l.initial.list.items ++ items_from (namings l.tables) 0 (spots_of l.places)
    ≡ map item_of l.list.items ++ items_from (namings l.tables) l.number (spots_of (drop l.number l.places))
