use Rattle.std.proofs.Common.{◌≡◌, ◌++◌, map, drop}
use Rattle.v_syntax.specs.Source.{item_of}
use Rattle.emitted_modules.specs.Rtl.{wire_item}
use Rattle.emitted_modules.specs.Module.{all_ways}
use Rattle.emitted_names.specs.Parts.{update_of}
use Rattle.emitted_trees.proofs.ways.with_all_vias.Given as goal

abbrev pub invariant-loop-place : goal.invariant-loop-place
invariant-loop-place l =
    map item_of l.all.items ++ map wire_item (all_ways l.wires.terms.now (map (update_of l.wires.terms.now) (drop l.place l.ways)))
    ≡ map item_of l.fn.items.items ++ map wire_item (all_ways l.wires.terms.now (map (update_of l.wires.terms.now) l.ways))
