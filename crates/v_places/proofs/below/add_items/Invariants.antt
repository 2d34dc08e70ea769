use Rattle.std.proofs.Common.{◌≡◌, drop}
use Rattle.v_value.specs.Scope.{objects_of}
use Rattle.v_places.specs.Below.{Spot}
use Rattle.v_places.specs.Views.{spots_of, module_in}
use Rattle.v_places.proofs.Rooms.{IsAdding}
use Rattle.v_places.proofs.Parts.{items_below}
use Rattle.v_places.proofs.below.add_items.Given as goal

abbrev pub invariant-loop-item : goal.invariant-loop-item
invariant-loop-item l =
    (x : Spot) → x.constants ≡ objects_of l.around.scope.now.declarations.items
    → IsAdding l.count l.sum (spots_of l.queue.items) (spots_of l.initial.queue.items) (items_below (module_in l.modules l.numbers) l.parent x (drop l.item-index l.items))
    (items_below (module_in l.modules l.numbers) l.parent x l.items)
