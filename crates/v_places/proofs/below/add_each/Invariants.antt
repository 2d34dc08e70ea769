use Rattle.std.proofs.Common.{drop}
use Rattle.v_syntax.specs.Source.{module_of}
use Rattle.v_constants.specs.Given.{given_of}
use Rattle.v_places.specs.Below.{each_spot}
use Rattle.v_places.specs.Views.{spots_of}
use Rattle.v_places.proofs.Rooms.{IsAdding}
use Rattle.v_places.proofs.Parts.{pairs_of}
use Rattle.v_places.proofs.below.add_each.Given as goal

abbrev pub invariant-loop-instance : goal.invariant-loop-instance
invariant-loop-instance l =
    IsAdding l.count l.sum (spots_of l.queue.items) (spots_of l.initial.queue.items)
    (each_spot l.parent (module_of l.below) (given_of l.given) (pairs_of (drop l.instance-index l.instances)))
    (each_spot l.parent (module_of l.below) (given_of l.given) (pairs_of l.instances))
