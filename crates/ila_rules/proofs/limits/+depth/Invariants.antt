use Rattle.std.proofs.Common.{◌≡◌, drop}
use Rattle.ila_file.specs.View.{instructions_view}
use Rattle.ila_file.specs.Places.{way_of}
use Rattle.ila_rules.specs.Limits.{first_deeper}
use Rattle.ila_rules.proofs.limits.+depth.Given as goal

abbrev pub invariant-deeper_child-loop-index : goal.invariant-deeper_child-loop-index
invariant-deeper_child-loop-index l =
    (first_deeper (way_of l.initial.place) l.left 0 (instructions_view l.instruction-items)
    ≡ first_deeper (way_of l.initial.place) l.left l.index (instructions_view (drop l.index l.instruction-items)))
    × (way_of l.place ≡ way_of l.initial.place)
