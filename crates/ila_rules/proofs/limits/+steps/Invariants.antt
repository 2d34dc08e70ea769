use Rattle.std.proofs.Common.{◌≡◌, drop}
use Rattle.ila_file.specs.View.{instructions_view}
use Rattle.ila_file.specs.Places.{way_of}
use Rattle.ila_rules.specs.Limits.{first_limit}
use Rattle.ila_rules.proofs.limits.+steps.Given as goal

abbrev pub invariant-unlimited_child-loop-index : goal.invariant-unlimited_child-loop-index
invariant-unlimited_child-loop-index l =
    (first_limit (way_of l.initial.place) 0 (instructions_view l.instruction-items)
    ≡ first_limit (way_of l.initial.place) l.index (instructions_view (drop l.index l.instruction-items)))
    × (way_of l.place ≡ way_of l.initial.place)
