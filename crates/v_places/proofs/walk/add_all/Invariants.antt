use Rattle.std.proofs.Common.{◌≡◌, ◌≤◌, ◌+◌, ◌-◌, ◌∷◌, [], ◌++◌, length}
use Rattle.verilog_trees.specs.Syntax.{Module, Source}
use Rattle.v_places.specs.Below.{top_spot}
use Rattle.v_places.specs.Walk.{IsWalked}
use Rattle.v_places.specs.Views.{spots_of}
use Rattle.v_places.specs.Whole.{Knows}
use Rattle.v_places.proofs.walk.add_all.Given as goal

abbrev pub invariant-loop-place : goal.invariant-loop-place
invariant-loop-place l =
    (l.number ≡ length l.list.items) × (l.count ≡ length l.list.items + length l.queue.items) × (l.count ≤ 65537)
    × ((source : Source) (top : Module) → Knows l.modules l.numbers source → spots_of l.initial.queue.items ≡ top_spot top ∷ []
    → IsWalked source top l.number (spots_of l.list.items ++ spots_of l.queue.items))

abbrev pub decreases-loop-place : goal.decreases-loop-place
decreases-loop-place l = 65537 - l.number
