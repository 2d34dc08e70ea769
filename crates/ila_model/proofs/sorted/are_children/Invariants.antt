use Rattle.std.proofs.Common.{◌≡◌, drop}
use Rattle.ila_model.specs.Sorted.{are_children}
use Rattle.ila_model.proofs.sorted.are_children.Given as goal

abbrev pub invariant-loop-place : goal.invariant-loop-place
invariant-loop-place l =
    are_children l.parts 0 l.parts.children.items ≡ are_children l.parts l.place (drop l.place l.parts.children.items)
