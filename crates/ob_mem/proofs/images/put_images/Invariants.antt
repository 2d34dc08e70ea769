use Rattle.std.proofs.Common.{◌≤◌, ◌+◌, length, take}
use Rattle.std.specs.Prelude.{nat_eq}
use Rattle.std.specs.HashMap.{get}
use Rattle.sat_gates.specs.Cone.{places}
use Rattle.sat_gates.proofs.Reached.{AreDone}
use Rattle.ob_mem.specs.Rows.{Grows}
use Rattle.ob_mem.specs.Images.{HasImage}
use Rattle.ob_mem.specs.Size.{total_count}
use Rattle.ob_mem.proofs.images.put_images.Given as goal

abbrev pub invariant-loop-place : goal.invariant-loop-place
invariant-loop-place l =
    Grows l.fn.terms l.terms
    × AreDone (HasImage l.old.names l.list l.old l.terms (get nat_eq l.images)) (places l.ids) l.place
    × (length l.terms.nodes ≤ length l.fn.terms.nodes + total_count l.old (take l.place (places l.ids)))
