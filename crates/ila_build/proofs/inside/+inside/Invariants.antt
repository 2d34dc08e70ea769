use Rattle.std.proofs.Common.{drop}
use Rattle.ila_file.specs.View.{instructions_view}
use Rattle.ila_build.specs.Refusing.{AreFitBelow, names_below}
use Rattle.ila_build.specs.Leaving.{HasInFront}
use Rattle.ila_build.specs.Sizes.{size_below}
use Rattle.ila_build.proofs.Fresh.{IsBringing}
use Rattle.ila_build.proofs.LeavingLemmas.{IsLeaving}
use Rattle.ila_build.proofs.InsideLemmas.{AreToPutInside}
use Rattle.ila_build.proofs.LayoutLemmas.{AreToLay}
use Rattle.ila_build.proofs.inside.+inside.Given as goal

abbrev pub invariant-put_children-loop-instruction : goal.invariant-put_children-loop-instruction
invariant-put_children-loop-instruction l =
    AreToPutInside l.initial.terms l.initial.known l.initial.children.items l.terms l.known l.children.items (instructions_view (drop l.instruction-index l.instruction-items)) (instructions_view l.instruction-items)
    × IsBringing l.initial.known l.known (names_below (instructions_view (drop l.instruction-index l.instruction-items))) (names_below (instructions_view l.instruction-items))
    × (AreFitBelow (instructions_view l.instruction-items) → AreFitBelow (instructions_view (drop l.instruction-index l.instruction-items)))
    × AreToLay l.initial.terms l.initial.known l.initial.children.items l.terms l.children.items l.around (instructions_view (drop l.instruction-index l.instruction-items)) (instructions_view l.instruction-items)
    × IsLeaving l.initial.terms l.initial.known l.terms l.known (names_below (instructions_view (drop l.instruction-index l.instruction-items))) (size_below (instructions_view (drop l.instruction-index l.instruction-items))) (names_below (instructions_view l.instruction-items)) (size_below (instructions_view l.instruction-items))
    × HasInFront l.initial.children.items l.children.items
