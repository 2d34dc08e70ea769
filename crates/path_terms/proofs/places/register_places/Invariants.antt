use Rattle.std.proofs.Common.{ℕ, List}
use Rattle.std.specs.Ordering.{nat_cmp}
use Rattle.std.specs.Cmp.Lexicographic.{slice_cmp}
use Rattle.std.specs.BTreeMap.{get_by}
use Rattle.v_design.specs.Seen.{parts_of}
use Rattle.path_terms.specs.Places.{IsPlaceBelow, register_at}
use Rattle.path_terms.proofs.places.register_places.Given as goal

abbrev pub invariant-loop-place : goal.invariant-loop-place
invariant-loop-place l = (n : List ℕ) → IsPlaceBelow (register_at (parts_of l.design)) l.place n (get_by (λ key. slice_cmp nat_cmp n key.now) l.places)
