use Rattle.std.proofs.Common.{◌≡◌, ◌++◌, take}
use Rattle.run_terms.proofs.leaves.joined.Given as goal

abbrev pub invariant-loop-id : goal.invariant-loop-id
invariant-loop-id l = l.ids.items ≡ take l.id-index l.front

abbrev pub invariant-loop-id-2 : goal.invariant-loop-id-2
invariant-loop-id-2 l = l.ids.items ≡ l.front ++ take l.id-index l.back
